-- What it means that the list of a conversion was not written.
use Rattle.std.proofs.Common.{◌≡◌, false, List, map, Err, inl, inr, subst, sym}
use Rattle.std.specs.Io.KnownBytes.{IsAtEnd}
use Rattle.std.specs.List.{list_any}
use Rattle.cookie_device.specs.Device.{SinkState, SourceState}
use Rattle.cookie_forms.specs.ToJson.{is_early}
use Rattle.cookie_parts.specs.Cookie.{Row}
use Rattle.cookie_parts.specs.SavedConversion.{saved_of}
use Rattle.cookie_parts.specs.declared.error.Error.{Error}
use Rattle.cookie_parts.specs.declared.error.Error.TheVariants as Store
use Rattle.cookie_store.specs.SavedLists.{FailsToSaveList}
use Rattle.cookie_store.specs.Migration.{HaveSavedForms, Migrates}
use Rattle.cookie_store.specs.RonLists.{SerializesToRonList}
use Rattle.cookie_store.specs.Rows.{RowsInOrder}
use Rattle.cookie_script.specs.Conversion.{list_fault, FailsToConvert}

-- rows with saved forms have a list, so an error is out of memory
unsaid : (rows : List Row) (error : Error) → HaveSavedForms rows → SerializesToRonList rows (Err error) → error ≡ Store.Memory
unsaid rows error saved says = let none : list_any is_early (map saved_of rows) ≡ false = saved in rw none at says

-- all lines were read, and the list of their rows was not written
pub not_written : (error : Error) (old new : SourceState) (before after : SinkState) (kept : RowsInOrder) → Migrates old.remaining kept → HaveSavedForms kept.rows → IsAtEnd new.remaining
    → FailsToSaveList SerializesToRonList error kept.rows before after → FailsToConvert (list_fault error) old new before after
not_written error old new before after kept migrates saved end (inl (says, keeps, count)) =
    let memory : error ≡ Store.Memory = unsaid kept.rows error saved says in
    subst (λ e. FailsToConvert (list_fault e) old new before after) (sym memory)
    (inr (end, (kept, migrates, subst (λ e. SerializesToRonList kept.rows (Err e)) memory says)), keeps)
not_written error old new before after kept migrates saved end (inr (text, says, begins, is, count)) =
    subst (λ e. FailsToConvert (list_fault e) old new before after) (sym is) (end, (kept, migrates, text, says, begins))
