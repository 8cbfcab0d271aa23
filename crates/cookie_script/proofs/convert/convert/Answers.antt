use Rattle.std.proofs.Common.{◌≡◌, Err, IfErr, List, ℕ, Ok, OnOk, Option, Result, subst, sym}
use Rattle.std.specs.Io.KnownBytes.{IsAtEnd}
use Rattle.cookie_device.specs.Device.{SinkState, SourceState}
use Rattle.cookie_parts.specs.declared.error.Error.{Error}
use Rattle.cookie_store.specs.Contents.{rows_in_order}
use Rattle.cookie_store.specs.Migration.{HaveSavedForms, Migrates}
use Rattle.cookie_store.specs.RonLists.{SerializesToRonList}
use Rattle.cookie_store.specs.Rows.{RowsInOrder}
use Rattle.cookie_store.specs.SavedLists.{FailsToSaveList, WritesList}
use Rattle.cookie_script.specs.Conversion.{list_fault, Converts, FailsToConvert}
use Rattle.cookie_script.specs.declared.error.ConvertFault.{ConvertFault}
use Rattle.cookie_script.proofs.Converted.{not_written}
use Rattle.cookie_script.proofs.convert.convert.Goals as goal

-- the list of rows that were built was written
list_written : (result : Result (Unit {0}) ConvertFault) (known old new : Option (List ℕ)) (kept : RowsInOrder) → Migrates known kept
    → OnOk result (WritesList SerializesToRonList kept.rows old new) → OnOk result (Converts known old new)
list_written (Ok done) known old new kept migrates written = (kept, migrates, written)
list_written (Err fault) known old new kept migrates written = tt

-- the list of rows that were built was not written
list_failed : (result : Result (Unit {0}) ConvertFault) (old new : SourceState) (before after : SinkState) (kept : RowsInOrder)
    → Migrates old.remaining kept → HaveSavedForms kept.rows → IsAtEnd new.remaining
    → IfErr result (λ fault. (error : Error) × (fault ≡ list_fault error) × FailsToSaveList SerializesToRonList error kept.rows before after)
    → IfErr result (λ fault. FailsToConvert fault old new before after)
list_failed (Ok done) old new before after kept migrates saved end failed = tt
list_failed (Err fault) old new before after kept migrates saved end (error, is, fails) =
    subst (λ f. FailsToConvert f old new before after) (sym is) (not_written error old new before after kept migrates saved end fails)

pub returns-clause-whole : goal.returns-clause-whole
returns-clause-whole g c =
    list_written c.write_list.result _ _ _ (rows_in_order c.in_ok-store.store) c.in_ok-store.ensures.built c.write_list.ensures.whole

pub returns-clause-failed : goal.returns-clause-failed
returns-clause-failed g c =
    let lines = g.R.Source.state in
    let list = g.W.Sink.state in
    list_failed c.write_list.result (lines c.args.source.now) (lines c.migrate_lines.new.reader) (list c.args.sink.now) (list c.write_list.new.sink)
    (rows_in_order c.in_ok-store.store) c.in_ok-store.ensures.built c.in_ok-store.ensures.saved c.in_ok-store.ensures.read.0 c.write_list.ensures.failed

pub returns-clause-count : goal.returns-clause-count
returns-clause-count g c = rw c.in_ok-store.ensures.read.1 (c.write_list.ensures.count _)
