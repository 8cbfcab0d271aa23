-- Why rows cannot be saved in a format.
use Rattle.std.proofs.Common.{◌≡◌, ◌⊎◌, inl, inr, ℕ, List, map, Result, Ok, Err, IsOk, ap, false, refl, subst, sym}
use Rattle.std.specs.Result.{result_map_both}
use Rattle.serde_json.specs.Data.{Data}
use Rattle.cookie_forms.specs.JsonText.{pretty_text}
use Rattle.cookie_forms.specs.ToJson.{list_written}
use Rattle.cookie_forms.specs.declared.error.SavedError.{SavedError}
use Rattle.cookie_netscape.specs.declared.error.NetscapeError.{NetscapeError}
use Rattle.cookie_netscape.specs.declared.error.NetscapeError.TheVariants as File
use Rattle.cookie_ron.specs.Printed.{ron_written}
use Rattle.cookie_parts.specs.Cookie.{Row}
use Rattle.cookie_parts.specs.SavedConversion.{saved_of}
use Rattle.cookie_parts.specs.declared.error.Error.{Error}
use Rattle.cookie_parts.specs.declared.error.Error.TheVariants.{Saved}
use Rattle.cookie_serde.specs.FormatErrors.{format_error_of}
use Rattle.cookie_serde.specs.Formats.{SerializesAs}
use Rattle.cookie_serde.specs.JsonLists.{SerializesToLines}
use Rattle.cookie_serde.specs.NetscapeLists.{SerializesToNetscape}
use Rattle.cookie_serde.specs.RonLists.{SerializesToText}
use Rattle.cookie_serde.specs.Selections.{selected}
use Rattle.cookie_serde.specs.declared.format.Format.{Format}
use Rattle.cookie_serde.specs.declared.format.Format.TheVariants.{Json, Ron, Netscape}
use Rattle.cookie_serde.specs.declared.format_error.FormatError.{FormatError}
use Rattle.cookie_store_c.specs.Options.{view}
use Rattle.cookie_store_c.specs.SavedStores.{as_line, saved, saved_as}
use Rattle.cookie_store_c.specs.Statuses.{error_status, format_error_status}
use Rattle.cookie_store_c.specs.declared.options.Options.{Options}
use Rattle.cookie_store_c.specs.declared.status.Status.{Status}
use Rattle.cookie_store_c.specs.declared.status.Status.TheVariants.{NoMemory}

-- the status is that of the result, or memory ran out for it
abbrev IsStatusOf : Result (List ℕ) Status → Status → Type 0
IsStatusOf result status = (result ≡ Err status) ⊎ ((status ≡ NoMemory) × IsOk result)

of_lines : (written : Result Data SavedError) (error : Error) → SerializesToLines written (Err error)
    → IsStatusOf (as_line (result_map_both pretty_text (λ why. why) written)) (error_status error)
of_lines (Ok tree) error is = inr (ap error_status is, refl)
of_lines (Err fault) error is = let same : error ≡ Saved fault = cc in inl (ap (λ e. Err (error_status e)) (sym same))

of_text : (written : Result (List ℕ) SavedError) (error : Error) → SerializesToText written (Err error)
    → IsStatusOf (as_line written) (error_status error)
of_text (Ok text) error is = inr (ap error_status is, refl)
of_text (Err fault) error is = let same : error ≡ Saved fault = cc in inl (ap (λ e. Err (error_status e)) (sym same))

of_file : (rows : List Row) (error : NetscapeError) → SerializesToNetscape rows (Err error)
    → IsStatusOf (saved_as Netscape rows) (format_error_status (format_error_of error))
of_file rows File.Unrepresentable none = inl (rw none refl)
of_file rows File.Memory all = inr (refl, rw all refl)
of_file rows (File.BadLine line) never = absurd never
of_file rows File.Io never = absurd never
of_file rows File.NotUtf8 never = absurd never

-- the error of a format is that of what is saved, or memory ran out
pub unsaved : (format : Format) (rows : List Row) (error : FormatError) → SerializesAs format rows (Err error)
    → (saved_as format rows ≡ Err (format_error_status error)) ⊎ ((format_error_status error ≡ NoMemory) × IsOk (saved_as format rows))
unsaved Json rows error (of_list, is, written) = rw is (of_lines (list_written (map saved_of rows)) of_list written)
unsaved Ron rows error (of_list, is, written) = rw is (of_text (ron_written (map saved_of rows)) of_list written)
unsaved Netscape rows error (of_the_file, is, written) = rw is (of_file rows of_the_file written)

-- the same for options that are not lenient
pub strictly_unsaved : (options : Options) (rows : List Row) (error : FormatError) (status : Status) → options.is_lenient ≡ false
    → status ≡ format_error_status error → SerializesAs options.format (selected options.which rows) (Err error)
    → (saved (view options) rows ≡ Err status) ⊎ ((status ≡ NoMemory) × IsOk (saved (view options) rows))
strictly_unsaved options rows error status strict is failed =
    let same : saved (view options) rows ≡ saved_as options.format (selected options.which rows) = rw strict refl in
    subst (λ (result : Result (List ℕ) Status). (result ≡ Err status) ⊎ ((status ≡ NoMemory) × IsOk result)) (sym same)
    (subst (λ (status : Status). IsStatusOf (saved_as options.format (selected options.which rows)) status) (sym is)
    (unsaved options.format (selected options.which rows) error failed))
