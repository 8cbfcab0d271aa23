-- Stores saved in a format.
use Rattle.std.specs.Prelude.{ℕ, List, ◌∷◌, [], ◌++◌, map, filter, Result, Ok, Err, if◌then◌else◌}
use Rattle.std.specs.List.{list_all}
use Rattle.std.specs.Result.{result_map_both}
use Rattle.cookie_forms.specs.JsonText.{pretty_text}
use Rattle.cookie_forms.specs.ToJson.{list_written}
use Rattle.cookie_forms.specs.declared.error.SavedError.{SavedError}
use Rattle.cookie_netscape.specs.Written.{is_representable}
use Rattle.cookie_ron.specs.Printed.{ron_written}
use Rattle.cookie_parts.specs.Cookie.{Row, and_then}
use Rattle.cookie_parts.specs.SavedConversion.{saved_of}
use Rattle.cookie_parts.specs.declared.error.Error.TheVariants.{Saved}
use Rattle.cookie_serde.specs.NetscapeLists.{file_text, unrepresentable_count}
use Rattle.cookie_serde.specs.declared.format.Format.{Format}
use Rattle.cookie_serde.specs.declared.format.Format.TheVariants.{Json, Ron, Netscape}
use Rattle.cookie_store_c.specs.Options.{Chosen}
use Rattle.cookie_store_c.specs.Statuses.{error_status}
use Rattle.cookie_store_c.specs.declared.status.Status.{Status}
use Rattle.cookie_store_c.specs.declared.status.Status.TheVariants.{NoMemory, Unrepresentable}

-- a string and a line feed, or the status of the error
abbrev pub as_line : Result (List ℕ) SavedError → Result (List ℕ) Status
as_line text = result_map_both (λ text. text ++ 10 ∷ []) (λ why. error_status (Saved why)) text

-- rows in a format
abbrev pub saved_as : Format → List Row → Result (List ℕ) Status
saved_as Json rows = as_line (result_map_both pretty_text (λ why. why) (list_written (map saved_of rows)))
saved_as Ron rows = as_line (ron_written (map saved_of rows))
saved_as Netscape rows = if list_all is_representable rows then Ok (file_text rows) else Err Unrepresentable

-- those of the rows that are chosen, in the format; leniently, those that a `cookies.txt` can represent
abbrev pub saved : Chosen → List Row → Result (List ℕ) Status
saved chosen rows =
    let taken = filter chosen.selects rows in
    if chosen.is_lenient then Ok (file_text (filter is_representable taken)) else saved_as chosen.format taken

-- the number of the rows that are left out
abbrev pub left_out : Chosen → List Row → ℕ
left_out chosen rows = if chosen.is_lenient then unrepresentable_count (filter chosen.selects rows) else 0

-- the same, or the status of an invalid argument
abbrev pub saved_in : Result Chosen Status → List Row → Result (List ℕ) Status
saved_in options rows = and_then options (λ chosen. saved chosen rows)

-- the number of the rows that are left out, or the status of an error
abbrev pub left_out_in : Result Chosen Status → List Row → Result ℕ Status
left_out_in options rows = and_then options (λ chosen. and_then (saved chosen rows) (λ text. Ok (left_out chosen rows)))

-- a number that is 0 on an error and if memory ran out
abbrev pub count_with : Status → Result ℕ Status → ℕ
count_with status (Err why) = 0
count_with NoMemory (Ok n) = 0
count_with status (Ok n) = n
