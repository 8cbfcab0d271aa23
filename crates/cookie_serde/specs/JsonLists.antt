-- Rows saved as one JSON array, and loaded from it.
use Rattle.std.specs.Prelude.{◌≡◌, ◌≢◌, ◌⊎◌, ℕ, List, [], map, string_bytes, Some, Result, Ok, Err}
use Rattle.std.specs.declared.alloc.Global.{Global}
use Rattle.std.specs.declared.string.String.{String}
use Rattle.serde_json.specs.Data.{Data}
use Rattle.serde_json.specs.Read.{read}
use Rattle.cookie_forms.specs.FromJson.{list_in}
use Rattle.cookie_forms.specs.JsonText.{pretty_text}
use Rattle.cookie_forms.specs.ToJson.{list_written}
use Rattle.cookie_forms.specs.declared.error.SavedError.{SavedError}
use Rattle.cookie_parts.specs.Cookie.{Row}
use Rattle.cookie_parts.specs.SavedConversion.{saved_of}
use Rattle.cookie_parts.specs.declared.error.Error.{Error}
use Rattle.cookie_parts.specs.declared.error.Error.TheVariants.{Memory, Saved}
use Rattle.cookie_serde.specs.SavedForms.{read_cookies}

-- the result of writing the JSON value of a list: its string with a line for each item and member, which reads as the value, or
-- `Memory`; the error if there is no value
abbrev pub SerializesToLines : Result Data SavedError → Result (String Global) Error → Type 0
SerializesToLines (Ok tree) (Ok text) = (string_bytes text ≡ pretty_text tree) × (read (string_bytes text) ≡ Some tree)
SerializesToLines (Ok tree) (Err error) = error ≡ Memory
SerializesToLines (Err fault) expected = expected ≡ Err (Saved fault)

-- the result of writing rows: the JSON array of their saved forms
abbrev pub SerializesToJsonList : List Row → Result (String Global) Error → Type 0
SerializesToJsonList rows expected = SerializesToLines (list_written (map saved_of rows)) expected

-- the cookies of a list of saved forms in JSON, or the error
abbrev pub json_cookies : List ℕ → Result (List Row) Error
json_cookies text = read_cookies (list_in text)

-- the result of reading a string: its cookies or the error, or `Memory`, but not for an empty string
abbrev pub JsonListParsesTo : List ℕ → Result (List Row) Error → Type 0
JsonListParsesTo text (Ok cookies) = json_cookies text ≡ Ok cookies
JsonListParsesTo text (Err error) = (json_cookies text ≡ Err error) ⊎ ((error ≡ Memory) × (text ≢ []))
