-- Rows saved as lines of JSON, and loaded from them.
use Rattle.std.specs.Prelude.{◌≡◌, ◌≢◌, ◌⊎◌, ℕ, List, [], string_bytes, Some, Result, Ok, Err}
use Rattle.std.specs.declared.alloc.Global.{Global}
use Rattle.std.specs.declared.string.String.{String}
use Rattle.serde_json.specs.Data.{Data}
use Rattle.serde_json.specs.Read.{read}
use Rattle.serde_json.specs.Written.{compact_text}
use Rattle.cookie_forms.specs.FromJson.{saved_in}
use Rattle.cookie_forms.specs.ToJson.{written}
use Rattle.cookie_forms.specs.declared.error.SavedError.{SavedError}
use Rattle.cookie_parts.specs.Cookie.{Row}
use Rattle.cookie_parts.specs.SavedConversion.{saved_of}
use Rattle.cookie_parts.specs.declared.error.Error.{Error}
use Rattle.cookie_parts.specs.declared.error.Error.TheVariants.{Memory, Saved}
use Rattle.cookie_serde.specs.SavedForms.{read_cookie}

-- the result of writing a JSON value: its compact string, which reads as the value, or `Memory`; the error if there is no value
abbrev pub SerializesToLine : Result Data SavedError → Result (String Global) Error → Type 0
SerializesToLine (Ok tree) (Ok text) = (string_bytes text ≡ compact_text tree) × (read (string_bytes text) ≡ Some tree)
SerializesToLine (Ok tree) (Err error) = error ≡ Memory
SerializesToLine (Err fault) expected = expected ≡ Err (Saved fault)

-- the result of writing a row: the JSON value of its saved form
abbrev pub SerializesToJson : Row → Result (String Global) Error → Type 0
SerializesToJson row expected = SerializesToLine (written (saved_of row)) expected

-- the cookie of a line that is a saved form in JSON, or the error
abbrev pub json_cookie : List ℕ → Result Row Error
json_cookie text = read_cookie (saved_in text)

-- the result of reading a line: its cookie or the error, or `Memory`, but not for an empty line
abbrev pub JsonParsesTo : List ℕ → Result Row Error → Type 0
JsonParsesTo line (Ok cookie) = json_cookie line ≡ Ok cookie
JsonParsesTo line (Err error) = (json_cookie line ≡ Err error) ⊎ ((error ≡ Memory) × (line ≢ []))
