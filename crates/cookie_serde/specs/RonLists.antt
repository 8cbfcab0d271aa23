-- Rows saved as one list in RON, and loaded from it.
use Rattle.std.specs.Prelude.{◌≡◌, ◌≢◌, ◌⊎◌, ℕ, List, [], map, string_bytes, Result, Ok, Err}
use Rattle.std.specs.declared.alloc.Global.{Global}
use Rattle.std.specs.declared.string.String.{String}
use Rattle.cookie_words.specs.Moments.{Moment}
use Rattle.cookie_forms.specs.Saved.{Parts}
use Rattle.cookie_forms.specs.declared.error.SavedError.{SavedError}
use Rattle.cookie_ron.specs.Printed.{ron_written}
use Rattle.cookie_ron.specs.ParsedRon.{RonParsesTo}
use Rattle.cookie_parts.specs.Cookie.{Row}
use Rattle.cookie_parts.specs.SavedConversion.{saved_of}
use Rattle.cookie_parts.specs.declared.error.Error.{Error}
use Rattle.cookie_parts.specs.declared.error.Error.TheVariants.{Memory, Saved}
use Rattle.cookie_serde.specs.SavedForms.{read_cookies}

-- the result of writing a list: its string, or `Memory`; the error if there is no string
abbrev pub SerializesToText : Result (List ℕ) SavedError → Result (String Global) Error → Type 0
SerializesToText (Ok written) (Ok text) = string_bytes text ≡ written
SerializesToText (Ok written) (Err error) = error ≡ Memory
SerializesToText (Err fault) parsed = parsed ≡ Err (Saved fault)

-- the result of writing rows: the list in RON of their saved forms
abbrev pub SerializesToRonList : List Row → Result (String Global) Error → Type 0
SerializesToRonList rows parsed = SerializesToText (ron_written (map saved_of rows)) parsed

-- the cookies of the list that a string is, or the error
abbrev pub RonCookies : List ℕ → Result (List Row) Error → Type 0
RonCookies text parsed =
    (reported : Result (List (Parts Moment)) SavedError) × RonParsesTo text reported × (parsed ≡ read_cookies reported)

-- the result of reading a string: its cookies or the error, or `Memory`, but not for an empty string
abbrev pub RonListParsesTo : List ℕ → Result (List Row) Error → Type 0
RonListParsesTo text (Ok cookies) = RonCookies text (Ok cookies)
RonListParsesTo text (Err error) = RonCookies text (Err error) ⊎ ((error ≡ Memory) × (text ≢ []))
