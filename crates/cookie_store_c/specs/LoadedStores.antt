-- Stores loaded from a format.
use Rattle.std.specs.Prelude.{◌≡◌, ◌⊎◌, ℕ, Bool, true, false, List, [], ◌∷◌, filter, length, take, Option, Some, None, Result, Ok, Err}
use Rattle.std.specs.Str.Lines.{lines}
use Rattle.cookie_netscape.specs.Files.{IsFirstBad, malformed_from, rows_in_file, well_formed_rows}
use Rattle.cookie_parts.specs.Cookie.{Row, and_then}
use Rattle.cookie_parts.specs.declared.error.Error.{Error}
use Rattle.cookie_laws.specs.Contents.{Contents, contents_of}
use Rattle.cookie_serde.specs.JsonLists.{json_cookies}
use Rattle.cookie_serde.specs.RonLists.{RonCookies}
use Rattle.cookie_serde.specs.Selections.{built_of}
use Rattle.cookie_serde.specs.declared.format.Format.{Format}
use Rattle.cookie_serde.specs.declared.format.Format.TheVariants.{Json, Ron, Netscape}
use Rattle.cookie_serde.specs.declared.format_error.FormatError.{FormatError}
use Rattle.cookie_serde.specs.declared.format_error.FormatError.TheVariants as FormatCase
use Rattle.cookie_store_c.specs.Buffers.{at_start}
use Rattle.cookie_store_c.specs.Calls.{CallOutcome, error_outcome}
use Rattle.cookie_store_c.specs.Inputs.{text_in}
use Rattle.cookie_store_c.specs.Options.{Chosen}
use Rattle.cookie_store_c.specs.Statuses.{error_status}
use Rattle.cookie_store_c.specs.declared.status.Status.{Status}
use Rattle.cookie_store_c.specs.declared.status.Status.TheVariants.{BadLine, Done, HasStore}

-- the status and the store after loading, and the numbers of malformed lines
pub record LoadOutcome : Type 0 where
  pub outcome : CallOutcome
  pub numbers : List ℕ

-- this store is created
abbrev pub reported : Contents → List ℕ → LoadOutcome
reported store numbers = record { outcome = record { status = Done; store = Some store }; numbers = numbers }

-- a store is created of those of the cookies that are chosen
abbrev pub created : Chosen → List Row → List ℕ → LoadOutcome
created chosen cookies numbers = reported (contents_of (built_of (filter chosen.selects cookies)) None None) numbers

-- no store is created
abbrev pub rejected : Status → List ℕ → LoadOutcome
rejected status numbers = record { outcome = error_outcome None status; numbers = numbers }

-- the cookies of a list, or its error
abbrev pub listed : Chosen → Result (List Row) Error → LoadOutcome
listed chosen (Ok cookies) = created chosen cookies []
listed chosen (Err why) = rejected (error_status why) []

-- a string is loaded in a format: a list, or a file, of which a malformed line is an error
abbrev pub LoadsAs : Format → Chosen → List ℕ → LoadOutcome → Type 0
LoadsAs Json chosen text loaded = loaded ≡ listed chosen (json_cookies text)
LoadsAs Ron chosen text loaded = (parsed : Result (List Row) Error) × RonCookies text parsed × (loaded ≡ listed chosen parsed)
LoadsAs Netscape chosen text loaded =
    ((rows : List Row) × (rows_in_file text ≡ Some rows) × (loaded ≡ created chosen rows []))
    ⊎ ((line : ℕ) × IsFirstBad line text × (loaded ≡ rejected BadLine (line ∷ [])))

-- a string is loaded; leniently, a file without its malformed lines
abbrev pub LoadsBy : Bool → Chosen → List ℕ → LoadOutcome → Type 0
LoadsBy true chosen text loaded = loaded ≡ created chosen (well_formed_rows (lines text)) (malformed_from 1 (lines text))
LoadsBy false chosen text loaded = LoadsAs chosen.format chosen text loaded

-- the options and the string of a list to be loaded
abbrev pub to_load : Result Chosen Status → List ℕ → Result (Chosen × List ℕ) Status
to_load options list = and_then options (λ chosen. and_then (text_in list) (λ text. Ok (chosen, text)))

-- these are loaded, or one of them is invalid
abbrev pub Loads : Result (Chosen × List ℕ) Status → LoadOutcome → Type 0
Loads (Ok given) loaded = LoadsBy given.0.is_lenient given.0 given.1 loaded
Loads (Err status) loaded = loaded ≡ rejected status []

-- the same, or `HasStore` if there is a store
abbrev pub LoadsInto : Option Contents → Result (Chosen × List ℕ) Status → LoadOutcome → Type 0
LoadsInto None given loaded = Loads given loaded
LoadsInto (Some store) given loaded = loaded ≡ record { outcome = error_outcome (Some store) HasStore; numbers = [] }

-- the buffer with the first of the numbers at its start, as many as fit
abbrev pub with_numbers : List ℕ → List ℕ → List ℕ
with_numbers numbers buffer = at_start (take (length buffer) numbers) buffer

-- the outcome, its numbers written to the buffer, as many as fit, and how many there are
abbrev pub LoadsAndReports : Option Contents → Result (Chosen × List ℕ) Status → List ℕ → CallOutcome → List ℕ → ℕ → Type 0
LoadsAndReports store given buffer outcome written malformed =
    (numbers : List ℕ) × LoadsInto store given (record { outcome = outcome; numbers = numbers })
    × (written ≡ with_numbers numbers buffer) × (malformed ≡ length numbers)

-- the number of a line, if there is one
abbrev pub numbers_of : Option ℕ → List ℕ
numbers_of None = []
numbers_of (Some line) = line ∷ []

-- the number of the malformed line of an error
abbrev pub malformed_line : FormatError → List ℕ
malformed_line (FormatCase.BadLine line) = line ∷ []
malformed_line (FormatCase.Store error) = []
malformed_line FormatCase.Unrepresentable = []
