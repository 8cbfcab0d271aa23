-- Loading all lines of JSON, or failing at the first that is not a saved cookie. `known` are the bytes of the source, as in Loading.
use Rattle.std.specs.Prelude.{◌≡◌, ℕ, ◌+◌, ◌++◌, false, List, map, Option, Some, option_map, Result, IfSome, codes, decimal}
use Rattle.std.specs.List.{list_any}
use Rattle.cookie_forms.specs.ToJson.{is_early}
use Rattle.cookie_parts.specs.Cookie.{Row}
use Rattle.cookie_parts.specs.SavedConversion.{saved_of}
use Rattle.cookie_parts.specs.declared.error.Error.{Error}
use Rattle.cookie_parts.specs.declared.error.Error.TheVariants as ErrorCase
use Rattle.cookie_parts.specs.Errors.{store_error_text, styled_error_text}
use Rattle.cookie_laws.specs.Rows.{RowsInOrder}
use Rattle.cookie_serde.specs.JsonLines.{json_cookie, JsonParsesTo}
use Rattle.cookie_serde.specs.LoadError.{IsReachedAt}
use Rattle.cookie_serde.specs.Loading.{BuildsFrom, FailsToLoad, RejectsLine, StopsWithinLine}
use Rattle.cookie_device.specs.Device.{SourceState}
use Rattle.cookie_device.specs.declared.lines.FillError.TheVariants as Fill
use Rattle.cookie_serde.specs.declared.loading.LoadError.{LoadError}
use Rattle.cookie_serde.specs.declared.loading.LoadError.TheVariants as Load
use Rattle.cookie_serde.specs.declared.migration.MigrateError.{MigrateError}
use Rattle.cookie_serde.specs.declared.which.Which.TheVariants.{All}
use Rattle.cookie_serde.specs.declared.migration.MigrateError.TheVariants.{Line, Io, Memory}

-- the error of a migration: out of memory at a line is not an error of the line
abbrev pub migrate_error_of : LoadError → MigrateError
migrate_error_of (Load.Source Fill.Read) = Io
migrate_error_of (Load.Source Fill.Memory) = Memory
migrate_error_of (Load.Line number ErrorCase.Memory) = Memory
migrate_error_of (Load.Line number error) = Line number error

-- the number of a line, before its error
abbrev pub line_number_text : ℕ → List ℕ
line_number_text number = codes "line " ++ decimal number ++ codes ": "

-- the error as `Display` prints it
abbrev pub migrate_error_text : MigrateError → List ℕ
migrate_error_text (Line number error) = line_number_text number ++ store_error_text error
migrate_error_text Io = codes "a read failed"
migrate_error_text Memory = codes "out of memory"

-- the error as `Display` prints it with a width or other options, which are ignored, if that is known of the line's error
abbrev pub styled_migrate_error_text : MigrateError → Option (List ℕ)
styled_migrate_error_text (Line number error) = option_map (λ words. line_number_text number ++ words) (styled_error_text error)
styled_migrate_error_text other = Some (migrate_error_text other)

-- the rows built from the cookies of all lines of the source, expired ones included
abbrev pub Migrates : Option (List ℕ) → RowsInOrder → Type 0
Migrates known kept = BuildsFrom JsonParsesTo known All kept

-- no row expires before the year 0
abbrev pub HaveSavedForms : List Row → Type 0
HaveSavedForms rows = list_any is_early (map saved_of rows) ≡ false

-- the result of reading a line, out of memory aside: its cookie or the error
abbrev pub IsOfJson : List ℕ → Result Row Error → Type 0
IsOfJson line expected = json_cookie line ≡ expected

-- the line of this number is the first that is rejected, with this error
abbrev pub RejectsFirst : ℕ → Error → Option (List ℕ) → Type 0
RejectsFirst number error known =
    (line : List ℕ) × RejectsLine IsOfJson error line × IsReachedAt JsonParsesTo number line known

-- the first rejected line; or a read failed, which added one to the failures; or out of memory
abbrev pub FailsToMigrate : MigrateError → SourceState → SourceState → Type 0
FailsToMigrate (Line number error) old new = RejectsFirst number error old.remaining × (new.failed ≡ old.failed)
FailsToMigrate Io old new = IfSome old.remaining (StopsWithinLine JsonParsesTo old new) × (new.failed ≡ old.failed + 1)
FailsToMigrate Memory old new = FailsToLoad JsonParsesTo ErrorCase.Memory old new × (new.failed ≡ old.failed)
