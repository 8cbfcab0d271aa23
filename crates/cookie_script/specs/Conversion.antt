-- Lines of JSON that are converted into a RON list.
use Rattle.std.specs.Prelude.{◌⊎◌, ℕ, List, Option, Ok, Err}
use Rattle.std.specs.Io.KnownBytes.{IsAtEnd, Keeps}
use Rattle.std.specs.declared.alloc.Global.{Global}
use Rattle.std.specs.declared.string.String.{String}
use Rattle.cookie_device.specs.Device.{AppendsPrefix, SinkState, SourceState}
use Rattle.cookie_parts.specs.declared.error.Error.{Error}
use Rattle.cookie_parts.specs.declared.error.Error.TheVariants as Store
use Rattle.cookie_store.specs.SavedLists.{WritesList}
use Rattle.cookie_store.specs.Migration.{FailsToMigrate, Migrates}
use Rattle.cookie_store.specs.RonLists.{SerializesToRonList}
use Rattle.cookie_store.specs.Rows.{RowsInOrder}
use Rattle.cookie_store.specs.Saving.{line_text}
use Rattle.cookie_serde.specs.declared.migration.MigrateError.TheVariants as Migrate
use Rattle.cookie_script.specs.declared.error.ConvertFault.{ConvertFault}
use Rattle.cookie_script.specs.declared.error.ConvertFault.TheVariants.{Read, Write, Memory, BadLine}

-- the RON list of the rows built from all cookies of the lines was written, and a line feed
abbrev pub Converts : Option (List ℕ) → Option (List ℕ) → Option (List ℕ) → Type 0
Converts known old new = (kept : RowsInOrder) × Migrates known kept × WritesList SerializesToRonList kept.rows old new

-- a prefix of it was written
abbrev pub BeginsConversion : Option (List ℕ) → Option (List ℕ) → Option (List ℕ) → Type 0
BeginsConversion known old new =
    (kept : RowsInOrder) × Migrates known kept × (text : String Global) × SerializesToRonList kept.rows (Ok text)
    × AppendsPrefix old new (line_text text)

-- rows are built from the lines, all of which are valid, and memory ran out for their list
abbrev pub RunsOutForList : Option (List ℕ) → Type 0
RunsOutForList known = (kept : RowsInOrder) × Migrates known kept × SerializesToRonList kept.rows (Err Store.Memory)

-- why a list of rows with saved forms was not written
abbrev pub list_fault : Error → ConvertFault
list_fault Store.Io = Write
list_fault error = Memory

-- Unless a write failed, nothing was written. A read failed, memory ran out, or this line is the first invalid
-- one; or all lines were read and a store was built, and memory ran out for its list.
abbrev pub FailsToConvert : ConvertFault → SourceState → SourceState → SinkState → SinkState → Type 0
FailsToConvert Read old new before after = FailsToMigrate Migrate.Io old new × Keeps before.contents after.contents
FailsToConvert Write old new before after =
    IsAtEnd new.remaining × BeginsConversion old.remaining before.contents after.contents
FailsToConvert Memory old new before after =
    (FailsToMigrate Migrate.Memory old new ⊎ (IsAtEnd new.remaining × RunsOutForList old.remaining))
    × Keeps before.contents after.contents
FailsToConvert (BadLine number) old new before after =
    ((error : Error) × FailsToMigrate (Migrate.Line number error) old new) × Keeps before.contents after.contents
