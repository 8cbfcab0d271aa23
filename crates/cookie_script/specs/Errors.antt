-- The errors of the program.
use Rattle.std.specs.Prelude.{◌≡◌, ℕ, ◌+◌, List, ◌++◌, Result, Ok, Err, codes, decimal}
use Rattle.std.specs.declared.io.ErrorKind.{ErrorKind}
use Rattle.std.specs.declared.io.ErrorKind.TheVariants as Io
use Rattle.cookie_device.specs.declared.lines.FillError.{FillError}
use Rattle.cookie_device.specs.declared.lines.FillError.TheVariants as Fill
use Rattle.cookie_psl.specs.declared.error.ListError.{ListError}
use Rattle.cookie_psl.specs.declared.error.ListError.TheVariants as Psl
use Rattle.cookie_serde.specs.declared.migration.MigrateError.{MigrateError}
use Rattle.cookie_serde.specs.declared.migration.MigrateError.TheVariants as Migrate
use Rattle.cookie_script.specs.declared.error.ConvertFault.{ConvertFault}
use Rattle.cookie_script.specs.declared.error.ConvertFault.TheVariants as Conversion
use Rattle.cookie_script.specs.declared.error.MainFault.{MainFault}
use Rattle.cookie_script.specs.declared.error.MainFault.TheVariants.{BadArguments, CannotReadList, BadRule, NoRandomKey, Run, Convert}
use Rattle.cookie_script.specs.declared.error.RunFault.{RunFault}
use Rattle.cookie_script.specs.declared.error.RunFault.TheVariants.{Read, Write, Memory}

-- the exit status
abbrev pub status_of : MainFault → ℕ
status_of BadArguments = 2
status_of CannotReadList = 2
status_of (BadRule line) = 2
status_of NoRandomKey = 1
status_of (Run Read) = 1
status_of (Run Write) = 1
status_of (Run Memory) = 3
status_of (Convert Conversion.Read) = 1
status_of (Convert Conversion.Write) = 1
status_of (Convert Conversion.Memory) = 3
status_of (Convert (Conversion.BadLine line)) = 2

-- the text of an error of a script
abbrev pub run_error_text : RunFault → List ℕ
run_error_text Read = codes "read failed"
run_error_text Write = codes "write failed"
run_error_text Memory = codes "out of memory"

-- the text of an error of a conversion
abbrev pub convert_error_text : ConvertFault → List ℕ
convert_error_text Conversion.Read = codes "read failed"
convert_error_text Conversion.Write = codes "write failed"
convert_error_text Conversion.Memory = codes "out of memory"
convert_error_text (Conversion.BadLine line) = codes "bad line " ++ decimal line

-- the text of an error of the program
abbrev pub main_error_text : MainFault → List ℕ
main_error_text BadArguments = codes "cookie_jar: bad arguments"
main_error_text CannotReadList = codes "cookie_jar: cannot read list"
main_error_text (BadRule line) = codes "cookie_jar: bad rule in line " ++ decimal line
main_error_text NoRandomKey = codes "cookie_jar: cannot get a random hash key"
main_error_text (Run fault) = codes "cookie_jar: " ++ run_error_text fault
main_error_text (Convert fault) = codes "cookie_jar: " ++ convert_error_text fault

-- the error of a conversion whose lines cannot be loaded
abbrev pub convert_error_of_migrate : MigrateError → ConvertFault
convert_error_of_migrate (Migrate.Line line error) = Conversion.BadLine line
convert_error_of_migrate Migrate.Io = Conversion.Read
convert_error_of_migrate Migrate.Memory = Conversion.Memory

-- the error of a script whose source cannot be read, or out of memory
abbrev pub run_error_of_fill : FillError → RunFault
run_error_of_fill Fill.Read = Read
run_error_of_fill Fill.Memory = Memory

-- the error for arguments that cannot be read: out of memory, or an argument that is not UTF-8
abbrev pub arguments_error : ErrorKind → MainFault
arguments_error Io.OutOfMemory = Run Memory
arguments_error _ = BadArguments

-- the error for a file of a list that cannot be read
abbrev pub list_file_error : ErrorKind → MainFault
list_file_error Io.OutOfMemory = Run Memory
list_file_error _ = CannotReadList

-- the error for a string that is not a public suffix list
abbrev pub main_error_of_list : ListError → MainFault
main_error_of_list (Psl.BadRule line) = BadRule line
main_error_of_list Psl.Memory = Run Memory

-- `Read` raises the source's count of failures by one, `Write` the sink's, and any other outcome neither
abbrev pub CountsRunFailure : {T : Type 0} → Result T RunFault → ℕ → ℕ → ℕ → ℕ → Type 0
CountsRunFailure (Ok _) reads reads' writes writes' = (reads' ≡ reads) × (writes' ≡ writes)
CountsRunFailure (Err Read) reads reads' writes writes' = (reads' ≡ reads + 1) × (writes' ≡ writes)
CountsRunFailure (Err Write) reads reads' writes writes' = (reads' ≡ reads) × (writes' ≡ writes + 1)
CountsRunFailure (Err Memory) reads reads' writes writes' = (reads' ≡ reads) × (writes' ≡ writes)

-- the same for a conversion; an invalid line raises neither
abbrev pub CountsConvertFailure : {T : Type 0} → Result T ConvertFault → ℕ → ℕ → ℕ → ℕ → Type 0
CountsConvertFailure (Ok _) reads reads' writes writes' = (reads' ≡ reads) × (writes' ≡ writes)
CountsConvertFailure (Err Conversion.Read) reads reads' writes writes' = (reads' ≡ reads + 1) × (writes' ≡ writes)
CountsConvertFailure (Err Conversion.Write) reads reads' writes writes' = (reads' ≡ reads) × (writes' ≡ writes + 1)
CountsConvertFailure (Err Conversion.Memory) reads reads' writes writes' = (reads' ≡ reads) × (writes' ≡ writes)
CountsConvertFailure (Err (Conversion.BadLine line)) reads reads' writes writes' = (reads' ≡ reads) × (writes' ≡ writes)
