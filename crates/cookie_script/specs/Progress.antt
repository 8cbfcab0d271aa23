-- How far a script was run.
use Rattle.std.specs.Prelude.{◌≡◌, ◌⊎◌, ℕ, ◌+◌, ◌-◌, ◌==◌, not, List, [], ◌∷◌, ◌++◌, length, take, IsTrue, Option, Some, Result, Ok, Err}
use Rattle.std.specs.Io.KnownBytes.{Appends}
use Rattle.std.specs.List.{suffix_len}
use Rattle.std.specs.Str.Lines.{lines}
use Rattle.cookie_device.specs.Device.{AppendsPrefix, SinkState}
use Rattle.cookie_store.specs.Contents.{Contents}
use Rattle.cookie_script.specs.Commands.{may_allocate}
use Rattle.cookie_script.specs.Script.{outputs, start}
use Rattle.cookie_script.specs.declared.error.RunFault.{RunFault}
use Rattle.cookie_script.specs.declared.error.RunFault.TheVariants.{Read, Write, Memory}

-- a string up to its last line feed, or nothing if it has none
abbrev pub whole_lines : List ℕ → List ℕ
whole_lines text = take (length text - suffix_len (λ b. not (b == 10)) text) text

-- all of the input except `remaining` was read, and `first` are the whole lines of what was read
abbrev pub AreRead : List ℕ → Option (List ℕ) → List (List ℕ) → Type 0
AreRead input remaining first =
    (read unread : List ℕ) × (remaining ≡ Some unread) × (input ≡ read ++ unread) × (first ≡ lines (whole_lines read))

-- there is a next line, and it may allocate
abbrev pub NextMayAllocate : List (List ℕ) → Type 0
NextMayAllocate [] = ⊥
NextMayAllocate (line ∷ more) = IsTrue (may_allocate line)

-- what was written is the whole output of some first lines, and the condition holds of these and the other lines
abbrev pub WritesOutputOfFirstLines : Contents → List ℕ → (List (List ℕ) → List (List ℕ) → Type 0) → (List ℕ → Type 0) → Type 0
WritesOutputOfFirstLines store input Holds Written = (first more : List (List ℕ)) × (lines input ≡ first ++ more)
    × Holds first more × Written (outputs first (start store))

-- the buffered bytes were written, and the outcome is the earlier one; or a write failed after a prefix of them
abbrev pub WritesBuffered : Result (Unit {0}) RunFault → Result (Unit {0}) RunFault → SinkState → SinkState → List ℕ → Type 0
WritesBuffered earlier outcome old new buffered =
    ((outcome ≡ earlier) × Appends old.contents new.contents buffered × (new.failed ≡ old.failed))
    ⊎ ((outcome ≡ Err Write) × AppendsPrefix old.contents new.contents buffered × (new.failed ≡ old.failed + 1))

-- how a script ends after its lines: what is buffered is written, unless a read or a write has failed
abbrev pub WritesRest : Result (Unit {0}) RunFault → Result (Unit {0}) RunFault → SinkState → SinkState → List ℕ → Type 0
WritesRest (Ok done) outcome old new buffered = WritesBuffered (Ok done) outcome old new buffered
WritesRest (Err Memory) outcome old new buffered = WritesBuffered (Err Memory) outcome old new buffered
WritesRest (Err Read) outcome old new buffered = (outcome ≡ Err Read) × (new ≡ old)
WritesRest (Err Write) outcome old new buffered = (outcome ≡ Err Write) × (new ≡ old)
