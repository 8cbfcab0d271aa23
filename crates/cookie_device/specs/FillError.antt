-- How the errors of reading are counted.
use Rattle.std.specs.Prelude.{◌≡◌, ℕ, ◌+◌, Result, Ok, Err}
use Rattle.cookie_device.specs.declared.lines.FillError.{FillError}
use Rattle.cookie_device.specs.declared.lines.FillError.TheVariants as Errors

-- with `Read` the source's number of failed calls grows by one, otherwise it is unchanged
abbrev pub CountsReadFailure : {T : Type 0} → Result T FillError → ℕ → ℕ → Type 0
CountsReadFailure (Ok _) old new = new ≡ old
CountsReadFailure (Err Errors.Read) old new = new ≡ old + 1
CountsReadFailure (Err Errors.Memory) old new = new ≡ old
