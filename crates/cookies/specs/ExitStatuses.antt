-- The exit statuses of failures.
use Rattle.std.specs.Prelude.{ℕ}
use Rattle.cookies.specs.declared.error.Failure.{Failure}
use Rattle.cookies.specs.declared.error.Failure.TheVariants as Fault

-- 2 for wrong usage, otherwise 1
abbrev pub status_of : Failure → ℕ
status_of (Fault.Arguments message) = 2
status_of (Fault.Usage usage) = 2
status_of (Fault.File name error) = 1
status_of (Fault.Rejected error) = 1
status_of (Fault.Random error) = 1
status_of Fault.Clock = 1
status_of Fault.Memory = 1
