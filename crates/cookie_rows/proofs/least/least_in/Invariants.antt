-- The least of the rows so far was found.
use Rattle.std.proofs.Common.{take}
use Rattle.cookie_words.specs.Moments.{moment_of}
use Rattle.cookie_rows.specs.Least.{IsLeastOfGroup, stored_items}
use Rattle.cookie_rows.proofs.least.least_in.Given as goal

abbrev pub invariant-loop-row : goal.invariant-loop-row
invariant-loop-row l = IsLeastOfGroup l.order (moment_of l.now) l.path (take l.row (stored_items l.names)) l.least
