-- The least of the groups so far was found.
use Rattle.std.proofs.Common.{map, take}
use Rattle.cookie_words.specs.Moments.{moment_of}
use Rattle.cookie_rows.specs.Least.{IsLeastOfGroups, stored_items}
use Rattle.cookie_rows.proofs.least.least_of.Given as goal

abbrev pub invariant-loop-path : goal.invariant-loop-path
invariant-loop-path l = IsLeastOfGroups l.order (moment_of l.now) (take l.path (map (λ p. stored_items p.1.1) l.paths)) l.least
