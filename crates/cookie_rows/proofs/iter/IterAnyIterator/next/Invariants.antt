-- The remaining rows are unchanged.
use Rattle.std.proofs.Common.{◌≡◌, ◌++◌, length, map}
use Rattle.ordered_map.specs.Entries.{in_order}
use Rattle.cookie_rows.specs.Items.{joined}
use Rattle.cookie_rows.proofs.iter.IterAnyIterator.next.Given as goal

abbrev pub invariant-loop-row : goal.invariant-loop-row
invariant-loop-row l = record {
  rows : l.self-inside.rows ++ joined (map in_order l.self-inside.groups) ≡ l.initial.self-inside.rows ++ joined (map in_order l.initial.self-inside.groups);
}

abbrev pub decreases-loop-row : goal.decreases-loop-row
decreases-loop-row l = length l.self-inside.groups
