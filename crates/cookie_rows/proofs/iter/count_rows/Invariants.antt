-- The counted and the remaining rows are all rows.
use Rattle.std.proofs.Common.{◌≡◌, ◌+◌, length, map}
use Rattle.ordered_map.specs.Entries.{in_order}
use Rattle.cookie_rows.specs.Items.{joined}
use Rattle.cookie_rows.specs.Stored.{all_stored}
use Rattle.cookie_rows.proofs.iter.count_rows.Given as goal

abbrev pub invariant-loop-names : goal.invariant-loop-names
invariant-loop-names l = record {
  counted : l.count + length (joined (map in_order l.names-iterator)) ≡ length (joined (map in_order (all_stored l.fn.domains)));
}
