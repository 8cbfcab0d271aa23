-- The rows in the table, each under its name, and then those that are left are all rows.
use Rattle.std.proofs.Common.{◌≡◌, ◌++◌, ◌≤◌, length, map, string_bytes}
use Rattle.std.specs.Map.{values_of}
use Rattle.std.specs.Vec.Iter.{into_iter_items}
use Rattle.ordered_map.specs.Entries.{entries}
use Rattle.cookie_rows.specs.Items.{AreNamed}
use Rattle.cookie_rows.specs.NameMaps.{names_in}
use Rattle.cookie_rows.proofs.name_list.fill_table.Given as goal

abbrev pub invariant-loop-row : goal.invariant-loop-row
invariant-loop-row l = record {
  iterator : (goal.iterator-loop-row).can_next l.row-iterator × (goal.iterator-loop-row).is_finite l.row-iterator;
  rows : values_of (entries l.table) ++ into_iter_items l.row-iterator ≡ into_iter_items l.initial.row-iterator;
  names : map string_bytes (into_iter_items l.names) ≡ names_in (into_iter_items l.row-iterator);
  named : AreNamed (entries l.table);
  room : length (into_iter_items l.row-iterator) ≤ l.table.room;
}
