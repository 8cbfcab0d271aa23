-- The changes so far and those of the cookies that are left are those of all cookies.
use Rattle.std.proofs.Common.{◌≡◌, ◌+◌, ◌++◌, length, map, pos}
use Rattle.std.specs.List.{All, list_any}
use Rattle.durable_table.specs.Changes.{HasRowid}
use Rattle.durable_table.specs.declared.change.Change.TheVariants.{Put}
use Rattle.cookie_durable.specs.Checks.{is_unstorable}
use Rattle.cookie_durable.specs.Replacing.{new_rows, rows_from}
use Rattle.cookie_durable.proofs.replacing.puts_of.Given as goal

abbrev pub invariant-loop-cookie : goal.invariant-loop-cookie
invariant-loop-cookie l = record {
  puts : l.changes.items ++ map Put (rows_from (pos (length l.changes.items + 1)) l.cookie-iterator) ≡ map Put (new_rows l.cookies.rows);
  keyed : All HasRowid l.changes.items;
  counted : length l.changes.items + length l.cookie-iterator ≡ length l.cookies.rows;
  storable : list_any is_unstorable l.cookie-iterator ≡ list_any is_unstorable l.cookies.rows;
}
