-- The rows are built from the cookies so far.
use Rattle.std.proofs.Common.{◌≡◌, ◌++◌}
use Rattle.std.specs.Vec.Iter.{into_iter_items}
use Rattle.cookie_serde.specs.Selections.{built_from}
use Rattle.cookie_serde.proofs.whole_text.rows_of.Given as goal

abbrev pub invariant-loop-cookie : goal.invariant-loop-cookie
invariant-loop-cookie l = record {
  can : (goal.iterator-loop-cookie).can_next l.cookie-iterator;
  ends : (goal.iterator-loop-cookie).is_finite l.cookie-iterator;
  built : l.rows ≡ built_from l.which l.yielded;
  all : l.yielded ++ into_iter_items l.cookie-iterator ≡ l.fn.cookies.items;
}
