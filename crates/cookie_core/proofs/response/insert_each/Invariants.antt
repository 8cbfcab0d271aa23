-- The store is the one after inserting all items so far.
use Rattle.cookie_words.specs.Moments.{moment_of}
use Rattle.cookie_core.specs.Responses.{Inserts}
use Rattle.cookie_core.proofs.response.insert_each.Given as goal

abbrev pub invariant-loop-raw : goal.invariant-loop-raw
invariant-loop-raw g l = record {
  can : (goal.iterator-loop-raw g).can_next l.cookies;
  ends : (goal.iterator-loop-raw g).is_finite l.cookies;
  taken : Inserts l.url (moment_of l.now) l.yielded (g.S.AsStore.contents l.fn.store) (g.S.AsStore.contents l.store);
}
