-- The cookies so far are inserted, and those that were left out are counted with the remaining ones.
use Rattle.std.proofs.Common.{◌≡◌, ◌+◌, ◌≤◌, ◌++◌, count_by, length, map}
use Rattle.cookie_words.specs.Moments.{moment_of}
use Rattle.cookie_laws.specs.Runs.{replies, store_after}
use Rattle.cookie_core.specs.Merging.{is_stored, own_insertions}
use Rattle.cookie_core.proofs.cookie_store.CookieStore.merge.Given as goal

abbrev pub invariant-loop-cookie : goal.invariant-loop-cookie
invariant-loop-cookie l = record {
  can : (goal.iterator-loop-cookie).can_next l.cookie-iterator;
  ends : (goal.iterator-loop-cookie).is_finite l.cookie-iterator;
  merged : l.self ≡ store_after (own_insertions (moment_of l.now) (map (λ c. c.now) l.yielded)) l.fn.self;
  counted : l.left_out + count_by is_stored (replies (own_insertions (moment_of l.now) (map (λ c. c.now) l.yielded)) l.fn.self) ≡ length l.fn.other.rows;
  enough : length l.cookie-iterator ≤ l.left_out;
  all : map (λ c. c.now) l.yielded ++ l.cookie-iterator ≡ l.fn.other.rows;
}
