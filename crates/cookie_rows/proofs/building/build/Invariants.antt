-- All items so far are cookies, and these rows are built from them.
use Rattle.std.proofs.Common.{◌≡◌, List, Ok, map}
use Rattle.cookie_words.specs.Moments.{moment_of}
use Rattle.cookie_parts.specs.Cookie.{Row}
use Rattle.cookie_laws.specs.Rows.{built}
use Rattle.cookie_rows.proofs.building.build.Given as goal

abbrev pub invariant-loop-item : goal.invariant-loop-item
invariant-loop-item g l = record {
  can : (goal.iterator-loop-item g).can_next l.cookies;
  ends : (goal.iterator-loop-item g).is_finite l.cookies;
  built : (cookies : List Row) × (l.yielded ≡ map Ok cookies) × (l.built ≡ built l.include_expired (moment_of l.now) cookies);
}
