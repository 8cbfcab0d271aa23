-- What was counted and the rows that are left are all rows that have a SameSite attribute.
use Rattle.std.proofs.Common.{◌≡◌, ◌≤◌, ◌+◌, ◌-◌, ◌^◌, min}
use Rattle.cookies.specs.Storage.{same_site_count}
use Rattle.cookies.proofs.storage.same_site_count.Given as goal

abbrev pub invariant-loop-cookie : goal.invariant-loop-cookie
invariant-loop-cookie l = record {
  small : l.count ≤ 2 ^ 64 - 1;
  counted : min (l.count + same_site_count l.cookie-iterator) (2 ^ 64 - 1) ≡ min (same_site_count l.store.rows) (2 ^ 64 - 1);
}
