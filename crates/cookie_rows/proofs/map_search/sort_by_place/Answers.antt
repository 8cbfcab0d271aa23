use Rattle.std.proofs.Common.{◌≡◌, ap, rules}
use Rattle.std.specs.Ordering.{is_lt}
use Rattle.std.proofs.lemmas.Fn.{always_returns_same}
use Rattle.std.proofs.lemmas.List.Sorted.{ranks_by}
use Rattle.cookie_lookup.specs.Positions.{place_order}
use Rattle.cookie_rows.proofs.PlacedGroups.{placed}
use Rattle.cookie_rows.proofs.map_search.sort_by_place.Goals as goal

pub returns-clause-sorted : goal.returns-clause-sorted
returns-clause-sorted c =
    let order = place_order (placed c.args.groups.now) in
    c.sort_unstable_by.ensures.sorted (λ a b. is_lt (order a b)) (ranks_by (c.rows_by_place.ensures.order (placed c.args.groups.now)) (λ s. s))
    (always_returns_same _ _ _ (λ a r g k. let is : r ≡ order a.0.now a.1.0.now = search rules in (ap is_lt is, search rules)))
