use Rattle.std.proofs.Common.{◌≡◌, ◌∙◌, Equal, ap, map, nat_cmp, slice_index_or, sym}
use Rattle.std.specs.Ordering.{ordering_then}
use Rattle.cookie_lookup.specs.Positions.{entry_order, nth_place, paths_order}
use Rattle.cookie_lookup.specs.SearchView.{under}
use Rattle.cookie_rows.specs.Stored.{placed_groups, stored_in}
use Rattle.cookie_rows.proofs.EntryOrder.{entry_itself, then_apart}
use Rattle.cookie_rows.proofs.StoredPositions.{none_placed_at, placed_at, places_are}
use Rattle.cookie_rows.proofs.map_search.compare.Goals as goal

pub returns-then-a-b : goal.returns-then-a-b
returns-then-a-b c =
    let a = c.args.a in
    let b = c.args.b in
    let gs = stored_in c.args.groups.now in
    let placed = placed_groups gs in
    let compared : c.then.result ≡ ordering_then (nat_cmp (slice_index_or (map (λ g. g.0) gs) a.0 0) (slice_index_or (map (λ g. g.0) gs) b.0 0)) (nat_cmp a.0 b.0) = cc in
    compared ∙ ap (λ ps. ordering_then (nat_cmp (slice_index_or ps a.0 0) (slice_index_or ps b.0 0)) (nat_cmp a.0 b.0)) (places_are gs)
    ∙ then_apart (nat_cmp (nth_place placed a.0) (nth_place placed b.0)) a.0 b.0 c.if-a-b.true (paths_order (under a.0 (map (λ g. g.1) placed)) (a.1, a.2) (b.1, b.2))

pub returns-in-Some : goal.returns-in-Some
returns-in-Some c =
    let a = c.args.a in
    let b = c.args.b in
    let placed = placed_groups (stored_in c.args.groups.now) in
    let equal : entry_order placed a.0 b.0 ≡ Equal = ap (entry_order placed a.0) (sym c.if-a-b.false) ∙ entry_itself placed a.0 in
    c.compare.ensures ∙ ap (λ ps. paths_order ps (a.1, a.2) (b.1, b.2)) (placed_at c.args.groups.now.by_position a.0 c.in-Some.paths.now c.in-Some.ensures.value)
    ∙ ap (λ o. ordering_then o (paths_order (under a.0 (map (λ g. g.1) placed)) (a.1, a.2) (b.1, b.2))) (sym equal)

pub returns-in-None : goal.returns-in-None
returns-in-None c =
    let a = c.args.a in
    let b = c.args.b in
    let placed = placed_groups (stored_in c.args.groups.now) in
    let equal : entry_order placed a.0 b.0 ≡ Equal = ap (entry_order placed a.0) (sym c.if-a-b.false) ∙ entry_itself placed a.0 in
    c.cmp-in-None.ensures ∙ ap (λ ps. paths_order ps (a.1, a.2) (b.1, b.2)) (none_placed_at c.args.groups.now.by_position a.0 c.in-None.ensures.value)
    ∙ ap (λ o. ordering_then o (paths_order (under a.0 (map (λ g. g.1) placed)) (a.1, a.2) (b.1, b.2))) (sym equal)
