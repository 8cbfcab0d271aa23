use Rattle.std.proofs.Common.{◌≡◌, ◌∙◌, Equal, ap, map, nat_cmp, slice_index_or, sym}
use Rattle.std.specs.Ordering.{ordering_then}
use Rattle.cookie_lookup.specs.Positions.{entry_order, nth_place}
use Rattle.cookie_lookup.specs.SearchView.{under}
use Rattle.cookie_rows.specs.Stored.{placed_paths}
use Rattle.cookie_rows.proofs.EntryOrder.{entry_itself, then_apart}
use Rattle.cookie_rows.proofs.StoredAt.{none_under, placed_under, same_path_places}
use Rattle.cookie_rows.proofs.paths.Paths.compare.Goals as goal

pub returns-then-a-b : goal.returns-then-a-b
returns-then-a-b c =
    let a = c.args.a in
    let b = c.args.b in
    let now = c.args.self.now in
    let placed = placed_paths now in
    let compared : c.then.result ≡ ordering_then (nat_cmp (slice_index_or (map (λ p. p.0) now) a.0 0) (slice_index_or (map (λ p. p.0) now) b.0 0)) (nat_cmp a.0 b.0) = cc in
    compared ∙ ap (λ ps. ordering_then (nat_cmp (slice_index_or ps a.0 0) (slice_index_or ps b.0 0)) (nat_cmp a.0 b.0)) (sym (same_path_places now))
    ∙ then_apart (nat_cmp (nth_place placed a.0) (nth_place placed b.0)) a.0 b.0 c.if-a-b.true (entry_order (under a.0 (map (λ p. p.1) placed)) a.1 b.1)

pub returns-in-Some : goal.returns-in-Some
returns-in-Some c =
    let a = c.args.a in
    let b = c.args.b in
    let placed = placed_paths c.args.self.now in
    let equal : entry_order placed a.0 b.0 ≡ Equal = ap (entry_order placed a.0) (sym c.if-a-b.false) ∙ entry_itself placed a.0 in
    c.compare.ensures ∙ ap (λ rows. entry_order rows a.1 b.1) (placed_under c.args.self.now a.0 c.in-Some.names.now c.in-Some.ensures.names)
    ∙ ap (λ o. ordering_then o (entry_order (under a.0 (map (λ p. p.1) placed)) a.1 b.1)) (sym equal)

pub returns-in-None : goal.returns-in-None
returns-in-None c =
    let a = c.args.a in
    let b = c.args.b in
    let placed = placed_paths c.args.self.now in
    let equal : entry_order placed a.0 b.0 ≡ Equal = ap (entry_order placed a.0) (sym c.if-a-b.false) ∙ entry_itself placed a.0 in
    c.cmp-in-None.ensures ∙ ap (λ rows. entry_order rows a.1 b.1) (none_under c.args.self.now a.0 c.in-None.ensures.names)
    ∙ ap (λ o. ordering_then o (entry_order (under a.0 (map (λ p. p.1) placed)) a.1 b.1)) (sym equal)
