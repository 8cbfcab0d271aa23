use Rattle.std.proofs.Common.{◌≡◌, ◌∙◌, ap, map, nat_cmp, slice_index_or, sym}
use Rattle.std.specs.Ordering.{ordering_then}
use Rattle.cookie_rows.proofs.StoredAt.{same_places}
use Rattle.cookie_rows.proofs.names.Names.compare.Goals as goal

pub returns : goal.returns
returns c =
    let now = c.args.self.now in
    let compared : c.then.result ≡ ordering_then (nat_cmp (slice_index_or (map (λ i. i.0) now) c.args.a 0) (slice_index_or (map (λ i. i.0) now) c.args.b 0)) (nat_cmp c.args.a c.args.b) = cc in
    compared ∙ ap (λ ps. ordering_then (nat_cmp (slice_index_or ps c.args.a 0) (slice_index_or ps c.args.b 0)) (nat_cmp c.args.a c.args.b)) (sym (same_places now))
