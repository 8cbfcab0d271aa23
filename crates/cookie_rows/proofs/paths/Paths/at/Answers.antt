use Rattle.std.proofs.Common.{◌∙◌, ap, map, sym}
use Rattle.std.specs.Prelude.{option_map, slice_get, string_bytes}
use Rattle.std.proofs.lemmas.Option.{slice_get-map}
use Rattle.std.proofs.lemmas.Simd.{map-map}
use Rattle.cookie_rows.specs.PathMaps.{stored_groups}
use Rattle.cookie_rows.proofs.StoredAt.{place_there}
use Rattle.cookie_rows.proofs.paths.Paths.at.Goals as goal

pub returns-in-Table-clause-place : goal.returns-in-Table-clause-place
returns-in-Table-clause-place c =
    let at = c.args.position in
    c.at.ensures.place ∙ ap (λ m. option_map (λ p. p.0) (slice_get m.by_position at)) c.deref.ensures
    ∙ place_there (λ e. (string_bytes e.0, e.1)) c.in-Table.groups.value.by_position at
    ∙ ap (λ s. slice_get (map (λ p. p.0) s) at) (ap stored_groups (sym c.in-Table.is) ∙ c.self.view_is)

pub returns-in-Table-clause-path : goal.returns-in-Table-clause-path
returns-in-Table-clause-path c =
    let at = c.args.position in
    let ps = c.in-Table.groups.value.by_position in
    c.at.ensures.key ∙ ap (λ m. option_map (λ p. string_bytes p.1.0) (slice_get m.by_position at)) c.deref.ensures
    ∙ sym (slice_get-map (λ p. string_bytes p.1.0) ps at) ∙ ap (λ ts. slice_get ts at) (sym (map-map (λ p. p.1.0) (λ e. (e.0, (string_bytes e.1.0, e.1.1))) ps))
    ∙ ap (λ s. slice_get (map (λ p. p.1.0) s) at) (ap stored_groups (sym c.in-Table.is) ∙ c.self.view_is)

pub returns-in-Table-clause-names : goal.returns-in-Table-clause-names
returns-in-Table-clause-names c =
    let at = c.args.position in
    let ps = c.in-Table.groups.value.by_position in
    c.at.ensures.value ∙ ap (λ m. option_map (λ p. p.1.1) (slice_get m.by_position at)) c.deref.ensures
    ∙ sym (slice_get-map (λ p. p.1.1) ps at) ∙ ap (λ vs. slice_get vs at) (sym (map-map (λ p. p.1.1) (λ e. (e.0, (string_bytes e.1.0, e.1.1))) ps))
    ∙ ap (λ s. slice_get (map (λ p. p.1.1) s) at) (ap stored_groups (sym c.in-Table.is) ∙ c.self.view_is)
