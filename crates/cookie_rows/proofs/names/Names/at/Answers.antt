use Rattle.std.proofs.Common.{◌≡◌, ◌∙◌, ◌+◌, ◌<◌, ◌≤◌, Some, ap, arith, length, map, refl, sym}
use Rattle.std.specs.Prelude.{option_map, slice_get}
use Rattle.std.proofs.lemmas.Bool.Decides.{nat_tests}
use Rattle.std.proofs.lemmas.Option.{slice_get_past, slice_get_read}
use Rattle.cookie_rows.specs.Items.{Item}
use Rattle.cookie_rows.specs.NameMaps.{stored_rows}
use Rattle.cookie_rows.proofs.StoredAt.{content_there, index_there, place_there}
use Rattle.cookie_rows.proofs.StoredOrder.{indexed_contents}
use Rattle.cookie_rows.proofs.names.Names.at.Goals as goal

pub returns-in-Some-clause-place : goal.returns-in-Some-clause-place
returns-in-Some-clause-place c =
    let items = c.in-List.rows.value.items in
    let slice = c.deref-in-List.result.now in
    let at = c.args.position in
    let same : slice ≡ items = c.deref-in-List.ensures.value ∙ ap (λ v. v.items) c.deref.ensures in
    let within : at < length slice = grind (arith, nat_tests, c.in-Some.ensures.lookup.0) in
    let there = sym (slice_get_read slice (length slice) at c.in-Some.row.now refl within c.in-Some.ensures.lookup.1) ∙ ap (λ xs. slice_get xs at) same in
    let index : at ≡ 0 + at = omega arith in
    ap Some index ∙ ap (option_map (λ (x : Item). 0 + at)) there ∙ index_there 0 items at
    ∙ ap (λ s. slice_get (map (λ i. i.0) s) at) (ap stored_rows (sym c.in-List.is) ∙ c.self.view_is)

pub returns-in-Some-clause-item : goal.returns-in-Some-clause-item
returns-in-Some-clause-item c =
    let items = c.in-List.rows.value.items in
    let slice = c.deref-in-List.result.now in
    let at = c.args.position in
    let same : slice ≡ items = c.deref-in-List.ensures.value ∙ ap (λ v. v.items) c.deref.ensures in
    let within : at < length slice = grind (arith, nat_tests, c.in-Some.ensures.lookup.0) in
    sym (slice_get_read slice (length slice) at c.in-Some.row.now refl within c.in-Some.ensures.lookup.1) ∙ ap (λ xs. slice_get xs at) (same ∙ sym (indexed_contents 0 items))
    ∙ ap (λ s. slice_get (map (λ i. i.1) s) at) (ap stored_rows (sym c.in-List.is) ∙ c.self.view_is)

pub returns-in-None-clause-place : goal.returns-in-None-clause-place
returns-in-None-clause-place c =
    let items = c.in-List.rows.value.items in
    let slice = c.deref-in-List.result.now in
    let at = c.args.position in
    let same : slice ≡ items = c.deref-in-List.ensures.value ∙ ap (λ v. v.items) c.deref.ensures in
    let past : length slice ≤ at = grind (arith, nat_tests, c.in-None.ensures.lookup.0) in
    ap (option_map (λ (x : Item). 0 + at)) (sym (slice_get_past slice at past) ∙ ap (λ xs. slice_get xs at) same) ∙ index_there 0 items at
    ∙ ap (λ s. slice_get (map (λ i. i.0) s) at) (ap stored_rows (sym c.in-List.is) ∙ c.self.view_is)

pub returns-in-None-clause-item : goal.returns-in-None-clause-item
returns-in-None-clause-item c =
    let items = c.in-List.rows.value.items in
    let slice = c.deref-in-List.result.now in
    let at = c.args.position in
    let same : slice ≡ items = c.deref-in-List.ensures.value ∙ ap (λ v. v.items) c.deref.ensures in
    let past : length slice ≤ at = grind (arith, nat_tests, c.in-None.ensures.lookup.0) in
    sym (slice_get_past slice at past) ∙ ap (λ xs. slice_get xs at) (same ∙ sym (indexed_contents 0 items))
    ∙ ap (λ s. slice_get (map (λ i. i.1) s) at) (ap stored_rows (sym c.in-List.is) ∙ c.self.view_is)

pub returns-in-Some-at-clause-place : goal.returns-in-Some-at-clause-place
returns-in-Some-at-clause-place c =
    let at = c.args.position in
    c.in-Some-at.ensures.place ∙ ap (λ m. option_map (λ p. p.0) (slice_get m.by_position at)) c.deref-in-Table.ensures
    ∙ place_there (λ e. e.1) c.in-Table.rows.value.by_position at
    ∙ ap (λ s. slice_get (map (λ i. i.0) s) at) (ap stored_rows (sym c.in-Table.is) ∙ c.self.view_is)

pub returns-in-Some-at-clause-item : goal.returns-in-Some-at-clause-item
returns-in-Some-at-clause-item c =
    let at = c.args.position in
    c.in-Some-at.ensures.value ∙ ap (λ m. option_map (λ p. p.1.1) (slice_get m.by_position at)) c.deref-in-Table.ensures
    ∙ content_there (λ e. e.1) c.in-Table.rows.value.by_position at
    ∙ ap (λ s. slice_get (map (λ i. i.1) s) at) (ap stored_rows (sym c.in-Table.is) ∙ c.self.view_is)

pub returns-in-None-at-clause-place : goal.returns-in-None-at-clause-place
returns-in-None-at-clause-place c =
    let at = c.args.position in
    c.in-None-at.ensures.place ∙ ap (λ m. option_map (λ p. p.0) (slice_get m.by_position at)) c.deref-in-Table.ensures
    ∙ place_there (λ e. e.1) c.in-Table.rows.value.by_position at
    ∙ ap (λ s. slice_get (map (λ i. i.0) s) at) (ap stored_rows (sym c.in-Table.is) ∙ c.self.view_is)

pub returns-in-None-at-clause-item : goal.returns-in-None-at-clause-item
returns-in-None-at-clause-item c =
    let at = c.args.position in
    c.in-None-at.ensures.value ∙ ap (λ m. option_map (λ p. p.1.1) (slice_get m.by_position at)) c.deref-in-Table.ensures
    ∙ content_there (λ e. e.1) c.in-Table.rows.value.by_position at
    ∙ ap (λ s. slice_get (map (λ i. i.1) s) at) (ap stored_rows (sym c.in-Table.is) ∙ c.self.view_is)
