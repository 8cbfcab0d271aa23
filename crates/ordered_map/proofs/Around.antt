-- The entries before and after one, in the order of insertion.
use Rattle.std.proofs.Common.{◌≡◌, ℕ, suc, ◌<◌, ◌≤◌, List, length, get_or, take, drop, map, Some, slice_get, sym, ap, ◌∙◌, arith, ⊎_elim}
use Rattle.std.specs.List.{flat_map}
use Rattle.std.proofs.lemmas.Bool.{cases_lt}
use Rattle.std.proofs.lemmas.List.{get_or_past, length-map}
use Rattle.std.proofs.lemmas.Option.{slice_get_within}
use Rattle.ordered_map.specs.Layout.{at_position, gap_position, IsOrdered}
use Rattle.ordered_map.proofs.FlatMaps.{get_or_map_at}

module _ {X : Type 0} (place : X → ℕ) (xs : List X) (order : List ℕ) (h : IsOrdered (map place xs) order) where
  -- an entry's place holds its position
  pub position_at_place : (at : ℕ) (x : X) → slice_get xs at ≡ Some x → get_or order (place x) gap_position ≡ at
  position_at_place at x e =
      let l : at < length (map place xs) = omega (arith, slice_get_within xs at x e, length-map xs place) in
      ap (λ p. get_or order p gap_position) (sym (get_or_map_at place xs at x gap_position e)) ∙ h.placed at l

  -- a place that holds the position of an entry is its place
  pub place_of_position : (k : ℕ) (x : X) → slice_get xs (get_or order k gap_position) ≡ Some x → place x ≡ k
  place_of_position k x e =
      let l : get_or order k gap_position < length (map place xs) = omega (arith, slice_get_within xs _ x e, length-map xs place) in
      sym (get_or_map_at place xs _ x gap_position e) ∙ h.own k l

  pub place_within : (at : ℕ) (x : X) → slice_get xs at ≡ Some x → place x < length order
  place_within at x e =
      let here = position_at_place at x e in
      let in' = slice_get_within xs at x e in
      ⊎_elim (λ l. l) (λ (past : length order ≤ place x). absurd (omega (arith, get_or_past order (place x) gap_position past, h.fits, length-map xs place))) (cases_lt (place x) (length order))

  module _ (at : ℕ) (x : X) (e : slice_get xs at ≡ Some x) where
    abbrev pub before : List X
    before = flat_map (at_position xs) (take (place x) order)

    abbrev pub after : List X
    after = flat_map (at_position xs) (drop (suc (place x)) order)
