-- The groups of a map with their places: what the law on such groups says of them.
use Rattle.std.proofs.Common.{◌≡◌, ◌≢◌, ℕ, List, [], ◌∷◌, length, map, refl, sym, ◌∙◌, ap, ap₂, subst, IsPermutation, String}
use Rattle.std.specs.Prelude.{string_bytes}
use Rattle.std.specs.List.{flat_map}
use Rattle.std.proofs.lemmas.List.{nil_from_length}
use Rattle.std.proofs.lemmas.List.Sorted.{IsPermutation-refl, length_permutation}
use Rattle.url.specs.Parts.{Parts}
use Rattle.ordered_map.specs.Entries.{Ordered, entries, in_order}
use Rattle.cookie_words.specs.Moments.{Moment}
use Rattle.cookie_parts.specs.Cookie.{Row}
use Rattle.cookie_laws.specs.Given.{given}
use Rattle.cookie_lookup.specs.Groups.{DomainGroups, flat}
use Rattle.cookie_lookup.specs.Positions.{Placed, PlacedGroups, PlacedPaths, groups_by_position, groups_in_order, paths_by_position, paths_in_order, without_places}
use Rattle.cookie_lookup.specs.SearchView.{RowPosition, given_positions, rows_at}
use Rattle.cookie_rows.specs.Items.{Item, bare, bare_paths, rows_of}
use Rattle.cookie_rows.specs.Stored.{StoredGroups, StoredItems, StoredPaths, domains_in, placed_groups, placed_paths, placed_rows, stored_in}
use Rattle.cookie_rows.proofs.StoredOrder.{map_in_order, stored_in_order}

-- as stored, without places

stored_rows : (items : StoredItems) → without_places (placed_rows items) ≡ rows_of (map (λ i. i.1) items)
stored_rows [] = refl
stored_rows (i ∷ items) = ap (λ rows. i.1.row ∷ rows) (stored_rows items)

stored_paths : (ps : StoredPaths) → paths_by_position (placed_paths ps) ≡ bare_paths (paths_by_position ps)
stored_paths [] = refl
stored_paths (p ∷ ps) = ap₂ (λ rows paths. (p.1.0, rows) ∷ paths) (stored_rows p.1.1) (stored_paths ps)

stored_groups : (gs : StoredGroups) → groups_by_position (placed_groups gs) ≡ bare (groups_by_position gs)
stored_groups [] = refl
stored_groups (g ∷ gs) = ap₂ (λ paths groups. (g.1.0, paths) ∷ groups) (stored_paths g.1.1) (stored_groups gs)

-- in order

rows_ordered : (items : StoredItems) → in_order (placed_rows items) ≡ rows_of (in_order items)
rows_ordered items = map_in_order (λ (i : Item). i.row) items

paths_ordered : (ps : StoredPaths) → paths_in_order (placed_paths ps) ≡ bare_paths (paths_in_order ps)
paths_ordered ps =
    ap (map (λ (p : List ℕ × Placed Row). (p.0, in_order p.1))) (map_in_order (λ (p : List ℕ × StoredItems). (p.0, placed_rows p.1)) ps) ∙ each (in_order ps)
  where
    each : (qs : List (List ℕ × StoredItems)) → map (λ (p : List ℕ × Placed Row). (p.0, in_order p.1)) (map (λ (p : List ℕ × StoredItems). (p.0, placed_rows p.1)) qs)
        ≡ bare_paths (map (λ (p : List ℕ × StoredItems). (p.0, in_order p.1)) qs)
    each [] = refl
    each (q ∷ qs) = ap₂ (λ rows paths. (q.0, rows) ∷ paths) (rows_ordered q.1) (each qs)

groups_ordered : {S : Type 0} (m : Ordered StoredPaths S) → groups_in_order (placed_groups (stored_in m)) ≡ bare (domains_in m)
groups_ordered m =
    ap (map (λ (g : List ℕ × PlacedPaths Row). (g.0, paths_in_order g.1)))
    (map_in_order (λ (g : List ℕ × StoredPaths). (g.0, placed_paths g.1)) (stored_in m)
    ∙ ap (map (λ (g : List ℕ × StoredPaths). (g.0, placed_paths g.1))) (stored_in_order m))
    ∙ each (entries m)
  where
    each : {A : Type 0} (es : List (String A × StoredPaths))
        → map (λ (g : List ℕ × PlacedPaths Row). (g.0, paths_in_order g.1)) (map (λ (g : List ℕ × StoredPaths). (g.0, placed_paths g.1)) (map (λ (e : String A × StoredPaths). (string_bytes e.0, e.1)) es))
        ≡ bare (map (λ (e : String A × StoredPaths). (string_bytes e.0, paths_in_order e.1)) es)
    each [] = refl
    each (e ∷ es) = ap₂ (λ paths groups. (string_bytes e.0, paths) ∷ groups) (paths_ordered e.1) (each es)

-- a list is empty if another with its elements is
pub moved_none : {X : Type 0} (xs ys : List X) → IsPermutation xs ys → xs ≡ [] → ys ≡ []
moved_none xs ys moved none = nil_from_length ys (length_permutation xs ys moved ∙ ap length none)

-- the law's clause on positions in any order
abbrev pub RowsInAnyOrder : Type 0
RowsInAnyOrder = (placed : PlacedGroups Row) (url : Parts) (now : Moment) (positions : List RowPosition)
    → IsPermutation (given_positions url now (groups_by_position placed)) positions
    → IsPermutation (given url now (flat (groups_in_order placed))) (flat_map (rows_at (groups_by_position placed)) positions)

module _ {S : Type 0} (m : Ordered StoredPaths S) where
  -- the groups with their places
  abbrev pub placed : PlacedGroups Row
  placed = placed_groups (stored_in m)

  -- the groups in order
  abbrev groups : DomainGroups
  groups = bare (domains_in m)

  -- and as they are stored
  abbrev others : DomainGroups
  others = bare (groups_by_position (stored_in m))

  -- what holds of the groups with their places holds of those without
  pub of_groups : (P : DomainGroups → DomainGroups → Type 0) → P (groups_in_order placed) (groups_by_position placed) → P groups others
  of_groups P holds = subst (λ gs. P gs others) (groups_ordered m) (subst (P (groups_in_order placed)) (stored_groups (stored_in m)) holds)

  -- and back
  pub of_placed : (P : DomainGroups → DomainGroups → Type 0) → P groups others → P (groups_in_order placed) (groups_by_position placed)
  of_placed P holds = subst (λ gs. P gs (groups_by_position placed)) (sym (groups_ordered m)) (subst (P groups) (sym (stored_groups (stored_in m))) holds)

  module _ (law : RowsInAnyOrder) (url : Parts) (now : Moment) where
    -- the rows at the positions found are those given, in any order
    pub given_in_any_order : (positions : List RowPosition) → IsPermutation (given_positions url now others) positions
        → IsPermutation (given url now (flat groups)) (flat_map (rows_at others) positions)
    given_in_any_order positions found =
        of_groups (λ gs hs. IsPermutation (given url now (flat gs)) (flat_map (rows_at hs) positions))
        (law placed url now positions (of_placed (λ gs hs. IsPermutation (given_positions url now hs) positions) found))

    -- a position is found only if a row is given
    pub some_given : flat_map (rows_at others) (given_positions url now others) ≡ given url now (flat others)
        → length (given_positions url now others) ≡ length (given url now (flat others))
        → given_positions url now others ≢ [] → given url now (flat groups) ≢ []
    some_given rows count some none =
        let positions = given_positions url now others in
        let nothing = moved_none _ _ (given_in_any_order positions (IsPermutation-refl positions)) none in
        some (nil_from_length positions (count ∙ ap length (sym rows ∙ nothing)))
