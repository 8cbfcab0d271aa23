-- What is at a position of the groups of all domains as they are stored.
use Rattle.std.proofs.Common.{◌≡◌, ℕ, zero, suc, List, [], ◌∷◌, length, map, refl, sym, ◌∙◌, ap, inl, inr, bytes_eq, Some, None}
use Rattle.std.specs.Prelude.{option_map, position, slice_get, slice_index_or, string_bytes, String}
use Rattle.std.specs.declared.alloc.Global.{Global}
use Rattle.std.proofs.lemmas.Bool.{cases_Bool}
use Rattle.std.proofs.lemmas.Option.{slice_get-map}
use Rattle.ordered_map.specs.Entries.{Ordered, entries, is_text}
use Rattle.cookie_lookup.specs.SearchView.{group_position, under}
use Rattle.cookie_lookup.specs.Positions.{groups_by_position, paths_by_position, places_of}
use Rattle.cookie_rows.specs.Items.{Item, ItemGroups, bare, rows_of}
use Rattle.cookie_rows.specs.Stored.{StoredGroups, StoredItems, StoredPaths, placed_groups, placed_paths, stored_in}
use Rattle.cookie_rows.proofs.Places.{bare_rows}
use Rattle.ordered_map.proofs.ByPlace.{length_in_order}
use Rattle.cookie_rows.proofs.StoredPaths.{stored_position, stored_texts}

-- The entries of a map of domains, by position.
abbrev Stored : Type 0
Stored = List (ℕ × (String Global × StoredPaths))

-- the position of a text, whatever is seen of the groups
pub viewed_position : {X Y : Type 0} (see : X → Y) (text : List ℕ) (gs : List (ℕ × (List ℕ × X))) → group_position text (map (λ g. g.1) gs) ≡ group_position text (map (λ g. (g.1.0, see g.1.1)) gs)
viewed_position see text [] = refl
viewed_position see text (g ∷ gs) = elim (cases_Bool (bytes_eq text g.1.0)) [
  | inl t ↦ rw t refl
  | inr t ↦ rw t (ap (option_map suc) (viewed_position see text gs))
]

-- domains

-- the position of a domain
pub position_is : (text : List ℕ) (ps : Stored) → position (is_text text) (map (λ p. p.1.0) ps) ≡ group_position text (groups_by_position (stored_texts ps))
position_is text ps = stored_position text ps ∙ viewed_position paths_by_position text (stored_texts ps)

-- the domain at a position
pub text_at : (ps : Stored) (n : ℕ) → option_map (λ p. string_bytes p.1.0) (slice_get ps n) ≡ slice_get (map (λ g. g.0) (groups_by_position (stored_texts ps))) n
text_at [] n = refl
text_at (p ∷ ps) zero = refl
text_at (p ∷ ps) (suc n) = text_at ps n

-- its groups
pub group_at : (ps : Stored) (n : ℕ) (group : StoredPaths) → Some group ≡ option_map (λ p. p.1.1) (slice_get ps n) → paths_by_position group ≡ under n (groups_by_position (stored_texts ps))
group_at [] n group there = absurd (cc)
group_at (p ∷ ps) zero group there = let same : group ≡ p.1.1 = cc in ap paths_by_position same
group_at (p ∷ ps) (suc n) group there = group_at ps n group there

-- past the end there are none
pub no_group_at : (ps : Stored) (n : ℕ) → None ≡ option_map (λ p. p.1.1) (slice_get ps n) → [] ≡ under n (groups_by_position (stored_texts ps))
no_group_at [] n none = refl
no_group_at (p ∷ ps) zero none = absurd (cc)
no_group_at (p ∷ ps) (suc n) none = no_group_at ps n none

-- its place
pub place_at : (ps : Stored) (n place : ℕ) → Some place ≡ option_map (λ p. p.0) (slice_get ps n) → place ≡ slice_index_or (map (λ g. g.0) (stored_texts ps)) n 0
place_at [] n place there = absurd (cc)
place_at (p ∷ ps) zero place there = cc
place_at (p ∷ ps) (suc n) place there = place_at ps n place there

-- past the end it is 0
pub no_place_at : (ps : Stored) (n : ℕ) → None ≡ option_map (λ p. p.0) (slice_get ps n) → 0 ≡ slice_index_or (map (λ g. g.0) (stored_texts ps)) n 0
no_place_at [] n none = refl
no_place_at (p ∷ ps) zero none = absurd (cc)
no_place_at (p ∷ ps) (suc n) none = no_place_at ps n none

-- there are as many domains as entries
pub domains_counted : {S : Type 0} (m : Ordered StoredPaths S) → length (entries m) ≡ length (bare (groups_by_position (stored_in m)))
domains_counted m = length_in_order m.by_position ∙ as_many m.by_position
  where
    as_many : (ps : Stored) → length ps ≡ length (bare (groups_by_position (stored_texts ps)))
    as_many [] = refl
    as_many (p ∷ ps) = ap suc (as_many ps)

-- the paths of a domain

-- the position of a path
pub path_position : (text : List ℕ) (group : StoredPaths) → group_position text (map (λ p. p.1) group) ≡ group_position text (paths_by_position group)
path_position text group = viewed_position (map (λ i. i.1)) text group

-- the paths
pub path_texts : (group : StoredPaths) → map (λ p. p.1.0) group ≡ map (λ p. p.0) (paths_by_position group)
path_texts [] = refl
path_texts (p ∷ ps) = ap (λ ts. p.1.0 ∷ ts) (path_texts ps)

-- how many there are
pub path_count : (group : StoredPaths) → length group ≡ length (paths_by_position group)
path_count [] = refl
path_count (p ∷ ps) = ap suc (path_count ps)

-- the rows without numbers
rows_are : (items : StoredItems) → map (λ i. i.1.row) items ≡ rows_of (map (λ i. i.1) items)
rows_are [] = refl
rows_are (i ∷ items) = ap (λ rows. i.1.row ∷ rows) (rows_are items)

-- the rows under a path
pub rows_at : (group : StoredPaths) (n : ℕ) → map (λ i. i.1.row) (under n (map (λ p. p.1) group)) ≡ rows_of (under n (paths_by_position group))
rows_at [] n = refl
rows_at (p ∷ ps) zero = rows_are p.1.1
rows_at (p ∷ ps) (suc n) = rows_at ps n

-- they are under this path
pub names_at : (group : StoredPaths) (n : ℕ) (names : StoredItems) → Some names ≡ slice_get (map (λ p. p.1.1) group) n → map (λ i. i.1) names ≡ under n (paths_by_position group)
names_at [] n names there = absurd (cc)
names_at (p ∷ ps) zero names there = let same : names ≡ p.1.1 = cc in ap (map (λ i. i.1)) same
names_at (p ∷ ps) (suc n) names there = names_at ps n names there

-- past the end there are none
pub no_names_at : (group : StoredPaths) (n : ℕ) → None ≡ slice_get (map (λ p. p.1.1) group) n → [] ≡ under n (paths_by_position group)
no_names_at [] n none = refl
no_names_at (p ∷ ps) zero none = absurd (cc)
no_names_at (p ∷ ps) (suc n) none = no_names_at ps n none

-- the row at a position, without its number
pub row_there : (gs : ItemGroups) (d p n : ℕ)
    → option_map (λ (item : Item). item.row) (slice_get (under p (under d gs)) n) ≡ slice_get (under p (under d (bare gs))) n
row_there gs d p n = sym (slice_get-map (λ (item : Item). item.row) (under p (under d gs)) n) ∙ ap (λ rows. slice_get rows n) (bare_rows d p gs)

-- the order by place

-- the places
pub places_are : (gs : StoredGroups) → map (λ g. g.0) gs ≡ places_of (placed_groups gs)
places_are [] = refl
places_are (g ∷ gs) = ap (λ places. g.0 ∷ places) (places_are gs)

-- the groups of a domain with their places
pub placed_at : (ps : Stored) (n : ℕ) (group : StoredPaths) → Some group ≡ option_map (λ p. p.1.1) (slice_get ps n) → placed_paths group ≡ under n (map (λ g. g.1) (placed_groups (stored_texts ps)))
placed_at [] n group there = absurd (cc)
placed_at (p ∷ ps) zero group there = let same : group ≡ p.1.1 = cc in ap placed_paths same
placed_at (p ∷ ps) (suc n) group there = placed_at ps n group there

-- past the end there are none
pub none_placed_at : (ps : Stored) (n : ℕ) → None ≡ option_map (λ p. p.1.1) (slice_get ps n) → [] ≡ under n (map (λ g. g.1) (placed_groups (stored_texts ps)))
none_placed_at [] n none = refl
none_placed_at (p ∷ ps) zero none = absurd (cc)
none_placed_at (p ∷ ps) (suc n) none = none_placed_at ps n none
