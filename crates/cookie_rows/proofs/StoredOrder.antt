-- Lists with places, and what they are in order.
use Rattle.std.proofs.Common.{◌≡◌, ℕ, suc, true, List, [], ◌∷◌, map, refl, sym, ap, ◌∙◌, inl, inr, arith, nat_le}
use Rattle.std.specs.Prelude.{string_bytes, String}
use Rattle.std.proofs.lemmas.Bool.{cases_Bool}
use Rattle.std.proofs.lemmas.Bool.Decides.{nat_tests}
use Rattle.ordered_map.specs.Entries.{Ordered, by_place, entries, in_order, insert_by_place}
use Rattle.cookie_lookup.specs.Positions.{paths_in_order}
use Rattle.cookie_rows.specs.GroupChanges.{texts_by}
use Rattle.cookie_rows.specs.NameMaps.{items_of, stored_rows}
use Rattle.cookie_rows.specs.PathMaps.{groups_of, stored_groups}
use Rattle.cookie_rows.specs.Stored.{StoredItems, StoredPaths, indexed, paths_in, stored_in}
use Rattle.cookie_rows.specs.declared.names.NameMap.{NameMap}
use Rattle.cookie_rows.specs.declared.names.NameMap.TheVariants as Rows
use Rattle.cookie_rows.specs.declared.paths.PathMap.{PathMap}
use Rattle.cookie_rows.specs.declared.paths.PathMap.TheVariants as Groups

module _ {X Y : Type 0} (f : X → Y) where
  -- the contents changed, the places not
  abbrev pub changed_content : ℕ × X → ℕ × Y
  changed_content x = (x.0, f x.1)

  map_insert : (x : ℕ × X) (ys : List (ℕ × X)) → insert_by_place (changed_content x) (map changed_content ys) ≡ map changed_content (insert_by_place x ys)
  map_insert x [] = refl
  map_insert x (y ∷ ys) = elim (cases_Bool (nat_le x.0 y.0)) [
    | inl t ↦ rw t refl
    | inr t ↦ rw t (ap (λ zs. changed_content y ∷ zs) (map_insert x ys))
  ]

  map_by_place : (xs : List (ℕ × X)) → by_place (map changed_content xs) ≡ map changed_content (by_place xs)
  map_by_place [] = refl
  map_by_place (x ∷ xs) = ap (insert_by_place (changed_content x)) (map_by_place xs) ∙ map_insert x (by_place xs)

  contents_changed : (xs : List (ℕ × X)) → map (λ y. y.1) (map changed_content xs) ≡ map f (map (λ x. x.1) xs)
  contents_changed [] = refl
  contents_changed (x ∷ xs) = ap (λ ys. f x.1 ∷ ys) (contents_changed xs)

  -- to change the contents, and to bring them in order
  pub map_in_order : (xs : List (ℕ × X)) → in_order (map changed_content xs) ≡ map f (in_order xs)
  map_in_order xs = ap (map (λ y. y.1)) (map_by_place xs) ∙ contents_changed (by_place xs)

-- what stands at its index is in order

insert_first : {X : Type 0} (n : ℕ) (x : X) (xs : List X) → insert_by_place (n, x) (indexed (suc n) xs) ≡ (n, x) ∷ indexed (suc n) xs
insert_first n x [] = refl
insert_first n x (y ∷ ys) =
    let before : nat_le n (suc n) ≡ true = grind (arith, nat_tests) in
    rw before refl

indexed_by_place : {X : Type 0} (n : ℕ) (xs : List X) → by_place (indexed n xs) ≡ indexed n xs
indexed_by_place n [] = refl
indexed_by_place n (x ∷ xs) = ap (insert_by_place (n, x)) (indexed_by_place (suc n) xs) ∙ insert_first n x xs

-- the elements of a list at their indices
pub indexed_contents : {X : Type 0} (n : ℕ) (xs : List X) → map (λ x. x.1) (indexed n xs) ≡ xs
indexed_contents n [] = refl
indexed_contents n (x ∷ xs) = ap (λ ys. x ∷ ys) (indexed_contents (suc n) xs)

pub indexed_in_order : {X : Type 0} (n : ℕ) (xs : List X) → in_order (indexed n xs) ≡ xs
indexed_in_order n xs = ap (map (λ x. x.1)) (indexed_by_place n xs) ∙ indexed_contents n xs

-- the maps in order

-- the entries of a map
pub stored_in_order : {S V : Type 0} (m : Ordered V S) → in_order (stored_in m) ≡ map (λ e. (string_bytes e.0, e.1)) (entries m)
stored_in_order m = map_in_order (λ e. (string_bytes e.0, e.1)) m.by_position

-- the groups in a table
pub table_in_order : {S : Type 0} (m : Ordered StoredItems S) → paths_in_order (stored_in m) ≡ paths_in m
table_in_order m = ap (map (λ (p : List ℕ × StoredItems). (p.0, in_order p.1))) (stored_in_order m) ∙ both (entries m)
  where
    both : {A : Type 0} (es : List (String A × StoredItems)) → map (λ (p : List ℕ × StoredItems). (p.0, in_order p.1)) (map (λ e. (string_bytes e.0, e.1)) es) ≡ texts_by in_order es
    both [] = refl
    both (e ∷ es) = ap (λ xs. (string_bytes e.0, in_order e.1) ∷ xs) (both es)

-- the groups of a domain
pub groups_in_order : (groups : PathMap) → paths_in_order (stored_groups groups) ≡ groups_of groups
groups_in_order Groups.Empty = refl
groups_in_order (Groups.Single path names) = refl
groups_in_order (Groups.Table groups) = table_in_order groups.value

-- the rows of a path
pub rows_in_order : (rows : NameMap) → in_order (stored_rows rows) ≡ items_of rows
rows_in_order Rows.Empty = refl
rows_in_order (Rows.Single row) = refl
rows_in_order (Rows.List rows) = indexed_in_order 0 rows.value.items
rows_in_order (Rows.Table rows) = map_in_order (λ e. e.1) rows.value.by_position

-- the rows in order, where the rows as stored are these
pub shown_rows : (rows shape : NameMap) (now : StoredItems) → rows ≡ shape → stored_rows rows ≡ now → items_of shape ≡ in_order now
shown_rows rows shape now is view = ap items_of (sym is) ∙ sym (rows_in_order rows) ∙ ap in_order view

-- the groups in order, where the groups as stored are these
pub shown_groups : (groups shape : PathMap) (now : StoredPaths) → groups ≡ shape → stored_groups groups ≡ now → groups_of shape ≡ paths_in_order now
shown_groups groups shape now is view = ap groups_of (sym is) ∙ sym (groups_in_order groups) ∙ ap paths_in_order view
