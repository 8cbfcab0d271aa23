-- The numbered keys of groups as they are stored are those of the groups in order.
use Rattle.std.proofs.Common.{◌≡◌, ℕ, Bool, ◌||◌, List, [], ◌∷◌, map, refl, sym, ◌∙◌, ap, ap₂, String}
use Rattle.std.specs.Prelude.{string_bytes}
use Rattle.std.specs.List.{flat_map, list_any}
use Rattle.std.specs.declared.alloc.Global.{Global}
use Rattle.std.proofs.lemmas.List.Folds.{flat_map-map, list_any-append}
use Rattle.std.proofs.lemmas.List.Sorted.{list_any-IsPermutation}
use Rattle.ordered_map.specs.Entries.{Ordered, entries, in_order}
use Rattle.ordered_map.proofs.ByPlace.{in_order_permuted}
use Rattle.cookie_laws.specs.Rows.{Key, key_at}
use Rattle.cookie_lookup.specs.Positions.{groups_by_position, paths_by_position, paths_in_order}
use Rattle.cookie_rows.specs.Items.{Item, ItemPaths, numbered, numbered_names, numbered_paths}
use Rattle.cookie_rows.specs.Stored.{StoredItems, StoredPaths, domains_in, stored_in}

-- a test passes at an element in order if it does at one as stored
any_in_order : {X : Type 0} (test : X → Bool) (xs : List (ℕ × X)) → list_any test (in_order xs) ≡ list_any test (map (λ x. x.1) xs)
any_in_order test xs = sym (list_any-IsPermutation test (map (λ x. x.1) xs) (in_order xs) (in_order_permuted xs))

module _ {B : Type 0} (test : B → Bool) where
  -- at an element of one of the lists if it does at one of all
  any_in_each : {A : Type 0} (f : A → List B) (xs : List A) → list_any test (flat_map f xs) ≡ list_any (λ x. list_any test (f x)) xs
  any_in_each f [] = refl
  any_in_each f (x ∷ xs) = list_any-append test (f x) (flat_map f xs) ∙ ap (λ b. list_any test (f x) || b) (any_in_each f xs)

  -- at one of what two functions make of elements, in order and as stored
  any_made : {A : Type 0} (f g : A → List B) → ((x : A) → list_any test (f x) ≡ list_any test (g x)) → (xs : List (ℕ × A))
      → list_any test (flat_map f (in_order xs)) ≡ list_any test (flat_map (λ x. g x.1) xs)
  any_made {A} f g same xs = any_in_each f (in_order xs) ∙ any_in_order (λ x. list_any test (f x)) xs ∙ each xs
    where
      each : (ys : List (ℕ × A)) → list_any (λ x. list_any test (f x)) (map (λ y. y.1) ys) ≡ list_any test (flat_map (λ y. g y.1) ys)
      each [] = refl
      each (y ∷ ys) = ap₂ (λ a b. a || b) (same y.1) (each ys) ∙ sym (list_any-append test (g y.1) (flat_map (λ z. g z.1) ys))

module _ (test : Key × ℕ → Bool) where
  -- at a row of a group
  any_row : (d path : List ℕ) (items : StoredItems) → list_any test (numbered_names d path (in_order items)) ≡ list_any test (numbered_names d path (map (λ i. i.1) items))
  any_row d path items =
      let passes : Item → Bool = λ item. test (key_at d path item.row.raw.name, item.number) in
      of_names (in_order items) ∙ any_in_order passes items ∙ sym (of_names (map (λ i. i.1) items))
    where
      of_names : (xs : List Item) → list_any test (numbered_names d path xs) ≡ list_any (λ item. test (key_at d path item.row.raw.name, item.number)) xs
      of_names [] = refl
      of_names (x ∷ xs) = ap (λ b. test (key_at d path x.row.raw.name, x.number) || b) (of_names xs)

  -- of a domain
  any_path : (d : List ℕ) (ps : StoredPaths) → list_any test (numbered_paths d (paths_in_order ps)) ≡ list_any test (numbered_paths d (paths_by_position ps))
  any_path d ps =
      let of_path : List ℕ × List Item → List (Key × ℕ) = λ p. numbered_names d p.0 p.1 in
      ap (list_any test) (flat_map-map of_path (λ (p : List ℕ × StoredItems). (p.0, in_order p.1)) (in_order ps))
      ∙ any_made test (λ p. numbered_names d p.0 (in_order p.1)) (λ p. numbered_names d p.0 (map (λ i. i.1) p.1)) (λ p. any_row d p.0 p.1) ps
      ∙ ap (list_any test) (sym (flat_map-map of_path (λ (p : ℕ × (List ℕ × StoredItems)). (p.1.0, map (λ i. i.1) p.1.1)) ps))

  -- of all domains
  pub any_number : {S : Type 0} (m : Ordered StoredPaths S) → list_any test (numbered (domains_in m)) ≡ list_any test (numbered (groups_by_position (stored_in m)))
  any_number m =
      let of_domain : List ℕ × ItemPaths → List (Key × ℕ) = λ g. numbered_paths g.0 g.1 in
      ap (list_any test) (flat_map-map of_domain (λ (e : String Global × StoredPaths). (string_bytes e.0, paths_in_order e.1)) (entries m))
      ∙ any_made test (λ e. numbered_paths (string_bytes e.0) (paths_in_order e.1)) (λ e. numbered_paths (string_bytes e.0) (paths_by_position e.1)) (λ e. any_path (string_bytes e.0) e.1) m.by_position
      ∙ ap (list_any test)
      (sym (flat_map-map (λ (g : ℕ × (List ℕ × StoredPaths)). numbered_paths g.1.0 (paths_by_position g.1.1)) (λ (e : ℕ × (String Global × StoredPaths)). (e.0, (string_bytes e.1.0, e.1.1))) m.by_position)
      ∙ sym (flat_map-map of_domain (λ (g : ℕ × (List ℕ × StoredPaths)). (g.1.0, paths_by_position g.1.1)) (stored_in m)))
