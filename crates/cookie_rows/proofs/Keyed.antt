-- The items of groups as one list, each under its key.
use Rattle.std.proofs.Common.{◌≡◌, ℕ, ◌<◌, Bool, true, false, List, [], ◌∷◌, ◌++◌, length, map, refl, sym, ◌∙◌, ap, ap₂, subst, inl, inr, bytes_eq, append-nil, map-id}
use Rattle.std.specs.List.{AllByRecursion, filter, flat_map, list_any}
use Rattle.std.proofs.lemmas.Bool.{and_parts, cases_Bool, or_parts}
use Rattle.std.proofs.lemmas.List.{map-append}
use Rattle.std.proofs.lemmas.List.Elements.{filter-append}
use Rattle.std.proofs.lemmas.List.Folds.{flat_map-map}
use Rattle.std.proofs.lemmas.Simd.{map-map}
use Rattle.std.proofs.lemmas.Slice.Eq.{bytes_eq-Decides}
use Rattle.cookie_laws.specs.Rows.{Key, are_rows, differ, key_at, key_of, same_key}
use Rattle.cookie_lookup.specs.Groups.{AreGroups, ArePaths, Filled, HasDomainAndPath, flat, flat_paths}
use Rattle.cookie_rows.specs.Items.{Item, ItemGroups, ItemPaths, bare, bare_paths, numbered, numbered_names, numbered_paths, rows_of}
use Rattle.cookie_rows.specs.Eviction.{paths_of}
use Rattle.cookie_rows.specs.Least.{items_in_paths}
use Rattle.cookie_rows.proofs.All.{all_append, all_map}
use Rattle.cookie_rows.proofs.Leaves.{all_leaves, leaves_filter}
use Rattle.cookie_rows.proofs.Flat.{absent}

-- the paths of a domain differ
abbrev pub PathsDiffer : ItemPaths → Type 0
PathsDiffer ps = differ bytes_eq (map (λ p. p.0) ps) ≡ true

-- domains differ, and in each the paths
abbrev pub TextsDiffer : ItemGroups → Type 0
TextsDiffer gs = (differ bytes_eq (map (λ g. g.0) gs) ≡ true) × AllByRecursion (λ g. PathsDiffer g.1) gs

-- a function of what other functions list
pub map_listed : {A B C : Type 0} (f : B → C) (from : A → List B) (to : A → List C) → ((a : A) → to a ≡ map f (from a)) → (xs : List A) → flat_map to xs ≡ map f (flat_map from xs)
map_listed f from to same [] = refl
map_listed f from to same (x ∷ xs) = ap₂ (λ ys zs. ys ++ zs) (same x) (map_listed f from to same xs) ∙ sym (map-append f (from x) (flat_map from xs))

-- an item and its key
abbrev pub Keyed : Type 0
Keyed = Key × Item

-- the items of a group
abbrev pub keyed_names : List ℕ → List ℕ → List Item → List Keyed
keyed_names domain path items = map (λ item. (key_at domain path item.row.raw.name, item)) items

-- of a domain
abbrev pub keyed_paths : List ℕ → ItemPaths → List Keyed
keyed_paths domain paths = flat_map (λ p. keyed_names domain p.0 p.1) paths

-- of all domains
abbrev pub keyed : ItemGroups → List Keyed
keyed groups = flat_map (λ g. keyed_paths g.0 g.1) groups

-- their rows
pub rows_keyed : (gs : ItemGroups) → flat (bare gs) ≡ map (λ e. e.1.row) (keyed gs)
rows_keyed gs =
    flat_map-map (λ g. flat_paths g.1) (λ (g : List ℕ × ItemPaths). (g.0, bare_paths g.1)) gs
    ∙ map_listed (λ (e : Keyed). e.1.row) (λ (g : List ℕ × ItemPaths). keyed_paths g.0 g.1) (λ g. flat_paths (bare_paths g.1)) (λ g. of_paths g.0 g.1) gs
  where
    of_paths : (d : List ℕ) (ps : ItemPaths) → flat_paths (bare_paths ps) ≡ map (λ e. e.1.row) (keyed_paths d ps)
    of_paths d ps =
        flat_map-map (λ p. p.1) (λ (p : List ℕ × List Item). (p.0, rows_of p.1)) ps
        ∙ map_listed (λ (e : Keyed). e.1.row) (λ (p : List ℕ × List Item). keyed_names d p.0 p.1) (λ p. rows_of p.1) (λ p. sym (map-map (λ (e : Keyed). e.1.row) (λ (x : Item). (key_at d p.0 x.row.raw.name, x)) p.1)) ps

-- their numbers, in a domain
pub numbers_keyed_in : (d : List ℕ) (ps : ItemPaths) → numbered_paths d ps ≡ map (λ e. (e.0, e.1.number)) (keyed_paths d ps)
numbers_keyed_in d ps =
    map_listed (λ (e : Keyed). (e.0, e.1.number)) (λ (p : List ℕ × List Item). keyed_names d p.0 p.1) (λ p. numbered_names d p.0 p.1)
    (λ p. sym (map-map (λ (e : Keyed). (e.0, e.1.number)) (λ (x : Item). (key_at d p.0 x.row.raw.name, x)) p.1)) ps

-- and in all
pub numbers_keyed : (gs : ItemGroups) → numbered gs ≡ map (λ e. (e.0, e.1.number)) (keyed gs)
numbers_keyed gs = map_listed (λ (e : Keyed). (e.0, e.1.number)) (λ (g : List ℕ × ItemPaths). keyed_paths g.0 g.1) (λ g. numbered_paths g.0 g.1) (λ g. numbers_keyed_in g.0 g.1) gs

-- the items themselves, in a domain
pub items_keyed : (d : List ℕ) (ps : ItemPaths) → items_in_paths ps ≡ map (λ e. e.1) (keyed_paths d ps)
items_keyed d ps =
    map_listed (λ (e : Keyed). e.1) (λ (p : List ℕ × List Item). keyed_names d p.0 p.1) (λ p. p.1)
    (λ p. sym (map-map (λ (e : Keyed). e.1) (λ (x : Item). (key_at d p.0 x.row.raw.name, x)) p.1 ∙ map-id p.1)) ps

-- the key of an item is that of its row

pub each_key : (gs : ItemGroups) → AllByRecursion (λ g. (0 < length g.1) × ArePaths g.0 g.1) (bare gs) → AllByRecursion (λ e. key_of e.1.row ≡ e.0) (keyed gs)
each_key [] a = tt
each_key (g ∷ gs) a = all_append (λ (e : Keyed). key_of e.1.row ≡ e.0) (keyed_paths g.0 g.1) (keyed gs) (of_paths g.0 g.1 a.0.1.1) (each_key gs a.1)
  where
    of_names : (d p : List ℕ) (xs : List Item) → AllByRecursion (HasDomainAndPath d p) (rows_of xs) → AllByRecursion (λ e. key_of e.1.row ≡ e.0) (keyed_names d p xs)
    of_names d p [] a = tt
    of_names d p (x ∷ xs) a = (λ i. key_at (a.0.0 i) (a.0.1 i) x.row.raw.name, of_names d p xs a.1)

    of_paths : (d : List ℕ) (ps : ItemPaths) → Filled d (bare_paths ps) → AllByRecursion (λ e. key_of e.1.row ≡ e.0) (keyed_paths d ps)
    of_paths d [] a = tt
    of_paths d (p ∷ ps) a = all_append (λ (e : Keyed). key_of e.1.row ≡ e.0) (keyed_names d p.0 p.1) (keyed_paths d ps) (of_names d p.0 p.1 a.0.1) (of_paths d ps a.1)

-- so the keys of the rows are those that are numbered

-- functions that agree
pub map_same : {A B : Type 0} (f g : A → B) (xs : List A) → AllByRecursion (λ x. f x ≡ g x) xs → map f xs ≡ map g xs
map_same f g [] a = refl
map_same f g (x ∷ xs) a = let rest = map_same f g xs a.1 in λ i. a.0 i ∷ rest i

pub keys_numbered : (gs : ItemGroups) → map (λ x. x.0) (numbered gs) ≡ map (λ e. e.0) (keyed gs)
keys_numbered gs = ap (map (λ x. x.0)) (numbers_keyed gs) ∙ map-map (λ (x : Key × ℕ). x.0) (λ (e : Keyed). (e.0, e.1.number)) (keyed gs)

pub keys_groups : (gs : ItemGroups) → AllByRecursion (λ g. (0 < length g.1) × ArePaths g.0 g.1) (bare gs) → map key_of (flat (bare gs)) ≡ map (λ x. x.0) (numbered gs)
keys_groups gs a =
    ap (map key_of) (rows_keyed gs) ∙ map-map key_of (λ (e : Keyed). e.1.row) (keyed gs) ∙ map_same (λ (e : Keyed). key_of e.1.row) (λ e. e.0) (keyed gs) (each_key gs a)
    ∙ sym (keys_numbered gs)

-- they differ
pub keys_differ : (gs : ItemGroups) → AreGroups (bare gs) → are_rows (flat (bare gs)) ≡ true → differ same_key (map (λ x. x.0) (numbered gs)) ≡ true
keys_differ gs a r = ap (differ same_key) (sym (keys_groups gs a.1)) ∙ (and_parts _ _ r).0

-- the items of a domain

-- their keys have it
pub each_domain : (d : List ℕ) (ps : ItemPaths) → AllByRecursion (λ e. e.0.domain ≡ d) (keyed_paths d ps)
each_domain d [] = tt
each_domain d (p ∷ ps) = all_append (λ (e : Keyed). e.0.domain ≡ d) (keyed_names d p.0 p.1) (keyed_paths d ps) (of_names p.1) (each_domain d ps)
  where
    of_names : (xs : List Item) → AllByRecursion (λ e. e.0.domain ≡ d) (keyed_names d p.0 xs)
    of_names [] = tt
    of_names (x ∷ xs) = (refl, of_names xs)

module _ {A : Type 0} (test : A → Bool) where
  -- all pass
  pub filter_all : (xs : List A) → AllByRecursion (λ x. test x ≡ true) xs → filter test xs ≡ xs
  filter_all [] a = refl
  filter_all (x ∷ xs) a = rw a.0 (ap (λ ys. x ∷ ys) (filter_all xs a.1))

  -- none passes
  pub filter_none : (xs : List A) → AllByRecursion (λ x. test x ≡ false) xs → filter test xs ≡ []
  filter_none [] a = refl
  filter_none (x ∷ xs) a = rw a.0 (filter_none xs a.1)

module _ (d : List ℕ) where
  -- an item is of the domain
  abbrev pub is_near : Keyed → Bool
  is_near e = bytes_eq d e.0.domain

  pub all_near : (b : Bool) (e : List ℕ) (ps : ItemPaths) → bytes_eq d e ≡ b → AllByRecursion (λ x. is_near x ≡ b) (keyed_paths e ps)
  all_near b e ps is = all_map (λ (x : Keyed). x.0.domain ≡ e) (λ x. is_near x ≡ b) (λ x same. ap (bytes_eq d) same ∙ is) (keyed_paths e ps) (each_domain e ps)

  none_near : (gs : ItemGroups) → list_any (bytes_eq d) (map (λ g. g.0) gs) ≡ false → filter is_near (keyed gs) ≡ []
  none_near [] none = refl
  none_near (g ∷ gs) none =
      let parts = or_parts _ _ none in
      filter-append is_near (keyed_paths g.0 g.1) (keyed gs) ∙ ap₂ (λ xs ys. xs ++ ys) (filter_none is_near (keyed_paths g.0 g.1) (all_near false g.0 g.1 parts.0)) (none_near gs parts.1)

  -- those that are of it are those of its groups
  pub keyed_near : (gs : ItemGroups) → differ bytes_eq (map (λ g. g.0) gs) ≡ true → filter is_near (keyed gs) ≡ keyed_paths d (paths_of d gs)
  keyed_near [] apart = refl
  keyed_near (g ∷ gs) apart =
      let own = keyed_paths g.0 g.1 in
      elim (cases_Bool (bytes_eq d g.0)) [
        | inl e ↦
            let none = none_near gs (absent g.0 (map (λ g. g.0) gs) d e apart) in
            rw e (
            filter-append is_near own (keyed gs) ∙ ap₂ (λ xs ys. xs ++ ys) (filter_all is_near own (all_near true g.0 g.1 e)) none
            ∙ append-nil own ∙ ap (λ t. keyed_paths t g.1) (sym ((bytes_eq-Decides d g.0).0 e))
            )
        | inr e ↦
            rw e (
            filter-append is_near own (keyed gs) ∙ ap₂ (λ xs ys. xs ++ ys) (filter_none is_near own (all_near false g.0 g.1 e)) (keyed_near gs (and_parts _ _ apart).1)
            )
      ]

  -- so what holds of each item holds of theirs
  pub each_near : (P : Keyed → Type 0) (gs : ItemGroups) → differ bytes_eq (map (λ g. g.0) gs) ≡ true → AllByRecursion P (keyed gs) → AllByRecursion P (keyed_paths d (paths_of d gs))
  each_near P gs apart a = subst (AllByRecursion P) (keyed_near gs apart) (all_leaves P (keyed gs) (filter is_near (keyed gs)) (leaves_filter is_near (keyed gs)) a)
