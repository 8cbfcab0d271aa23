-- The items of groups, each under its key, as a row is found, expired or stored.
use Rattle.std.proofs.Common.{◌≡◌, ℕ, ◌<◌, ◌⊎◌, Bool, true, false, List, [], ◌∷◌, ◌++◌, find, length, option_map, refl, sym, ◌∙◌, ap, inl, inr, bytes_eq, arith}
use Rattle.std.specs.List.{AllByRecursion, list_any}
use Rattle.std.proofs.lemmas.Bool.{and_from, and_parts, cases_Bool}
use Rattle.std.proofs.lemmas.Slice.Eq.{bytes_eq-Decides}
use Rattle.cookie_parts.specs.Cookie.{Row, expired_row}
use Rattle.cookie_parts.specs.Domain.{domain_text}
use Rattle.cookie_laws.specs.Rows.{Key, changed, key_at, key_of, same_domain, same_group, same_key}
use Rattle.cookie_rows.specs.GroupChanges.{is_named, row_named}
use Rattle.cookie_rows.specs.Items.{Item, ItemGroups, ItemPaths, expire_item, expire_item_paths, expire_items, find_item_paths, find_items, put_item, put_item_paths, put_items, rows_of}
use Rattle.cookie_rows.proofs.Adjacent.{none_finer}
use Rattle.cookie_rows.proofs.All.{all_any, all_map, all_to_map}
use Rattle.cookie_rows.proofs.Flat.{after_all, put_by, put_earlier, put_later, put_left, put_right}
use Rattle.cookie_rows.proofs.Keyed.{Keyed, PathsDiffer, TextsDiffer, all_near, keyed, keyed_names, keyed_paths}
use Rattle.cookie_rows.proofs.Levels.{changed_listed, found_listed, none_behind}
use Rattle.cookie_rows.proofs.Ordered.{none_passes}

module _ (key : Key) where
  -- an item is of the key
  abbrev pub of_key : Keyed → Bool
  of_key e = same_key key e.0

  -- of its domain and path
  abbrev pub of_group : Keyed → Bool
  of_group e = same_group key e.0

  -- of its domain
  abbrev pub of_domain : Keyed → Bool
  of_domain e = same_domain key e.0

  -- none is of the key if none is of its domain and path
  pub no_key : (xs : List Keyed) → list_any of_group xs ≡ false → list_any of_key xs ≡ false
  no_key xs none = none_finer of_key of_group xs (λ e is. (and_parts _ _ is).0) none

  -- and none of these if none is of its domain
  pub no_group : (xs : List Keyed) → list_any of_domain xs ≡ false → list_any of_group xs ≡ false
  no_group xs none = none_finer of_group of_domain xs (λ e is. (and_parts _ _ is).0) none

  -- none is under another path
  pub other_path : (d p : List ℕ) (xs : List Item) → bytes_eq key.path p ≡ false → list_any of_group (keyed_names d p xs) ≡ false
  other_path d p [] f = refl
  other_path d p (x ∷ xs) f = grind (arith, f, other_path d p xs f)

  -- nor under another domain
  pub other_domain : (d : List ℕ) (ps : ItemPaths) → bytes_eq key.domain d ≡ false → list_any of_domain (keyed_paths d ps) ≡ false
  other_domain d ps e = none_passes of_domain (keyed_paths d ps) (all_near key.domain false d ps e)

  -- the row of the key is found

  -- in its group
  found_names : (d p : List ℕ) (xs : List Item) → bytes_eq key.domain d ≡ true → bytes_eq key.path p ≡ true → row_named key.name (rows_of xs) ≡ option_map (λ e. e.1.row) (find of_key (keyed_names d p xs))
  found_names d p [] e f = refl
  found_names d p (x ∷ xs) e f = elim (cases_Bool (is_named key.name x.row)) [
    | inl t ↦ rw (e, f, t) refl
    | inr t ↦ rw (e, f, t) (found_names d p xs e f)
  ]

  -- in its domain
  pub found_paths : (d : List ℕ) (ps : ItemPaths) → bytes_eq key.domain d ≡ true → PathsDiffer ps → find_item_paths key.path key.name ps ≡ option_map (λ e. e.1.row) (find of_key (keyed_paths d ps))
  found_paths d ps e apart =
      found_listed (keyed_names d) of_key key.path (λ p xs f. no_key (keyed_names d p xs) (other_path d p xs f)) (λ items. row_named key.name (rows_of items)) (λ e. e.1.row) ps apart
      (all_any (λ (p : List ℕ × List Item). bytes_eq key.path p.0 ≡ true → row_named key.name (rows_of p.1) ≡ option_map (λ e. e.1.row) (find of_key (keyed_names d p.0 p.1))) (λ p f. found_names d p.0 p.1 e f) ps)

  -- among all
  pub found_keyed : (gs : ItemGroups) → TextsDiffer gs → find_items key gs ≡ option_map (λ e. e.1.row) (find of_key (keyed gs))
  found_keyed gs apart =
      found_listed keyed_paths of_key key.domain (λ d ps e. no_key (keyed_paths d ps) (no_group (keyed_paths d ps) (other_domain d ps e))) (find_item_paths key.path key.name) (λ e. e.1.row) gs apart.0
      (all_map (λ (g : List ℕ × ItemPaths). PathsDiffer g.1) (λ g. bytes_eq key.domain g.0 ≡ true → find_item_paths key.path key.name g.1 ≡ option_map (λ e. e.1.row) (find of_key (keyed_paths g.0 g.1)))
      (λ g differs e. found_paths g.0 g.1 e differs) gs apart.1)

  -- it is expired

  -- an item with its row expired
  abbrev pub expired : Keyed → Keyed
  expired e = (e.0, record e.1 { row = expired_row e.1.row })

  -- in its group
  expired_names : (d p : List ℕ) (xs : List Item) → bytes_eq key.domain d ≡ true → bytes_eq key.path p ≡ true → keyed_names d p (expire_item key.name xs) ≡ changed of_key expired (keyed_names d p xs)
  expired_names d p [] e f = refl
  expired_names d p (x ∷ xs) e f = elim (cases_Bool (is_named key.name x.row)) [
    | inl t ↦ rw (e, f, t) refl
    | inr t ↦ rw (e, f, t) (ap (λ ys. (key_at d p x.row.raw.name, x) ∷ ys) (expired_names d p xs e f))
  ]

  -- in its domain
  expired_paths : (d : List ℕ) (ps : ItemPaths) → bytes_eq key.domain d ≡ true → PathsDiffer ps → keyed_paths d (expire_item_paths key.path key.name ps) ≡ changed of_key expired (keyed_paths d ps)
  expired_paths d ps e apart =
      changed_listed (keyed_names d) of_key key.path (λ p xs f. no_key (keyed_names d p xs) (other_path d p xs f)) (expire_item key.name) expired ps apart
      (all_any (λ (p : List ℕ × List Item). bytes_eq key.path p.0 ≡ true → keyed_names d p.0 (expire_item key.name p.1) ≡ changed of_key expired (keyed_names d p.0 p.1)) (λ p f. expired_names d p.0 p.1 e f) ps)

  -- among all
  pub expired_keyed : (gs : ItemGroups) → TextsDiffer gs → keyed (expire_items key gs) ≡ changed of_key expired (keyed gs)
  expired_keyed gs apart =
      changed_listed keyed_paths of_key key.domain (λ d ps e. no_key (keyed_paths d ps) (no_group (keyed_paths d ps) (other_domain d ps e))) (expire_item_paths key.path key.name) expired gs apart.0
      (all_map (λ (g : List ℕ × ItemPaths). PathsDiffer g.1) (λ g. bytes_eq key.domain g.0 ≡ true → keyed_paths g.0 (expire_item_paths key.path key.name g.1) ≡ changed of_key expired (keyed_paths g.0 g.1))
      (λ g differs e. expired_paths g.0 g.1 e differs) gs apart.1)

-- a row is stored

module _ (row : Row) (n : ℕ) where
  -- its key
  abbrev key : Key
  key = key_of row

  -- the row under it
  abbrev pub new : Keyed
  new = (key_of row, record { row = row; number = n })

  -- an item with its row replaced
  abbrev pub stored : Keyed → Keyed
  stored e = (e.0, record e.1 { row = row })

  -- it replaces the row of its key, or is placed
  abbrev pub put_keyed : List Keyed → List Keyed
  put_keyed xs = put_by (of_key key) (of_group key) (of_domain key) stored xs new

  module _ (d p : List ℕ) (e : bytes_eq key.domain d ≡ true) (f : bytes_eq key.path p ≡ true) where
    -- its group has a row of its key
    names_replaced : (xs : List Item) → list_any (of_key key) (keyed_names d p xs) ≡ true → keyed_names d p (put_item row n xs) ≡ changed (of_key key) stored (keyed_names d p xs)
    names_replaced [] some = absurd (cc)
    names_replaced (x ∷ xs) some = elim (cases_Bool (is_named row.raw.name x.row)) [
      | inl t ↦ rw (e, f, t) (ap (λ name. (key_at d p name, record x { row = row }) ∷ keyed_names d p xs) ((bytes_eq-Decides row.raw.name x.row.raw.name).0 t))
      | inr t ↦ let some' = rw (e, f, t) at some in rw (e, f, t) (ap (λ ys. (key_at d p x.row.raw.name, x) ∷ ys) (names_replaced xs some'))
    ]

    -- it has none
    names_last : (xs : List Item) → list_any (of_key key) (keyed_names d p xs) ≡ false → keyed_names d p (put_item row n xs) ≡ keyed_names d p xs ++ new ∷ []
    names_last [] none =
        let domain : d ≡ key.domain = sym ((bytes_eq-Decides key.domain d).0 e) in
        let path : p ≡ key.path = sym ((bytes_eq-Decides key.path p).0 f) in
        λ i. (key_at (domain i) (path i) row.raw.name, record { row = row; number = n }) ∷ []
    names_last (x ∷ xs) none = elim (cases_Bool (is_named row.raw.name x.row)) [
      | inl t ↦ let none' = rw (e, f, t) at none in absurd (cc)
      | inr t ↦ let none' = rw (e, f, t) at none in rw t (ap (λ ys. (key_at d p x.row.raw.name, x) ∷ ys) (names_last xs none'))
    ]

    -- all are of its domain and path
    all_group : (xs : List Item) → AllByRecursion (λ k. of_group key k ≡ true) (keyed_names d p xs)
    all_group xs = all_to_map (λ (x : Item). (key_at d p x.row.raw.name, x)) (λ k. of_group key k ≡ true) xs (all_any (λ (x : Item). of_group key (key_at d p x.row.raw.name, x) ≡ true) (λ x. and_from _ _ e f) xs)

    -- so some are if there are any
    some_group : (xs : List Item) → 0 < length xs → list_any (of_group key) (keyed_names d p xs) ≡ true
    some_group [] some = absurd (omega (arith, some))
    some_group (x ∷ xs) some = rw (e, f) refl

    -- it is stored in its group
    put_names : (xs : List Item) → 0 < length xs → put_keyed (keyed_names d p xs) ≡ keyed_names d p (put_item row n xs)
    put_names xs some = elim (cases_Bool (list_any (of_key key) (keyed_names d p xs))) [
      | inl t ↦ rw t (sym (names_replaced xs t))
      | inr t ↦ rw (t, some_group xs some) (after_all (of_group key) (keyed_names d p xs) new (all_group xs) ∙ sym (names_last xs t))
    ]

  -- some are of its domain
  some_domain : (d : List ℕ) (ps : ItemPaths) → bytes_eq key.domain d ≡ true → 0 < length ps → AllByRecursion (λ p. 0 < length p.1) ps → list_any (of_domain key) (keyed_paths d ps) ≡ true
  some_domain d [] e some a = absurd (omega (arith, some))
  some_domain d ((path, []) ∷ ps) e some a = absurd (omega (arith, a.0))
  some_domain d ((path, x ∷ xs) ∷ ps) e some a = rw e refl

  -- in its domain
  put_paths : (d : List ℕ) (ps : ItemPaths) → bytes_eq key.domain d ≡ true → PathsDiffer ps → AllByRecursion (λ p. 0 < length p.1) ps → put_keyed (keyed_paths d ps) ≡ keyed_paths d (put_item_paths row n ps)
  put_paths d [] e apart a = let domain : key.domain ≡ d = (bytes_eq-Decides key.domain d).0 e in λ i. (key_at (domain i) row.path.text row.raw.name, record { row = row; number = n }) ∷ []
  put_paths d (p ∷ ps) e apart a =
      let here = keyed_names d p.0 p.1 in
      let rest = keyed_paths d ps in
      elim (cases_Bool (bytes_eq row.path.text p.0)) [
        | inl f ↦
            let none = none_behind (keyed_names d) (of_group key) row.path.text (other_path key d) p ps f apart in
            rw f (put_earlier (of_key key) (of_group key) (of_domain key) stored here rest new (no_key key rest none) none (some_group d p.0 e f p.1 a.0) ∙ ap (λ xs. xs ++ rest) (put_names d p.0 e f p.1 a.0))
        | inr f ↦
            let none = other_path key d p.0 p.1 f in
            rw f (put_later (of_key key) (of_group key) (of_domain key) stored here rest new (no_key key here none) none (all_here e p.0 p.1) (some_or_none ps e a.1)
            ∙ ap (λ ys. here ++ ys) (put_paths d ps e (and_parts _ _ apart).1 a.1))
      ]
    where
      all_here : bytes_eq key.domain d ≡ true → (path : List ℕ) (xs : List Item) → AllByRecursion (λ k. of_domain key k ≡ true) (keyed_names d path xs)
      all_here e path xs = all_to_map (λ (x : Item). (key_at d path x.row.raw.name, x)) (λ k. of_domain key k ≡ true) xs (all_any (λ (x : Item). of_domain key (key_at d path x.row.raw.name, x) ≡ true) (λ x. e) xs)

      some_or_none : (qs : ItemPaths) → bytes_eq key.domain d ≡ true → AllByRecursion (λ p. 0 < length p.1) qs → (list_any (of_domain key) (keyed_paths d qs) ≡ true) ⊎ (keyed_paths d qs ≡ [])
      some_or_none [] e a = inr refl
      some_or_none (q ∷ qs) e a = inl (some_domain d (q ∷ qs) e (omega arith) a)

  -- among all
  pub keyed_put : (gs : ItemGroups) → TextsDiffer gs → AllByRecursion (λ g. (0 < length g.1) × AllByRecursion (λ p. 0 < length p.1) g.1) gs → keyed (put_items row n gs) ≡ put_keyed (keyed gs)
  keyed_put [] apart a = refl
  keyed_put (g ∷ gs) apart a =
      let here = keyed_paths g.0 g.1 in
      let rest = keyed gs in
      elim (cases_Bool (bytes_eq (domain_text row.domain) g.0)) [
        | inl e ↦
            let none = none_behind keyed_paths (of_domain key) key.domain (other_domain key) g gs e apart.0 in
            rw e (sym (put_left (of_key key) (of_group key) (of_domain key) stored here rest new (no_key key rest (no_group key rest none)) (no_group key rest none) none (some_domain g.0 g.1 e a.0.0 a.0.1)
            ∙ ap (λ xs. xs ++ rest) (put_paths g.0 g.1 e apart.1.0 a.0.1)))
        | inr e ↦
            let none = other_domain key g.0 g.1 e in
            rw e (ap (λ ys. here ++ ys) (keyed_put gs ((and_parts _ _ apart.0).1, apart.1.1) a.1)
            ∙ sym (put_right (of_key key) (of_group key) (of_domain key) stored here rest new (no_key key here (no_group key here none)) (no_group key here none) none))
      ]
