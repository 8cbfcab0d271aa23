-- What each change keeps of numbered groups, and the rows and keys after it.
use Rattle.std.proofs.Common.{◌≡◌, ℕ, suc, ◌+◌, ◌<◌, ◌⊎◌, Bool, true, false, not, cond, find, option_map, List, [], ◌∷◌, ◌++◌, length, map, refl, sym, ◌∙◌, ap, subst, inl, inr, None, arith}
use Rattle.std.specs.Prelude.{◌≢◌, IsTrue, nat_eq}
use Rattle.std.specs.List.{AllByRecursion, list_any}
use Rattle.std.proofs.lemmas.Bool.{and_parts}
use Rattle.cookie_parts.specs.Cookie.{Row, expired_row}
use Rattle.cookie_laws.specs.Rows.{Key, key_of, same_domain, same_group, same_key, same_key_equiv, in_domain, in_group, after_last, has_key, are_rows, row_of, put, add_created, changed, removed, differ}
use Rattle.cookie_lookup.specs.Groups.{flat, flat_paths, AreGroups, Filled}
use Rattle.cookie_rows.specs.Items.{Item, ItemGroups, ItemPaths, AreItems, Below, bare, bare_paths, groups_in_order, by_number, creation_order, put_items, expire_items, remove_items, find_items, rows_of}
use Rattle.cookie_rows.proofs.AfterLast.{after_last_same, any_same, changed_same, find_map, find_same, list_any-map, map-after_last, map_change}
use Rattle.cookie_rows.proofs.All.{all_any, all_map}
use Rattle.cookie_rows.proofs.Created.{all_filled, below_put, created_once, created_put, differ_put, numbered_expire, stays_numbered, texts_differ}
use Rattle.cookie_rows.proofs.FilteredGroups.{one_alike, one_of_map, removed_filter}
use Rattle.cookie_rows.proofs.FilteredItems.{items_filtered, kept_filtered, removed_filtered}
use Rattle.cookie_rows.proofs.Flat.{put_by}
use Rattle.cookie_rows.proofs.Keyed.{Keyed, each_key, keyed, rows_keyed}
use Rattle.cookie_rows.proofs.KeyedChanges.{expired, expired_keyed, found_keyed, keyed_put, new, of_domain, of_group, of_key, stored}
use Rattle.cookie_rows.proofs.RowsInOrder.{groups_put, groups_expired}
use Rattle.cookie_rows.proofs.SameOrder.{are_rows-put, are_rows-expired_row}

-- `put_by` by tests that agree, and of a function's values

module _ {T : Type 0} (k k' g g' d d' : T → Bool) (change : T → T) where
  put_same : (xs : List T) (y : T) → AllByRecursion (λ x. k x ≡ k' x) xs → AllByRecursion (λ x. g x ≡ g' x) xs → AllByRecursion (λ x. d x ≡ d' x) xs
      → put_by k g d change xs y ≡ put_by k' g' d' change xs y
  put_same xs y a b c =
      let one = any_same k k' xs a in
      let two = any_same g g' xs b in
      let three = changed_same k k' change xs a in
      let four = after_last_same g g' xs y b in
      let five = after_last_same d d' xs y c in
      λ i. cond (one i) (three i) (cond (two i) (four i) (five i))

map_put : {A B : Type 0} (f : A → B) (k g d : B → Bool) (change : A → A) (to : B → B) → ((x : A) → f (change x) ≡ to (f x)) → (xs : List A) (y : A)
    → map f (put_by (λ x. k (f x)) (λ x. g (f x)) (λ x. d (f x)) change xs y) ≡ put_by k g d to (map f xs) (f y)
map_put {A} f k g d change to same xs y =
    let first = list_any-map f k xs in
    map_cond (list_any (λ x. k (f x)) xs) _ _ ∙ (λ i. cond (sym first i) (map_change f k change to same xs i) (all_placed i))
  where
    map_cond : (b : Bool) (us vs : List A) → map f (cond b us vs) ≡ cond b (map f us) (map f vs)
    map_cond true us vs = refl
    map_cond false us vs = refl

    all_placed : map f (cond (list_any (λ x. g (f x)) xs) (after_last (λ x. g (f x)) xs y) (after_last (λ x. d (f x)) xs y)) ≡ cond (list_any g (map f xs)) (after_last g (map f xs) (f y)) (after_last d (map f xs) (f y))
    all_placed = map_cond (list_any (λ x. g (f x)) xs) _ _ ∙ (λ i. cond (sym (list_any-map f g xs) i) (map-after_last f g xs y i) (map-after_last f d xs y i))

module _ (n : ℕ) (gs : ItemGroups) (a : AreItems n gs) where
  -- a test of an item's key is one of its row's
  agree : (test : Key → Bool) → AllByRecursion (λ e. test e.0 ≡ test (key_of e.1.row)) (keyed gs)
  agree test = all_map (λ (e : Keyed). key_of e.1.row ≡ e.0) (λ e. test e.0 ≡ test (key_of e.1.row)) (λ e is. ap test (sym is)) (keyed gs) (each_key gs a.0.1)

  -- what is found is the row of the key
  pub found_items : (key : Key) → find_items key gs ≡ row_of key (flat (bare gs))
  found_items key =
      found_keyed key gs (texts_differ gs a.0)
      ∙ ap (option_map (λ e. e.1.row)) (find_same (of_key key) (λ e. has_key key e.1.row) (keyed gs) (agree (same_key key)))
      ∙ sym (find_map (λ (e : Keyed). e.1.row) (has_key key) (keyed gs)) ∙ ap (find (has_key key)) (sym (rows_keyed gs))

  -- a row is stored

  module _ (row : Row) where
    -- the rows
    rows_put : flat (bare (put_items row n gs)) ≡ put (flat (bare gs)) row
    rows_put =
        let key = key_of row in
        let xs = keyed gs in
        let see : Keyed → Row = λ e. e.1.row in
        rows_keyed (put_items row n gs) ∙ ap (map see) (keyed_put row n gs (texts_differ gs a.0) (all_filled gs a.0)
        ∙ put_same (of_key key) (λ e. has_key key (see e)) (of_group key) (λ e. in_group key (see e)) (of_domain key) (λ e. in_domain key (see e)) (stored row n) xs (new row n)
        (agree (same_key key)) (agree (same_group key)) (agree (same_domain key)))
        ∙ map_put see (has_key key) (in_group key) (in_domain key) (stored row n) (λ _. row) (λ e. refl) xs (new row n) ∙ ap (λ rows. put rows row) (sym (rows_keyed gs))

    -- the rows and the keys
    pub kept_put : groups_in_order (put_items row n gs) ≡ record { rows = put (flat (bare gs)) row; created = add_created (creation_order gs) (key_of row) }
    kept_put = λ i. record { rows = rows_put i; created = created_put row n gs a.0 a.2 i }

    -- the numbers are below the next count
    below_next : (next : ℕ) → (next ≡ n + 1) ⊎ ((next ≡ n) × (find_items (key_of row) gs ≢ None)) → Below next (put_items row n gs)
    below_next next counts = elim counts [
      | inl e ↦ let more : suc n ≡ next = omega (arith, e) in subst (λ m. Below m (put_items row n gs)) more (below_put row n gs a.0 a.2)
      | inr e ↦
          let there : row_of (key_of row) (flat (bare gs)) ≢ None = λ none. e.1 (found_items (key_of row) ∙ none) in
          subst (λ m. Below m (put_items row n gs)) (sym e.0) (subst (AllByRecursion (λ x. x.1 < n)) (sym (stays_numbered row n gs a.0 there)) a.2)
    ]

    -- the groups
    pub items_put : (next : ℕ) → (next ≡ n + 1) ⊎ ((next ≡ n) × (find_items (key_of row) gs ≢ None)) → AreItems next (put_items row n gs)
    items_put next counts = (
      groups_put row n gs a.0,
      subst (λ rows. IsTrue (are_rows rows)) (sym rows_put) (are_rows-put (flat (bare gs)) row a.1),
      below_next next counts,
      differ_put row n gs a.0 a.2 a.3,
    )

  module _ (key : Key) where
    -- a row is expired

    -- the rows
    rows_expired : flat (bare (expire_items key gs)) ≡ changed (has_key key) expired_row (flat (bare gs))
    rows_expired =
        rows_keyed (expire_items key gs) ∙ ap (map (λ e. e.1.row)) (expired_keyed key gs (texts_differ gs a.0) ∙ changed_same (of_key key) (λ e. has_key key e.1.row) (expired key) (keyed gs) (agree (same_key key)))
        ∙ map_change (λ (e : Keyed). e.1.row) (has_key key) (expired key) expired_row (λ e. refl) (keyed gs) ∙ ap (changed (has_key key) expired_row) (sym (rows_keyed gs))

    -- the rows and the keys
    pub kept_expired : groups_in_order (expire_items key gs) ≡ record (groups_in_order gs) { rows = changed (has_key key) expired_row (flat (bare gs)) }
    kept_expired = λ i. record { rows = rows_expired i; created = map (λ x. x.0) (by_number (numbered_expire key gs a.0 i)) }

    -- the groups
    pub items_expired : AreItems n (expire_items key gs)
    items_expired = (
      groups_expired key gs a.0,
      subst (λ rows. IsTrue (are_rows rows)) (sym rows_expired) (are_rows-expired_row (has_key key) (flat (bare gs)) a.1),
      subst (AllByRecursion (λ x. x.1 < n)) (sym (numbered_expire key gs a.0)) a.2,
      ap (λ xs. differ nat_eq (map (λ x. x.1) xs)) (numbered_expire key gs a.0) ∙ a.3,
    )

    -- a row is removed

    -- the rows and the keys
    pub kept_removed : groups_in_order (remove_items key gs) ≡ record { rows = removed (has_key key) (flat (bare gs)); created = removed (same_key key) (creation_order gs) }
    kept_removed =
        let rows = flat (bare gs) in
        let other : Row → Bool = λ row. not (has_key key row) in
        let of_rows = removed_filter (has_key key) rows (one_of_map key_of (same_key key) rows (one_alike same_key_equiv key (map key_of rows) (and_parts _ _ a.1).0)) in
        let of_keys = removed_filter (same_key key) (creation_order gs) (one_alike same_key_equiv key (creation_order gs) (created_once n gs a).1) in
        ap groups_in_order (removed_filtered key gs a.0 a.1)
        ∙ kept_filtered n gs a (λ x. other x.row) other (λ k. not (same_key key k)) (all_any (λ (e : Keyed). other e.1.row ≡ other e.1.row) (λ e. refl) (keyed gs)) (agree (λ k. not (same_key key k)))
        ∙ (λ i. record { rows = sym of_rows i; created = sym of_keys i })

    -- the groups
    pub items_removed : AreItems n (remove_items key gs)
    items_removed = subst (AreItems n) (sym (removed_filtered key gs a.0 a.1)) (items_filtered n gs a (λ x. not (has_key key x.row)))

-- each group has rows

-- a list with something in front
some_front : (xs ys : List Row) → xs ≢ [] → xs ++ ys ≢ []
some_front [] ys some none = some refl
some_front (x ∷ xs) ys some none = absurd (cc)

-- rows of a group
some_names : (xs : List Item) → 0 < length (rows_of xs) → rows_of xs ≢ []
some_names [] l none = absurd (omega (arith, l))
some_names (x ∷ xs) l none = absurd (cc)

-- those of a domain
some_paths : (d : List ℕ) (ps : ItemPaths) → 0 < length (bare_paths ps) → Filled d (bare_paths ps) → flat_paths (bare_paths ps) ≢ []
some_paths d [] l a = absurd (omega (arith, l))
some_paths d (p ∷ ps) l a = some_front (rows_of p.1) (flat_paths (bare_paths ps)) (some_names p.1 a.0.0)

-- those of all groups
pub some_rows : (gs : ItemGroups) → AreGroups (bare gs) → gs ≢ [] → flat (bare gs) ≢ []
some_rows [] a some = absurd (some refl)
some_rows (g ∷ gs) a some = some_front (flat_paths (bare_paths g.1)) (flat (bare gs)) (some_paths g.0 g.1 a.1.0.0 a.1.0.1.1)
