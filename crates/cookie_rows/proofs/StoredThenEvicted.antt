-- A row is inserted into groups from which others are evicted. It is stored before the others are evicted, so its
-- groups are moved to the end if it is alone in them.
use Rattle.std.proofs.Common.{◌≡◌, ℕ, ◌+◌, ◌<◌, ◌==◌, Bool, true, false, List, [], ◌∷◌, ◌++◌, length, map, option_map, filter, find, refl, sym, ◌∙◌, ap, inl, inr, bytes_eq, None, arith}
use Rattle.std.specs.List.{AllByRecursion, list_any}
use Rattle.std.proofs.lemmas.Bool.{cases_Bool}
use Rattle.std.proofs.lemmas.Bool.Decides.{nat_tests}
use Rattle.std.proofs.lemmas.List.{length_push}
use Rattle.std.proofs.lemmas.Slice.Eq.{bytes_eq-Decides}
use Rattle.cookie_parts.specs.Cookie.{Row}
use Rattle.cookie_parts.specs.Domain.{domain_text}
use Rattle.cookie_laws.specs.Rows.{differ, key_at, key_of}
use Rattle.cookie_rows.specs.GroupChanges.{changed_at, is_named, unless_empty, lessened_at, put_at, row_named}
use Rattle.cookie_rows.specs.Items.{Item, ItemGroups, ItemPaths, find_item_paths, find_items, put_item, put_item_paths, put_items, rows_of}
use Rattle.cookie_rows.specs.Eviction.{insert_in_domains, insert_in_paths, is_single, is_single_paths, filter_paths, moved_to_end_if}
use Rattle.cookie_rows.proofs.AfterLast.{none_passes, nothing_viewed}
use Rattle.cookie_rows.proofs.FilteredGroups.{keyed_filtered_in, names_parted, parted_filled, parted_first}
use Rattle.cookie_rows.proofs.Flat.{absent, find_none}
use Rattle.cookie_rows.proofs.Keyed.{Keyed, PathsDiffer, TextsDiffer, keyed_paths}
use Rattle.cookie_rows.proofs.KeyedChanges.{found_paths, of_key}
use Rattle.cookie_rows.proofs.Leaves.{differ_leaves, leaves_filter, leaves_map, none_leaves}

-- a list that begins with something is not empty
some_is : {T : Type 0} (x : T) (xs : List T) → (length (x ∷ xs) == 0) ≡ false
some_is x xs = grind (arith, nat_tests)

-- nor is one with a length
filled_is : {T : Type 0} (xs : List T) → 0 < length xs → (length xs == 0) ≡ false
filled_is xs l = grind (arith, nat_tests)

-- groups under names

module _ {X : Type 0} where
  -- a single group is unchanged
  moved_to_end_one : (alone : List X → Bool) (text t : List ℕ) (xs : List X) → moved_to_end_if alone text ((t, xs) ∷ []) ≡ (t, xs) ∷ []
  moved_to_end_one alone text t xs = elim (cases_Bool (bytes_eq text t)) [
    | inl e ↦ elim (cases_Bool (alone xs)) [
      | inl a ↦ rw (e, a) refl
      | inr a ↦ rw (e, a) refl
    ]
    | inr e ↦ rw e refl
  ]

  -- if no group has the name, one is added at the end
  put_new : (f : List X → List X) (text : List ℕ) (gs : List (List ℕ × List X)) → list_any (bytes_eq text) (map (λ g. g.0) gs) ≡ false → put_at f text gs ≡ gs ++ (text, f []) ∷ []
  put_new f text [] none = refl
  put_new f text (g ∷ gs) none =
      let other : bytes_eq text g.0 ≡ false = grind (arith, none) in
      let rest : list_any (bytes_eq text) (map (λ g. g.0) gs) ≡ false = grind (arith, none) in
      rw other (ap (λ hs. g ∷ hs) (put_new f text gs rest))

  module _ (put : List X → List X) (alone : List X → Bool) (text t : List ℕ) where
    -- if a group that was kept or dropped is new, it goes to the end
    put_kept : (xs : List X) (gs : List (List ℕ × List X)) → bytes_eq text t ≡ true → list_any (bytes_eq text) (map (λ g. g.0) gs) ≡ false → alone (put xs) ≡ (length xs == 0)
        → put_at put text (unless_empty t xs gs) ≡ moved_to_end_if alone text ((t, put xs) ∷ gs)
    put_kept [] gs e none is = put_new put text gs none ∙ rw (e, is) (ap (λ s. gs ++ (s, put []) ∷ []) ((bytes_eq-Decides text t).0 e))
    put_kept (x ∷ xs) gs e none is = let more : alone (put (x ∷ xs)) ≡ false = is ∙ some_is x xs in rw (e, more) refl

    -- a group of another name keeps its position
    put_past : (xs : List X) (gs hs : List (List ℕ × List X)) → bytes_eq text t ≡ false → put_at put text gs ≡ moved_to_end_if alone text hs → put_at put text (unless_empty t xs gs) ≡ moved_to_end_if alone text (unless_empty t xs hs)
    put_past [] gs hs e same = same
    put_past (x ∷ xs) gs hs e same = rw e (ap (λ ks. (t, x ∷ xs) ∷ ks) same)

  -- what holds of the group of the name, if there is one
  abbrev pub AtText : (List X → Type 0) → List ℕ → List (List ℕ × List X) → Type 0
  AtText P text [] = Unit
  AtText P text (g ∷ gs) = (bytes_eq text g.0 ≡ true → P g.1) × (bytes_eq text g.0 ≡ false → AtText P text gs)

  -- what holds of any group
  at_any : (P : List X → Type 0) → ((xs : List X) → P xs) → (text : List ℕ) (gs : List (List ℕ × List X)) → AtText P text gs
  at_any P all text [] = tt
  at_any P all text (g ∷ gs) = (λ e. all g.1, λ e. at_any P all text gs)

  module _ (leave put : List X → List X) (alone : List X → Bool) (nothing : leave [] ≡ []) (text : List ℕ) where
    -- some items are removed from the group of the name, and then one is added: the same as both at once, with the
    -- group then moved to the end if the new item is alone
    pub put_where_left_at : (gs : List (List ℕ × List X)) → differ bytes_eq (map (λ g. g.0) gs) ≡ true → AtText (λ xs. alone (put (leave xs)) ≡ (length (leave xs) == 0)) text gs
        → put_at put text (lessened_at leave text gs) ≡ moved_to_end_if alone text (put_at (λ xs. put (leave xs)) text gs)
    put_where_left_at [] d is = ap (λ xs. (text, put xs) ∷ []) (sym nothing) ∙ sym (moved_to_end_one alone text text (put (leave [])))
    put_where_left_at (g ∷ gs) d is = elim (cases_Bool (bytes_eq text g.0)) [
      | inl e ↦ rw e (put_kept put alone text g.0 (leave g.1) gs e (absent g.0 (map (λ g. g.0) gs) text e d) (is.0 e))
      | inr e ↦ let after : differ bytes_eq (map (λ g. g.0) gs) ≡ true = grind (arith, d) in rw (e, e) (ap (λ hs. g ∷ hs) (put_where_left_at gs after (is.1 e)))
    ]

  -- putting a group and then changing it is one `put_at`
  changed_put : (f put both : List X → List X) (text : List ℕ) (gs : List (List ℕ × List X)) → both [] ≡ f (put []) → AtText (λ xs. both xs ≡ f (put xs)) text gs → put_at both text gs ≡ changed_at f text (put_at put text gs)
  changed_put f put both text [] is holds = let same : bytes_eq text text ≡ true = (bytes_eq-Decides text text).1 refl in rw same (ap (λ xs. (text, xs) ∷ []) is)
  changed_put f put both text (g ∷ gs) is holds = elim (cases_Bool (bytes_eq text g.0)) [
    | inl e ↦ rw (e, e) (ap (λ xs. (g.0, xs) ∷ gs) (holds.0 e))
    | inr e ↦ rw (e, e) (ap (λ hs. g ∷ hs) (changed_put f put both text gs is (holds.1 e)))
  ]

-- items that pass a test

module _ (test : Item → Bool) where
  -- a name that no row has
  none_filtered : (name : List ℕ) (xs : List Item) → row_named name (rows_of xs) ≡ None → row_named name (rows_of (filter test xs)) ≡ None
  none_filtered name xs none =
      let left = leaves_map (λ (x : Item). x.row) xs (filter test xs) (leaves_filter test xs) in
      find_none (is_named name) (rows_of (filter test xs)) (none_leaves (is_named name) (rows_of xs) (rows_of (filter test xs)) left (none_passes (is_named name) (rows_of xs) none))

  -- and a path and a name
  none_passing : (path name : List ℕ) (ps : ItemPaths) → PathsDiffer ps → find_item_paths path name ps ≡ None → find_item_paths path name (filter_paths test ps) ≡ None
  none_passing path name ps d none =
      let key = key_at [] path name in
      let items = keyed_paths [] ps in
      let left : List Keyed = filter (λ e. test e.1) items in
      let nothing = nothing_viewed (λ (e : Keyed). e.1.row) (find (of_key key) items) (sym (found_paths key [] ps refl d) ∙ none) in
      found_paths key [] (filter_paths test ps) refl (differ_leaves bytes_eq (map (λ p. p.0) ps) (map (λ p. p.0) (filter_paths test ps)) (names_parted (filter test) ps) d)
      ∙ ap (λ es. option_map (λ (e : Keyed). e.1.row) (find (of_key key) es)) (keyed_filtered_in test [] ps)
      ∙ ap (option_map (λ (e : Keyed). e.1.row)) (find_none (of_key key) left (none_leaves (of_key key) items left (leaves_filter (λ e. test e.1) items) (none_passes (of_key key) items nothing)))

-- a row is stored

module _ (row : Row) (n : ℕ) where
  -- at the end, if none has its name
  pub put_last : (xs : List Item) → row_named row.raw.name (rows_of xs) ≡ None → put_item row n xs ≡ xs ++ record { row = row; number = n } ∷ []
  put_last [] none = refl
  put_last (x ∷ xs) none = elim (cases_Bool (is_named row.raw.name x.row)) [
    | inl e ↦ let none' = rw e at none in absurd (cc)
    | inr e ↦ let none' = rw e at none in rw e (ap (λ ys. x ∷ ys) (put_last xs none'))
  ]

  -- so it is alone if there were none
  pub put_item_alone : (xs : List Item) → row_named row.raw.name (rows_of xs) ≡ None → is_single (put_item row n xs) ≡ (length xs == 0)
  put_item_alone xs none =
      let long : length (put_item row n xs) ≡ length xs + 1 = ap length (put_last xs none) ∙ length_push xs (record { row = row; number = n }) in
      grind (arith, nat_tests, long)

  -- and alone in its domain if there were none
  pub put_paths_alone : (ps : ItemPaths) → AllByRecursion (λ p. 0 < length p.1) ps → find_item_paths row.path.text row.raw.name ps ≡ None → is_single_paths (put_item_paths row n ps) ≡ (length ps == 0)
  put_paths_alone [] a none = refl
  put_paths_alone (p ∷ []) a none = elim (cases_Bool (bytes_eq row.path.text p.0)) [
    | inl e ↦ let here = rw e at none in rw e (put_item_alone p.1 here ∙ filled_is p.1 a.0)
    | inr e ↦ rw e (sym (some_is p []))
  ]
  put_paths_alone (p ∷ q ∷ ps) a none = elim (cases_Bool (bytes_eq row.path.text p.0)) [
    | inl e ↦ rw e (sym (some_is p (q ∷ ps)))
    | inr e ↦ elim (cases_Bool (bytes_eq row.path.text q.0)) [
      | inl f ↦ rw (e, f) (sym (some_is p (q ∷ ps)))
      | inr f ↦ rw (e, f) (sym (some_is p (q ∷ ps)))
    ]
  ]

  -- a group is kept once the row is stored in it
  kept_put : (t : List ℕ) (xs : List Item) (ps : ItemPaths) → unless_empty t (put_item row n xs) ps ≡ (t, put_item row n xs) ∷ ps
  kept_put t [] ps = refl
  kept_put t (x ∷ xs) ps = elim (cases_Bool (is_named row.raw.name x.row)) [
    | inl e ↦ rw e refl
    | inr e ↦ rw e refl
  ]

  module _ (test : Item → Bool) (survives : test (record { row = row; number = n }) ≡ true) where
    -- others are evicted from a group before or after it is stored
    filter_put : (xs : List Item) → row_named row.raw.name (rows_of xs) ≡ None → filter test (put_item row n xs) ≡ put_item row n (filter test xs)
    filter_put [] none = rw survives refl
    filter_put (x ∷ xs) none = elim (cases_Bool (is_named row.raw.name x.row)) [
      | inl e ↦ let none' = rw e at none in absurd (cc)
      | inr e ↦ let none' = rw e at none in elim (cases_Bool (test x)) [
        | inl t ↦ rw (e, t, e) (ap (λ ys. x ∷ ys) (filter_put xs none'))
        | inr t ↦ rw (e, t) (filter_put xs none')
      ]
    ]

    -- and from a domain, where its group is moved to the end if it is alone
    pub put_passing : (ps : ItemPaths) → differ bytes_eq (map (λ p. p.0) ps) ≡ true → find_item_paths row.path.text row.raw.name ps ≡ None
        → put_item_paths row n (filter_paths test ps) ≡ moved_to_end_if is_single row.path.text (filter_paths test (put_item_paths row n ps))
    put_passing [] d none = rw survives (sym (moved_to_end_one is_single row.path.text row.path.text (record { row = row; number = n } ∷ [])))
    put_passing (p ∷ ps) d none = elim (cases_Bool (bytes_eq row.path.text p.0)) [
      | inl e ↦
          let here = rw e at none in
          let others = none_leaves (bytes_eq row.path.text) (map (λ p. p.0) ps) (map (λ p. p.0) (filter_paths test ps)) (names_parted (filter test) ps) (absent p.0 (map (λ p. p.0) ps) row.path.text e d) in
          ap (put_item_paths row n) (parted_first (filter test) p ps)
          ∙ put_kept (put_item row n) is_single row.path.text p.0 (filter test p.1) (filter_paths test ps) e others (put_item_alone (filter test p.1) (none_filtered test row.raw.name p.1 here))
          ∙ ap (moved_to_end_if is_single row.path.text) (sym (in_front here e))
      | inr e ↦
          let rest = rw e at none in
          let after : differ bytes_eq (map (λ p. p.0) ps) ≡ true = grind (arith, d) in
          ap (put_item_paths row n) (parted_first (filter test) p ps)
          ∙ put_past (put_item row n) is_single row.path.text p.0 (filter test p.1) (filter_paths test ps) (filter_paths test (put_item_paths row n ps)) e (put_passing ps after rest)
          ∙ ap (moved_to_end_if is_single row.path.text) (sym (behind e))
    ]
      where
        -- it was put into the first group
        in_front : row_named row.raw.name (rows_of p.1) ≡ None → bytes_eq row.path.text p.0 ≡ true → filter_paths test (put_item_paths row n (p ∷ ps)) ≡ (p.0, put_item row n (filter test p.1)) ∷ filter_paths test ps
        in_front here e = rw e (parted_first (filter test) (p.0, put_item row n p.1) ps ∙ ap (λ xs. unless_empty p.0 xs (filter_paths test ps)) (filter_put p.1 here) ∙ kept_put p.0 (filter test p.1) (filter_paths test ps))

        -- or behind it
        behind : bytes_eq row.path.text p.0 ≡ false → filter_paths test (put_item_paths row n (p ∷ ps)) ≡ unless_empty p.0 (filter test p.1) (filter_paths test (put_item_paths row n ps))
        behind e = rw e (parted_first (filter test) p (put_item_paths row n ps))

    -- in its domain it is alone if all others are evicted
    left_alone : (gs : ItemGroups) → AllByRecursion (λ g. PathsDiffer g.1) gs → find_items (key_of row) gs ≡ None
        → AtText (λ ps. is_single_paths (put_item_paths row n (filter_paths test ps)) ≡ (length (filter_paths test ps) == 0)) (domain_text row.domain) gs
    left_alone [] d none = tt
    left_alone (g ∷ gs) d none = (
      λ e. put_paths_alone (filter_paths test g.1) (parted_filled (filter test) g.1) (none_passing test row.path.text row.raw.name g.1 d.0 (rw e at none)),
      λ e. left_alone gs d.1 (rw e at none),
    )

    -- and others are evicted from that before or after it is stored
    left_later : (gs : ItemGroups) → AllByRecursion (λ g. PathsDiffer g.1) gs → find_items (key_of row) gs ≡ None
        → AtText (λ ps. put_item_paths row n (filter_paths test ps) ≡ moved_to_end_if is_single row.path.text (filter_paths test (put_item_paths row n ps))) (domain_text row.domain) gs
    left_later [] d none = tt
    left_later (g ∷ gs) d none = (λ e. put_passing g.1 d.0 (rw e at none), λ e. left_later gs d.1 (rw e at none))

    -- so others are evicted from its domain before it is stored, or after, and then the groups of its path and of its
    -- domain are moved to the end if it is alone in them
    pub put_items_left : (gs : ItemGroups) → TextsDiffer gs → find_items (key_of row) gs ≡ None
        → put_items row n (lessened_at (filter_paths test) (domain_text row.domain) gs) ≡ moved_to_end_if is_single_paths (domain_text row.domain) (changed_at (λ ps. moved_to_end_if is_single row.path.text (filter_paths test ps)) (domain_text row.domain) (put_items row n gs))
    put_items_left gs d none =
        put_where_left_at (filter_paths test) (put_item_paths row n) is_single_paths refl (domain_text row.domain) gs d.0 (left_alone gs d.1 none)
        ∙ ap (moved_to_end_if is_single_paths (domain_text row.domain))
        (changed_put (λ ps. moved_to_end_if is_single row.path.text (filter_paths test ps)) (put_item_paths row n) (λ ps. put_item_paths row n (filter_paths test ps)) (domain_text row.domain) gs (put_passing [] refl refl) (left_later gs d.1 none))

    -- which is what entering does
    pub inserted_is : (gs : ItemGroups) → TextsDiffer gs → find_items (key_of row) gs ≡ None
        → insert_in_domains test row n gs ≡ put_items row n (lessened_at (filter_paths test) (domain_text row.domain) gs)
    inserted_is gs d none =
        let move_single_to_end = λ (ps : ItemPaths). moved_to_end_if is_single row.path.text (filter_paths test ps) in
        let any = at_any (λ xs. insert_in_paths test row n xs ≡ move_single_to_end (put_item_paths row n xs)) (λ xs. refl) (domain_text row.domain) gs in
        ap (moved_to_end_if is_single_paths (domain_text row.domain)) (changed_put move_single_to_end (put_item_paths row n) (insert_in_paths test row n) (domain_text row.domain) gs refl any)
        ∙ sym (put_items_left gs d none)
