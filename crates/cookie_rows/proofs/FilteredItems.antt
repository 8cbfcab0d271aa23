-- A store of which the rows that pass a test remain.
use Rattle.std.proofs.Common.{◌≡◌, ℕ, ◌<◌, Bool, true, false, not, List, [], ◌∷◌, ◌++◌, length, map, refl, sym, ◌∙◌, ap, subst, bytes_eq, append-nil, arith, Some}
use Rattle.std.specs.List.{AllByRecursion, filter, flat_map}
use Rattle.std.proofs.lemmas.Bool.{and_parts, not-true}
use Rattle.std.proofs.lemmas.List.{map-append}
use Rattle.std.proofs.lemmas.Simd.{map-map}
use Rattle.cookie_parts.specs.Cookie.{Row}
use Rattle.cookie_laws.specs.Rows.{Key, are_rows, differ, has_key, key_at, key_of, removed, row_of, same_domain, same_key, same_key_equiv}
use Rattle.cookie_lookup.specs.Groups.{AreGroups, ArePaths, HasDomainAndPath, flat}
use Rattle.cookie_rows.specs.Items.{AreItems, Item, ItemGroups, ItemPaths, bare, bare_paths, by_number, creation_order, groups_in_order, is_item_named, numbered, numbered_paths, remove_item, remove_item_paths, remove_items, rows_of}
use Rattle.cookie_rows.specs.Eviction.{filter_groups, filter_paths, paths_of}
use Rattle.cookie_rows.proofs.All.{all_both, all_from_map, all_map, all_to_map}
use Rattle.cookie_rows.proofs.Created.{texts_differ}
use Rattle.cookie_rows.proofs.FilteredGroups.{IsPart, ItemsOf, each_fails, filter_same, items_of, keyed_filtered, lessened_parted, map-filter, map_filtered, one_alike, one_of_map, removed_filter, retains_filtered, some_paths, whole_paths}
use Rattle.cookie_rows.proofs.Keyed.{Keyed, each_domain, each_key, filter_all, keyed, keyed_names, keyed_near, keyed_paths, keys_differ, keys_numbered, numbers_keyed, numbers_keyed_in, rows_keyed}
use Rattle.cookie_rows.proofs.Leaves.{Leaves, differ_leaves, leaves_all, leaves_append, leaves_none}
use Rattle.cookie_rows.proofs.Ordered.{all_ordered, ordered_filtered}
use Rattle.cookie_rows.proofs.RetainedGroups.{items_retained}

-- the keys of each part of rows whose keys differ
differ_listed : {A T : Type 0} (key : T → Key) (list : A → List T) (xs : List A) → differ same_key (map key (flat_map list xs)) ≡ true → AllByRecursion (λ x. differ same_key (map key (list x)) ≡ true) xs
differ_listed key list [] d = tt
differ_listed key list (x ∷ xs) d =
    let here = map key (list x) in
    let rest = map key (flat_map list xs) in
    let all : differ same_key (here ++ rest) ≡ true = ap (differ same_key) (sym (map-append key (list x) (flat_map list xs))) ∙ d in (
      differ_leaves same_key (here ++ rest) here (subst (Leaves (here ++ rest)) (append-nil here) (leaves_append here here rest [] (leaves_all here) (leaves_none rest))) all,
      differ_listed key list xs (differ_leaves same_key (here ++ rest) rest (leaves_append here [] rest rest (leaves_none here) (leaves_all rest)) all),
    )

-- the row of an item's key is its row

-- if keys differ, the first row of a row's key is that row
all_found : (rows : List Row) → differ same_key (map key_of rows) ≡ true → AllByRecursion (λ r. row_of (key_of r) rows ≡ Some r) rows
all_found [] apart = tt
all_found (r ∷ rs) apart =
    let parts = and_parts _ _ apart in
    let here : same_key (key_of r) (key_of r) ≡ true = same_key_equiv.refl (key_of r) in
    let others = all_from_map key_of (λ k. same_key (key_of r) k ≡ false) rs (each_fails (same_key (key_of r)) (map key_of rs) (not-true _ parts.0)) in (
      rw here refl,
      all_both (λ q. same_key (key_of r) (key_of q) ≡ false) (λ q. row_of (key_of q) rs ≡ Some q) (λ q. row_of (key_of q) (r ∷ rs) ≡ Some q)
          (λ q other found. let flip : same_key (key_of q) (key_of r) ≡ false = same_key_equiv.symm (key_of q) (key_of r) ∙ other in rw flip found) rs others (all_found rs parts.1),
    )

module _ (n : ℕ) (gs : ItemGroups) (a : AreItems n gs) where
  pub row_of_item : AllByRecursion (λ e. row_of e.0 (flat (bare gs)) ≡ Some e.1.row) (keyed gs)
  row_of_item =
      let rows = flat (bare gs) in
      let found = subst (AllByRecursion (λ r. row_of (key_of r) rows ≡ Some r)) (rows_keyed gs) (all_found rows (and_parts _ _ a.1).0) in
      all_both (λ (e : Keyed). key_of e.1.row ≡ e.0) (λ e. row_of (key_of e.1.row) rows ≡ Some e.1.row) (λ e. row_of e.0 rows ≡ Some e.1.row)
      (λ e is there. subst (λ k. row_of k rows ≡ Some e.1.row) is there) (keyed gs) (each_key gs a.0.1)
      (all_from_map (λ (e : Keyed). e.1.row) (λ r. row_of (key_of r) rows ≡ Some r) (keyed gs) found)

-- what remains of a store

module _ (n : ℕ) (gs : ItemGroups) (a : AreItems n gs) (keep : Item → Bool) where
  -- it is a store
  pub items_filtered : AreItems n (filter_groups keep gs)
  items_filtered = items_retained (λ x b. b ≡ keep x) n gs (filter_groups keep gs) a (retains_filtered keep gs)

  -- a list of something of its items
  listed_filtered : {Y : Type 0} (of : Keyed → Y) (keeps : Y → Bool) → AllByRecursion (λ e. keeps (of e) ≡ keep e.1) (keyed gs) → map of (keyed (filter_groups keep gs)) ≡ filter keeps (map of (keyed gs))
  listed_filtered of keeps agree = ap (map of) (keyed_filtered keep gs) ∙ map_filtered of keeps (λ e. keep e.1) (keyed gs) agree

  module _ (test : Row → Bool) (stays : Key → Bool) (by_row : AllByRecursion (λ e. test e.1.row ≡ keep e.1) (keyed gs)) (by_key : AllByRecursion (λ e. stays e.0 ≡ keep e.1) (keyed gs)) where
    rows_filtered : flat (bare (filter_groups keep gs)) ≡ filter test (flat (bare gs))
    rows_filtered = rows_keyed (filter_groups keep gs) ∙ listed_filtered (λ e. e.1.row) test by_row ∙ ap (filter test) (sym (rows_keyed gs))

    created_filtered : creation_order (filter_groups keep gs) ≡ filter stays (creation_order gs)
    created_filtered =
        ap (λ ns. map (λ (x : Key × ℕ). x.0) (by_number ns))
        (numbers_keyed (filter_groups keep gs) ∙ listed_filtered (λ e. (e.0, e.1.number)) (λ x. stays x.0) by_key ∙ ap (filter (λ (x : Key × ℕ). stays x.0)) (sym (numbers_keyed gs)))
        ∙ ap (map (λ x. x.0)) (ordered_filtered (λ x. stays x.0) (numbered gs))
        ∙ map-filter (λ (x : Key × ℕ). x.0) stays (by_number (numbered gs))

    -- its rows and keys
    pub kept_filtered : groups_in_order (filter_groups keep gs) ≡ record { rows = filter test (flat (bare gs)); created = filter stays (creation_order gs) }
    kept_filtered = λ i. record { rows = rows_filtered i; created = created_filtered i }

-- the row of a key is removed

module _ (key : Key) where
  -- the row has another key
  abbrev is_other : Item → Bool
  is_other x = not (has_key key x.row)

  -- among those of its domain and path it has its name
  names_removed : (d p : List ℕ) (xs : List Item) → bytes_eq key.domain d ≡ true → bytes_eq key.path p ≡ true → AllByRecursion (λ x. HasDomainAndPath d p x.row) xs
      → differ same_key (map (λ e. e.0) (keyed_names d p xs)) ≡ true → remove_item key.name xs ≡ filter is_other xs
  names_removed d p xs e f of apart =
      let at : Item → Key = λ x. key_at d p x.row.raw.name in
      let named : (x : Item) → same_key key (at x) ≡ is_item_named key.name x = λ x. rw (e, f) refl in
      let single = one_of_map at (same_key key) xs (one_alike same_key_equiv key (map at xs) (ap (differ same_key) (sym (map-map (λ (k : Keyed). k.0) (λ (x : Item). (at x, x)) xs)) ∙ apart)) in
      (λ i. removed (λ x. sym (named x) i) xs) ∙ removed_filter (λ x. same_key key (at x)) xs single
      ∙ filter_same (λ x. not (same_key key (at x))) is_other xs
      (all_map (λ x. HasDomainAndPath d p x.row) (λ x. not (same_key key (at x)) ≡ is_other x) (λ x is i. not (same_key key (key_at (sym is.0 i) (sym is.1 i) x.row.raw.name))) xs of)

  -- in its domain
  paths_removed : (d : List ℕ) (ps : ItemPaths) → bytes_eq key.domain d ≡ true → ArePaths d (bare_paths ps) → differ same_key (map (λ e. e.0) (keyed_paths d ps)) ≡ true
      → remove_item_paths key.path key.name ps ≡ filter_paths is_other ps
  paths_removed d ps e a apart =
      let texts = ap (differ bytes_eq) (sym (map-map (λ (p : List ℕ × List Row). p.0) (λ (p : List ℕ × List Item). (p.0, rows_of p.1)) ps)) ∙ a.0 in
      lessened_parted (filter is_other) (remove_item key.name) key.path ps texts
      (all_both (ItemsOf d) (λ p. differ same_key (map (λ e. e.0) (keyed_names d p.0 p.1)) ≡ true) (IsPart (filter is_other) (remove_item key.name) key.path)
      (λ p of keys. (
        of.0,
        (
          (λ f. names_removed d p.0 p.1 e f of.1 keys),
          λ f. filter_all is_other p.1 (all_map (λ x. HasDomainAndPath d p.0 x.row) (λ x. is_other x ≡ true) (λ x is. away x (ap (bytes_eq key.path) is.1 ∙ f)) p.1 of.1),
        ),
      )) ps (items_of d ps a.1) (differ_listed (λ (e : Keyed). e.0) (λ (p : List ℕ × List Item). keyed_names d p.0 p.1) ps apart))
    where
      away : (x : Item) → bytes_eq key.path x.row.path.text ≡ false → is_other x ≡ true
      away x f = grind (arith, f)

  -- in all
  pub removed_filtered : (gs : ItemGroups) → AreGroups (bare gs) → are_rows (flat (bare gs)) ≡ true → remove_items key gs ≡ filter_groups is_other gs
  removed_filtered gs a r =
      let texts = ap (differ bytes_eq) (sym (map-map (λ g. g.0) (λ (g : List ℕ × ItemPaths). (g.0, bare_paths g.1)) gs)) ∙ a.0 in
      lessened_parted (filter_paths is_other) (remove_item_paths key.path key.name) key.domain gs texts
      (all_both (λ (g : List ℕ × ItemPaths). (0 < length (bare_paths g.1)) × ArePaths g.0 (bare_paths g.1)) (λ g. differ same_key (map (λ e. e.0) (keyed_paths g.0 g.1)) ≡ true)
      (IsPart (filter_paths is_other) (remove_item_paths key.path key.name) key.domain)
      (λ g of keys. (some_paths g.1 of.0, ((λ e. paths_removed g.0 g.1 e of.1 keys), λ e. whole_paths is_other g.0 g.1 (λ x is. away x (ap (bytes_eq key.domain) is ∙ e)) of.1.1)))
      gs (all_from_map (λ (g : List ℕ × ItemPaths). (g.0, bare_paths g.1)) (λ g. (0 < length g.1) × ArePaths g.0 g.1) gs a.1)
      (differ_listed (λ (e : Keyed). e.0) (λ (g : List ℕ × ItemPaths). keyed_paths g.0 g.1) gs (ap (differ same_key) (sym (keys_numbered gs)) ∙ keys_differ gs a r)))
    where
      away : (x : Item) → bytes_eq key.domain (key_of x.row).domain ≡ false → is_other x ≡ true
      away x f = grind (arith, f)

-- the keys of a domain

-- with their numbers
pub numbered_near : (key : Key) (gs : ItemGroups) → differ bytes_eq (map (λ g. g.0) gs) ≡ true → filter (λ x. same_domain key x.0) (numbered gs) ≡ numbered_paths key.domain (paths_of key.domain gs)
numbered_near key gs apart =
    ap (filter (λ (x : Key × ℕ). same_domain key x.0)) (numbers_keyed gs)
    ∙ sym (map-filter (λ (e : Keyed). (e.0, e.1.number)) (λ (x : Key × ℕ). same_domain key x.0) (keyed gs))
    ∙ ap (map (λ e. (e.0, e.1.number))) (keyed_near key.domain gs apart) ∙ sym (numbers_keyed_in key.domain (paths_of key.domain gs))

-- in creation order
pub created_near : (key : Key) (gs : ItemGroups) → AreGroups (bare gs) → filter (same_domain key) (creation_order gs) ≡ map (λ x. x.0) (by_number (numbered_paths key.domain (paths_of key.domain gs)))
created_near key gs a =
    sym (map-filter (λ (x : Key × ℕ). x.0) (same_domain key) (by_number (numbered gs)))
    ∙ ap (map (λ x. x.0)) (sym (ordered_filtered (λ x. same_domain key x.0) (numbered gs)) ∙ ap by_number (numbered_near key gs (texts_differ gs a).0))

-- they have the domain
pub created_domain : (d : List ℕ) (ps : ItemPaths) → AllByRecursion (λ k. k.domain ≡ d) (map (λ x. x.0) (by_number (numbered_paths d ps)))
created_domain d ps =
    let near : Key × ℕ → Type 0 = λ x. x.0.domain ≡ d in
    all_to_map (λ (x : Key × ℕ). x.0) (λ k. k.domain ≡ d) (by_number (numbered_paths d ps))
    (all_ordered near (numbered_paths d ps) (subst (AllByRecursion near) (sym (numbers_keyed_in d ps)) (all_to_map (λ (e : Keyed). (e.0, e.1.number)) near (keyed_paths d ps) (each_domain d ps))))
