-- A new row is inserted into groups after others of its domain were evicted.
use Rattle.std.proofs.Common.{◌≡◌, ℕ, suc, ◌+◌, ◌-◌, ◌<◌, ◌≤◌, Bool, true, false, not, List, [], ◌∷◌, ◌++◌, filter, length, map, take, refl, sym, ◌∙◌, ap, subst, inl, inr, bytes_eq, ◌||◌, arith, max, take_all, zero, Some, None, IsPermutation}
use Rattle.std.specs.Prelude.{nat_eq}
use Rattle.std.specs.List.{AllByRecursion, list_any}
use Rattle.std.proofs.lemmas.Bool.{cases_Bool}
use Rattle.std.proofs.lemmas.Cmp.{nat_list_eq_equiv}
use Rattle.std.proofs.lemmas.List.{length-map}
use Rattle.std.proofs.lemmas.Simd.{map-map}
use Rattle.std.proofs.lemmas.List.Sorted.{IsPermutation-map, length_permutation}
use Rattle.cookie_words.specs.Moments.{Moment}
use Rattle.cookie_parts.specs.Cookie.{Row, is_expired}
use Rattle.cookie_parts.specs.Domain.{domain_text}
use Rattle.cookie_laws.specs.Contents.{Contents, contents_of, with_cookie, without, rows_in_order}
use Rattle.cookie_laws.specs.Rows.{Key, RowsInOrder, differ, key_of, add_created, put, row_of, same_domain, same_key}
use Rattle.cookie_lookup.specs.Groups.{flat}
use Rattle.cookie_rows.specs.GroupChanges.{lessened_at}
use Rattle.cookie_rows.specs.Items.{AreItems, Item, ItemGroups, ItemPaths, bare, by_number, groups_in_order, creation_order, numbered, numbered_paths, put_items}
use Rattle.cookie_rows.specs.Eviction.{HasRoom, InsertsInDomains, IsFirstSurvivor, EvictionRank, class_of, comes_before, evicted_in, insert_in_domains, filter_groups, filter_paths, paths_of, survives, rank_of, ranks_of, with_inserted}
use Rattle.cookie_rows.specs.declared.eviction_order.EvictionOrder.{EvictionOrder}
use Rattle.cookie_rows.proofs.All.{all_both, all_from_map, all_map, all_moved, all_take}
use Rattle.cookie_rows.proofs.AreItems.{found_items, items_put, kept_put}
use Rattle.cookie_rows.proofs.StoredThenEvicted.{inserted_is}
use Rattle.cookie_rows.proofs.Created.{texts_differ}
use Rattle.cookie_rows.proofs.Eviction.{SplitsAround, classes_moved, entry_rank, in_eviction_order, leaving_entries, new_survives}
use Rattle.cookie_rows.proofs.FilteredGroups.{evicted_filtered}
use Rattle.cookie_rows.proofs.FilteredItems.{created_domain, created_near, items_filtered, kept_filtered, numbered_near, row_of_item}
use Rattle.cookie_rows.proofs.KeyClasses.{at_most_2, by_class_numbered, class_in, evicted_is, in_order, in_order_is, key_class, length_in_order, none_evicted, splits}
use Rattle.cookie_rows.proofs.Keyed.{Keyed, each_key, each_near, is_near, items_keyed, keyed, keyed_near, keyed_paths, keys_differ, map_same, numbers_keyed_in}
use Rattle.cookie_rows.proofs.LeastEvicted.{ranks_are}
use Rattle.cookie_rows.proofs.Leaves.{Leaves, all_leaves, differ_leaves, leaves_filter, leaves_map}
use Rattle.cookie_rows.proofs.Ordered.{ordered_moved}

-- with room for one more none has to go
no_more : (k limit : ℕ) → k < limit → k + 1 - limit ≡ 0
no_more k limit room = omega (arith, room)

-- sorting keeps the number of items
length_ordered : (xs : List (Key × ℕ)) → length (by_number xs) ≡ length xs
length_ordered xs = length_permutation xs (by_number xs) (ordered_moved xs)

-- a filter that all items pass
filter_whole : {A : Type 0} (xs : List A) → filter (λ _. true) xs ≡ xs
filter_whole [] = refl
filter_whole (x ∷ xs) = ap (λ ys. x ∷ ys) (filter_whole xs)

-- a store without the rows of no keys
without_none : (store : Contents) → without [] store ≡ store
without_none store =
    let rows = filter_whole store.rows in
    let created = filter_whole store.created in
    λ i. record store { rows = rows i; created = created i }

-- double negation
not_not : (b : Bool) → not (not b) ≡ b
not_not true = refl
not_not false = refl

-- a key of another domain is none of these
none_elsewhere : (d : List ℕ) (keys : List Key) → AllByRecursion (λ k. k.domain ≡ d) keys → (key : Key) → bytes_eq d key.domain ≡ false → list_any (same_key key) keys ≡ false
none_elsewhere d [] a key e = refl
none_elsewhere d (k ∷ ks) a key e =
    let other : bytes_eq key.domain k.domain ≡ false = ap (bytes_eq key.domain) a.0 ∙ nat_list_eq_equiv.symm key.domain d ∙ e in
    rw other (none_elsewhere d ks a.1 key e)

-- what holds of those that pass a test holds of each that passes
each_that_passes : {A : Type 0} (P : A → Type 0) (test : A → Bool) (xs : List A) → AllByRecursion P (filter test xs) → AllByRecursion (λ x. test x ≡ true → P x) xs
each_that_passes P test [] a = tt
each_that_passes P test (x ∷ xs) a = elim (cases_Bool (test x)) [
  | inl e ↦ let a' = rw e at a in ((λ _. a'.0), each_that_passes P test xs a'.1)
  | inr e ↦ let a' = rw e at a in ((λ passes. let both = sym passes ∙ e in absurd (cc)), each_that_passes P test xs a')
]

-- the ranks of a domain are those of its entries
entry_ranks : (d : List ℕ) (order : EvictionOrder) (now : Moment) (cls : Key × ℕ → ℕ) (ps : ItemPaths) → AllByRecursion (λ e. cls (e.0, e.1.number) ≡ class_of order now e.1.row) (keyed_paths d ps)
    → map (entry_rank cls) (numbered_paths d ps) ≡ ranks_of order now ps
entry_ranks d order now cls ps a =
    let own = keyed_paths d ps in
    ap (map (entry_rank cls)) (numbers_keyed_in d ps) ∙ map-map (entry_rank cls) (λ (e : Keyed). (e.0, e.1.number)) own
    ∙ map_same (λ (e : Keyed). entry_rank cls (e.0, e.1.number)) (λ e. rank_of order now e.1) own
    (all_map (λ (e : Keyed). cls (e.0, e.1.number) ≡ class_of order now e.1.row) (λ e. entry_rank cls (e.0, e.1.number) ≡ rank_of order now e.1) (λ e is i. (is i, e.1.number)) own a)
    ∙ sym (map-map (rank_of order now) (λ (e : Keyed). e.1) own) ∙ ap (map (rank_of order now)) (sym (items_keyed d ps)) ∙ sym (ranks_are order now ps)

-- a new row

module _ (n limit : ℕ) (gs : ItemGroups) (a : AreItems n gs) (row : Row) (order : EvictionOrder) (now : Moment)
    (fresh : row_of (key_of row) (flat (bare gs)) ≡ None) (live : is_expired now row ≡ false)
    (some : 0 < limit) (room : HasRoom order (contents_of (groups_in_order gs) None (Some limit)) row now) where
  -- its domain
  abbrev domain : List ℕ
  domain = domain_text row.domain

  -- the entries of its domain
  abbrev entries : List (Key × ℕ)
  entries = numbered_paths domain (paths_of domain gs)

  -- the class of an entry
  abbrev cls : Key × ℕ → ℕ
  cls e = key_class order now (flat (bare gs)) e.0

  -- is 0, 1 or 2
  few : (e : Key × ℕ) → cls e ≤ 2
  few e = at_most_2 order now (row_of e.0 (flat (bare gs)))

  -- the store under the limit
  abbrev store : Contents
  store = contents_of (groups_in_order gs) None (Some limit)

  -- the keys whose rows are evicted
  abbrev leave : List Key
  leave = evicted_in order store now (key_of row)

  -- the entries are those of the domain among all
  entries_are : filter (λ x. same_domain (key_of row) x.0) (numbered gs) ≡ entries
  entries_are = numbered_near (key_of row) gs (texts_differ gs a.0).0

  -- their numbers are below the next, and differ, and so do their keys
  some_entries : Leaves (numbered gs) entries
  some_entries = subst (Leaves (numbered gs)) entries_are (leaves_filter (λ x. same_domain (key_of row) x.0) (numbered gs))

  below : AllByRecursion (λ x. x.1 < n) entries
  below = all_leaves (λ x. x.1 < n) (numbered gs) entries some_entries a.2

  numbers : differ nat_eq (map (λ x. x.1) entries) ≡ true
  numbers = differ_leaves nat_eq (map (λ x. x.1) (numbered gs)) (map (λ x. x.1) entries) (leaves_map (λ (x : Key × ℕ). x.1) (numbered gs) entries some_entries) a.3

  keys : differ same_key (map (λ x. x.0) entries) ≡ true
  keys = differ_leaves same_key (map (λ x. x.0) (numbered gs)) (map (λ x. x.0) entries) (leaves_map (λ (x : Key × ℕ). x.0) (numbered gs) entries some_entries) (keys_differ gs a.0 a.1)

  -- its keys in creation order are those of the entries in the order of their numbers
  created_are : filter (same_domain (key_of row)) (creation_order gs) ≡ map (λ x. x.0) (by_number entries)
  created_are = created_near (key_of row) gs a.0

  -- and the keys in eviction order those of the entries in eviction order
  turned_are : in_order order now (flat (bare gs)) (filter (same_domain (key_of row)) (creation_order gs)) ≡ map (λ x. x.0) (in_eviction_order cls entries)
  turned_are =
      ap (in_order order now (flat (bare gs))) created_are
      ∙ in_order_is order now (flat (bare gs)) (map (λ x. x.0) (by_number entries))
      ∙ by_class_numbered (key_class order now (flat (bare gs))) (by_number entries)

  -- how many of them are evicted
  count : length (filter (same_domain (key_of row)) (creation_order gs)) ≡ length entries
  count = ap length created_are ∙ length-map (by_number entries) (λ x. x.0) ∙ length_ordered entries

  leave_is : leave ≡ take (length entries + 1 - limit) (map (λ x. x.0) (in_eviction_order cls entries))
  leave_is = evicted_is order (groups_in_order gs) limit now (key_of row) ∙ (λ i. take (count i + 1 - limit) (turned_are i))

  -- they are of the domain
  leave_near : AllByRecursion (λ k. k.domain ≡ domain) leave
  leave_near =
      let near = λ (k : Key). k.domain ≡ domain in
      let ordered = by_number entries in
      let moved = IsPermutation-map (λ x. x.0) ordered (in_eviction_order cls entries) (classes_moved cls few ordered) in
      let all = all_moved near (map (λ x. x.0) ordered) (map (λ x. x.0) (in_eviction_order cls entries)) moved (created_domain domain (paths_of domain gs)) in
      subst (AllByRecursion near) (sym leave_is) (all_take near (length entries + 1 - limit) (map (λ x. x.0) (in_eviction_order cls entries)) all)

  -- its items, each under its key
  abbrev own : List Keyed
  own = keyed_paths domain (paths_of domain gs)

  -- the class of each entry is that of its item
  classes_are : AllByRecursion (λ e. cls (e.0, e.1.number) ≡ class_of order now e.1.row) own
  classes_are =
      each_near domain (λ e. cls (e.0, e.1.number) ≡ class_of order now e.1.row) gs (texts_differ gs a.0).0
      (all_map (λ (e : Keyed). row_of e.0 (flat (bare gs)) ≡ Some e.1.row) (λ e. cls (e.0, e.1.number) ≡ class_of order now e.1.row) (λ e found. ap (class_in order now) found) (keyed gs) (row_of_item n gs a))

  -- the ranks of the entries are those of the items
  ranks_match : map (entry_rank cls) entries ≡ ranks_of order now (paths_of domain gs)
  ranks_match = entry_ranks domain order now cls (paths_of domain gs) classes_are

  -- the entries that come before the new one, and the others
  around : SplitsAround cls entries (class_of order now row) (length entries + 1 - limit)
  around = splits (groups_in_order gs) row now entries created_are order limit live some room

  -- what the groups keep when it is put into them

  -- if none are evicted
  enters_room : (new : ItemGroups) → length (ranks_of order now (paths_of domain gs)) < limit → new ≡ put_items row n gs
      → groups_in_order new ≡ rows_in_order (with_inserted order store row now)
  enters_room new less is =
      let fewer : length entries < limit = subst (λ k. k < limit) (sym (ap length ranks_match) ∙ length-map entries (entry_rank cls)) less in
      let none : leave ≡ [] = leave_is ∙ ap (λ k. take k (map (λ (x : Key × ℕ). x.0) (in_eviction_order cls entries))) (no_more (length entries) limit fewer) in
      ap groups_in_order is ∙ kept_put n gs a row ∙ ap (λ (s : Contents). rows_in_order (with_cookie s row)) (sym (ap (λ ks. without ks store) none ∙ without_none store))

  module _ (first : EvictionRank) (is : IsFirstSurvivor limit order now (class_of order now row, n) (paths_of domain gs) first) where
    -- the surviving ones
    abbrev test : Item → Bool
    test = survives order now first

    -- the ranks of the entries and of the new one, in order
    moved : IsPermutation (map (entry_rank cls) entries ++ (class_of order now row, n) ∷ []) is.ranks
    moved = subst (λ ts. IsPermutation (ts ++ (class_of order now row, n) ∷ []) is.ranks) (sym ranks_match) is.moved

    -- the new row survives
    new_stays : test (record { row = row; number = n }) ≡ true
    new_stays = ap not (new_survives cls few entries n (class_of order now row) limit around numbers below is.ranks moved is.sorted first is.is)

    -- a key of the domain is evicted if its item does not survive
    own_leave : AllByRecursion (λ e. list_any (same_key e.0) leave ≡ not (test e.1)) own
    own_leave =
        let all = leaving_entries cls few entries n (class_of order now row) limit around numbers below is.ranks moved is.sorted first is.is keys in
        let leaves : Key × ℕ → Type 0 = λ e. list_any (same_key e.0) leave ≡ comes_before (entry_rank cls e) first in
        let all' = subst (AllByRecursion leaves) (numbers_keyed_in domain (paths_of domain gs))
        (subst (λ ks. AllByRecursion (λ e. list_any (same_key e.0) ks ≡ comes_before (entry_rank cls e) first) entries) (sym leave_is) all) in
        all_both (λ (e : Keyed). leaves (e.0, e.1.number)) (λ e. cls (e.0, e.1.number) ≡ class_of order now e.1.row) (λ e. list_any (same_key e.0) leave ≡ not (test e.1))
        (λ e h k. h ∙ ap (λ c. comes_before (c, e.1.number) first) k ∙ sym (not_not _)) own (all_from_map (λ (e : Keyed). (e.0, e.1.number)) leaves own all') classes_are

    -- the items that stay: those of other domains, and those that survive
    abbrev stays : Item → Bool
    stays x = not (bytes_eq domain (domain_text x.row.domain)) || test x

    -- their keys stay
    keys_stay : AllByRecursion (λ e. not (list_any (same_key e.0) leave) ≡ stays e.1) (keyed gs)
    keys_stay =
        all_both (λ (e : Keyed). key_of e.1.row ≡ e.0) (λ e. is_near domain e ≡ true → list_any (same_key e.0) leave ≡ not (test e.1)) (λ e. not (list_any (same_key e.0) leave) ≡ stays e.1)
        (λ e is near. subst (λ (d : List ℕ). not (list_any (same_key e.0) leave) ≡ (not (bytes_eq domain d) || test e.1)) (ap (λ (k : Key). k.domain) (sym is)) (one e near)) (keyed gs) (each_key gs a.0.1)
        (each_that_passes (λ e. list_any (same_key e.0) leave ≡ not (test e.1)) (is_near domain) (keyed gs) (subst (AllByRecursion (λ e. list_any (same_key e.0) leave ≡ not (test e.1))) (sym (keyed_near domain gs (texts_differ gs a.0).0)) own_leave))
      where
        one : (e : Keyed) → (is_near domain e ≡ true → list_any (same_key e.0) leave ≡ not (test e.1)) → not (list_any (same_key e.0) leave) ≡ (not (bytes_eq domain e.0.domain) || test e.1)
        one e near = elim (cases_Bool (bytes_eq domain e.0.domain)) [
          | inl f ↦ rw f (ap not (near f) ∙ not_not (test e.1))
          | inr f ↦ rw f (ap not (none_elsewhere domain leave leave_near e.0 f))
        ]

    -- and so do their rows
    rows_stay : AllByRecursion (λ e. not (list_any (same_key (key_of e.1.row)) leave) ≡ stays e.1) (keyed gs)
    rows_stay =
        all_both (λ (e : Keyed). key_of e.1.row ≡ e.0) (λ e. not (list_any (same_key e.0) leave) ≡ stays e.1) (λ e. not (list_any (same_key (key_of e.1.row)) leave) ≡ stays e.1)
        (λ e is h. ap (λ k. not (list_any (same_key k) leave)) is ∙ h) (keyed gs) (each_key gs a.0.1) keys_stay

    -- they are what is left
    left_is : lessened_at (filter_paths test) domain gs ≡ filter_groups stays gs
    left_is = evicted_filtered test domain gs a.0 (texts_differ gs a.0).0

    left_kept : groups_in_order (lessened_at (filter_paths test) domain gs) ≡ rows_in_order (without leave store)
    left_kept = ap groups_in_order left_is ∙ kept_filtered n gs a stays (λ row. not (list_any (same_key (key_of row)) leave)) (λ key. not (list_any (same_key key) leave)) rows_stay keys_stay

    left_items : AreItems n (lessened_at (filter_paths test) domain gs)
    left_items = subst (AreItems n) (sym left_is) (items_filtered n gs a stays)

    -- what is put into them is what was put before they left
    inserted : insert_in_domains test row n gs ≡ put_items row n (lessened_at (filter_paths test) domain gs)
    inserted = inserted_is row n test new_stays gs (texts_differ gs a.0) (found_items n gs a (key_of row) ∙ fresh)

    -- so it keeps that, and the order
    enters_left : (new : ItemGroups) → new ≡ insert_in_domains test row n gs → groups_in_order new ≡ rows_in_order (with_inserted order store row now)
    enters_left new e =
        ap groups_in_order (e ∙ inserted) ∙ kept_put n (lessened_at (filter_paths test) domain gs) left_items row
        ∙ ap (λ (k : RowsInOrder). record { rows = put k.rows row; created = add_created k.created (key_of row) }) left_kept

    items_enter : (new : ItemGroups) → new ≡ insert_in_domains test row n gs → AreItems (n + 1) new
    items_enter new e = subst (AreItems (n + 1)) (sym (e ∙ inserted)) (items_put n (lessened_at (filter_paths test) domain gs) left_items row (n + 1) (inl refl))

  -- a new row is stored as `put` does
  pub kept_inserted : (new : ItemGroups) → InsertsInDomains limit order now row n gs new → groups_in_order new ≡ rows_in_order (with_inserted order store row now)
  kept_inserted new enters = elim enters [
    | inl e ↦ enters_room new e.0 e.1
    | inr e ↦ enters_left e.0 e.1 new e.3
  ]

  -- and keeps the order of the groups
  pub items_inserted : (new : ItemGroups) → InsertsInDomains limit order now row n gs new → AreItems (n + 1) new
  items_inserted new enters = elim enters [
    | inl e ↦ subst (AreItems (n + 1)) (sym e.1) (items_put n gs a row (n + 1) (inl refl))
    | inr e ↦ items_enter e.0 e.1 new e.3
  ]

-- without a limit

-- what a store keeps that has none
pub kept_unlimited : (order : EvictionOrder) (kept : RowsInOrder) (row : Row) (now : Moment)
    → record { rows = put kept.rows row; created = add_created kept.created (key_of row) } ≡ rows_in_order (with_inserted order (contents_of kept None None) row now)
kept_unlimited order kept row now =
    let store = contents_of kept None None in
    ap (λ (s : Contents). rows_in_order (with_cookie s row)) (sym (ap (λ ks. without ks store) (none_evicted order kept now (key_of row)) ∙ without_none store))

-- under a limit of 0

-- all are evicted, as with a limit of 1
all_leave : (order : EvictionOrder) (kept : RowsInOrder) (row : Row) (now : Moment)
    → evicted_in order (contents_of kept None (Some 1)) now (key_of row) ≡ evicted_in order (contents_of kept None (Some 0)) now (key_of row)
all_leave order kept row now =
    let ks = filter (same_domain (key_of row)) kept.created in
    let turned = in_order order now kept.rows ks in
    let long = length_in_order order now kept.rows ks in
    evicted_is order kept 1 now (key_of row)
    ∙ take_all (length ks + 1 - 1) turned (omega (arith, long)) ∙ sym (take_all (length ks + 1 - 0) turned (omega (arith, long)))
    ∙ sym (evicted_is order kept 0 now (key_of row))

-- so it keeps the same
pub kept_at_least_one : (order : EvictionOrder) (kept : RowsInOrder) (limit : ℕ) (row : Row) (now : Moment)
    → rows_in_order (with_inserted order (contents_of kept None (Some (max limit 1))) row now)
    ≡ rows_in_order (with_inserted order (contents_of kept None (Some limit)) row now)
kept_at_least_one order kept zero row now = ap (λ ks. rows_in_order (with_cookie (without ks (contents_of kept None None)) row)) (all_leave order kept row now)
kept_at_least_one order kept (suc limit) row now =
    let same : max (suc limit) 1 ≡ suc limit = omega arith in
    ap (λ l. rows_in_order (with_inserted order (contents_of kept None (Some l)) row now)) same
