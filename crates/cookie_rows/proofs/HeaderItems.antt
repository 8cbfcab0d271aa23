-- Rows in the order of their numbers are in creation order, so rows sorted by them are in the order of the Cookie header.
use Rattle.std.proofs.Common.{◌≡◌, ℕ, zero, suc, ◌+◌, ◌<◌, ◌≤◌, Bool, true, false, true≢false, ◌&&◌, ◌||◌, eqb, ltb, List, [], ◌∷◌, ◌++◌, length, map, get_or, Bor, Option, Some, None, refl, sym, ◌∙◌, ap, subst, inl, inr, arith, IsPermutation}
use Rattle.std.specs.Prelude.{nat_eq, slice_get}
use Rattle.std.specs.Ordering.{is_lt}
use Rattle.std.specs.Cmp.{IsStrictWeakOrder, IsTotalOrder}
use Rattle.std.specs.List.{All, AllByRecursion, flat_map, list_any, position_or_len}
use Rattle.std.specs.List.Sorted.{IsSorted, IsSortedBy}
use Rattle.std.proofs.lemmas.Bool.{and_parts, cases_Bool, or_left, or_right}
use Rattle.std.proofs.lemmas.Bool.Decides.{nat_tests}
use Rattle.std.proofs.lemmas.Cmp.{back_total, nat_cmp_total, on_total, then_total}
use Rattle.std.proofs.lemmas.List.{get_or-map, length-map, map-append, nil_from_length}
use Rattle.std.proofs.lemmas.List.Elements.{All-from_recursion, All-get_or}
use Rattle.std.proofs.lemmas.List.Folds.{list_any-append}
use Rattle.std.proofs.lemmas.List.Sorted.{All-permutation, IsPermutation-map, IsPermutation-trans, length_permutation, ranks_by}
use Rattle.std.proofs.lemmas.Option.{same_Some}
use Rattle.url.specs.Parts.{Parts}
use Rattle.cookie_words.specs.Moments.{Moment}
use Rattle.cookie_parts.specs.Cookie.{Row}
use Rattle.cookie_laws.specs.Contents.{contents_of}
use Rattle.cookie_laws.specs.Given.{given}
use Rattle.cookie_laws.specs.Header.{creation, header_order, InHeaderOrder}
use Rattle.cookie_laws.specs.Rows.{Key, differ, key_at, key_of, same_key, same_key-true, same_key_equiv}
use Rattle.cookie_lookup.specs.Groups.{AreGroups, ArePaths, Filled, HasDomainAndPath, flat}
use Rattle.cookie_lookup.specs.SearchView.{RowPosition, list_of, rows_at, under}
use Rattle.cookie_rows.specs.HeaderItems.{item_order, items_at}
use Rattle.cookie_rows.specs.Items.{AreItems, Item, ItemGroups, ItemPaths, bare, bare_paths, by_number, groups_in_order, creation_order, numbered, numbered_names, numbered_paths, rows_of}
use Rattle.cookie_rows.proofs.All.{all_append, all_map}
use Rattle.cookie_rows.proofs.Created.{created_once}
use Rattle.cookie_rows.proofs.Eviction.{NumbersRise, numbers_rise}
use Rattle.cookie_rows.proofs.Ordered.{any_ordered}
use Rattle.cookie_rows.proofs.Places.{bare_rows}
use Rattle.cookie_rows.proofs.RankOrder.{in_tests}

-- numbered keys

abbrev Entry : Type 0
Entry = Key × ℕ

-- the keys of entries
abbrev keys_of : List Entry → List Key
keys_of xs = map (λ x. x.0) xs

-- an entry is this one
abbrev is_entry : Entry → Entry → Bool
is_entry x y = same_key x.0 y.0 && nat_eq x.1 y.1

-- the position of a key among those of entries
abbrev place_in : List Entry → Entry → ℕ
place_in xs x = position_or_len (same_key x.0) (keys_of xs)

-- an entry has its number
same_number : (x y : Entry) → is_entry x y ≡ true → x.1 ≡ y.1
same_number x y is = let number : nat_eq x.1 y.1 ≡ true = (and_parts (same_key x.0 y.0) (nat_eq x.1 y.1) is).1 in grind (arith, nat_tests, number)

-- an entry among others with greater numbers has one
above_all : (n : ℕ) (x : Entry) (ys : List Entry) → AllByRecursion (λ y. n < y.1) ys → list_any (is_entry x) ys ≡ true → n < x.1
above_all n x [] above among = absurd (cc)
above_all n x (y ∷ ys) above among = elim (cases_Bool (is_entry x y)) [
  | inl here ↦ let same : x.1 ≡ y.1 = same_number x y here in omega (arith, same, above.0)
  | inr there ↦ above_all n x ys above.1 (grind (arith, among, there))
]

-- its key is among theirs
among_keys : (x : Entry) (ys : List Entry) → list_any (is_entry x) ys ≡ true → list_any (same_key x.0) (keys_of ys) ≡ true
among_keys x [] among = among
among_keys x (y ∷ ys) among = elim (cases_Bool (same_key x.0 y.0)) [
  | inl here ↦ grind (arith, here)
  | inr there ↦ grind (arith, there, among_keys x ys (grind (arith, there, among)))
]

-- if numbers ascend, a key with a smaller or equal number is at no later position
no_later : (xs : List Entry) → NumbersRise xs → differ same_key (keys_of xs) ≡ true → (x y : Entry) → list_any (is_entry x) xs ≡ true → list_any (is_entry y) xs ≡ true
    → x.1 ≤ y.1 → place_in xs x ≤ place_in xs y
no_later [] up d x y p q below = omega arith
no_later (z ∷ zs) up d x y p q below = elim (cases_Bool (same_key x.0 z.0)) [
  | inl here ↦ let first : place_in (z ∷ zs) x ≡ 0 = rw here refl in omega (arith, first)
  | inr behind ↦
      let among : list_any (is_entry x) zs ≡ true = grind (arith, p, behind) in
      elim (cases_Bool (same_key y.0 z.0)) [
        | inl here ↦
            let alone : list_any (same_key z.0) (keys_of zs) ≡ false = grind (arith, d) in
            let not_behind : list_any (is_entry y) zs ≡ false = is_false (list_any (is_entry y) zs) (λ also.
            let other = among_keys y zs also in
            true≢false (sym other ∙ ap (λ k. list_any (same_key k) (keys_of zs)) (same_key-true y.0 z.0 here) ∙ alone)) in
            let is : is_entry y z ≡ true = grind (arith, q, not_behind) in
            absurd (omega (arith, same_number y z is, below, above_all z.1 x zs up.0 among))
        | inr later ↦
            let also : list_any (is_entry y) zs ≡ true = grind (arith, q, later) in
            let rest = no_later zs up.1 (grind (arith, d)) x y among also below in
            let first : place_in (z ∷ zs) x ≡ 1 + place_in zs x = rw behind refl in
            let second : place_in (z ∷ zs) y ≡ 1 + place_in zs y = rw later refl in
            omega (arith, first, second, rest)
      ]
]
  where
    -- a test that cannot pass fails
    is_false : (b : Bool) → (b ≡ true → ⊥) → b ≡ false
    is_false true h = absurd (h refl)
    is_false false h = refl

-- sorting by a view

sorted_map : {A B : Type 0} (see : A → B) (before : B → B → Bool) (xs : List A) → IsSortedBy (λ a b. before (see a) (see b)) xs → IsSortedBy before (map see xs)
sorted_map see before [] up k d low high = absurd (omega (arith, high))
sorted_map see before (x ∷ xs) up k d low high =
    let all = x ∷ xs in
    let within : k + 1 < length all = omega (arith, high, length-map all see) in
    let later = get_or-map see all (k + 1) x d within in
    let earlier = get_or-map see all k x d (omega (arith, within)) in
    (λ i. before (later i) (earlier i)) ∙ up k x low within

-- rows have a total order
item_total : IsTotalOrder item_order
item_total = then_total
    (back_total (on_total (λ (item : Item). length item.row.path.text) nat_cmp_total))
    (on_total (λ (item : Item). item.number) nat_cmp_total)

-- so references to them can be sorted
pub refs_order : IsStrictWeakOrder (λ (a b : Bor Item). is_lt (item_order a.now b.now))
refs_order = ranks_by item_total (λ r. r.now)

-- and then the rows are
pub refs_sorted : (rows : List (Bor Item)) → IsSortedBy (λ a b. is_lt (item_order a.now b.now)) rows → IsSorted item_order (map (λ r. r.now) rows)
refs_sorted rows up = sorted_map (λ (r : Bor Item). r.now) (λ a b. is_lt (item_order a b)) rows up

-- the rows behind references
pub refs_rows : (refs : List (Bor Item)) → map (λ r. r.now.row) refs ≡ rows_of (map (λ r. r.now) refs)
refs_rows [] = refl
refs_rows (r ∷ refs) = ap (λ rows. r.now.row ∷ rows) (refs_rows refs)

-- there are none only where there are no references
pub refs_none : (refs : List (Bor Item)) → map (λ r. r.now) refs ≡ [] → refs ≡ []
refs_none [] none = refl
refs_none (r ∷ refs) none = absurd (cc)

-- rows and their entries

-- the entry of a row
abbrev entry_of : Item → Entry
entry_of item = (key_of item.row, item.number)

-- it is among these
abbrev IsIn : List Entry → Item → Type 0
IsIn entries item = list_any (is_entry (entry_of item)) entries ≡ true

-- an entry is itself
itself : (x : Entry) → is_entry x x ≡ true
itself x = let key : same_key x.0 x.0 ≡ true = same_key_equiv.refl x.0 in grind (arith, nat_tests, key)

-- the row at a place of a group
in_names : (d p : List ℕ) (items : List Item) (n : ℕ) (item : Item) → AllByRecursion (HasDomainAndPath d p) (rows_of items)
    → slice_get items n ≡ Some item → IsIn (numbered_names d p items) item
in_names d p [] n item of there = absurd (cc)
in_names d p (x ∷ xs) zero item of there =
    let same : x ≡ item = same_Some x item there in
    let key : key_of x.row ≡ key_at d p x.row.raw.name = λ i. key_at (of.0.0 i) (of.0.1 i) x.row.raw.name in
    let here : is_entry (entry_of x) (key_at d p x.row.raw.name, x.number) ≡ true = subst (λ k. is_entry (entry_of x) (k, x.number) ≡ true) key (itself (entry_of x)) in
    subst (λ it. IsIn (numbered_names d p (x ∷ xs)) it) same (or_left _ _ here)
in_names d p (x ∷ xs) (suc n) item of there = or_right _ _ (in_names d p xs n item of.1 there)

-- in the groups of a domain
in_paths : (d : List ℕ) (ps : ItemPaths) (m n : ℕ) (item : Item) → Filled d (bare_paths ps)
    → slice_get (under m ps) n ≡ Some item → IsIn (numbered_paths d ps) item
in_paths d [] m n item of there = absurd (cc)
in_paths d (p ∷ ps) zero n item of there =
    list_any-append (is_entry (entry_of item)) (numbered_names d p.0 p.1) (numbered_paths d ps)
    ∙ or_left _ _ (in_names d p.0 p.1 n item of.0.1 there)
in_paths d (p ∷ ps) (suc m) n item of there =
    list_any-append (is_entry (entry_of item)) (numbered_names d p.0 p.1) (numbered_paths d ps)
    ∙ or_right _ _ (in_paths d ps m n item of.1 there)

-- and in all
in_groups : (gs : ItemGroups) (l m n : ℕ) (item : Item) → AllByRecursion (λ g. (0 < length g.1) × ArePaths g.0 g.1) (bare gs)
    → slice_get (under m (under l gs)) n ≡ Some item → IsIn (numbered gs) item
in_groups [] l m n item of there = absurd (cc)
in_groups (g ∷ gs) zero m n item of there =
    list_any-append (is_entry (entry_of item)) (numbered_paths g.0 g.1) (numbered gs)
    ∙ or_left _ _ (in_paths g.0 g.1 m n item of.0.1.1 there)
in_groups (g ∷ gs) (suc l) m n item of there =
    list_any-append (is_entry (entry_of item)) (numbered_paths g.0 g.1) (numbered gs)
    ∙ or_right _ _ (in_groups gs l m n item of.1 there)

module _ (gs : ItemGroups) where
  -- P holds of the row at a position, if there is one
  known : (P : Item → Type 0) (there : Option Item) → ((item : Item) → there ≡ Some item → P item) → AllByRecursion P (list_of there)
  known P None holds = tt
  known P (Some item) holds = (holds item refl, tt)

  -- the rows at positions are among the numbered ones
  all_in : AllByRecursion (λ g. (0 < length g.1) × ArePaths g.0 g.1) (bare gs) → (positions : List RowPosition) → AllByRecursion (IsIn (numbered gs)) (flat_map (items_at gs) positions)
  all_in of [] = tt
  all_in of (s ∷ positions) =
      all_append (IsIn (numbered gs)) (items_at gs s) (flat_map (items_at gs) positions)
      (known (IsIn (numbered gs)) (slice_get (under s.1 (under s.0 gs)) s.2) (λ item there. in_groups gs s.0 s.1 s.2 item of there))
      (all_in of positions)

  -- the rows at a position
  rows_known : (items : List Item) (n : ℕ) → rows_of (list_of (slice_get items n)) ≡ list_of (slice_get (rows_of items) n)
  rows_known [] n = refl
  rows_known (item ∷ items) zero = refl
  rows_known (item ∷ items) (suc n) = rows_known items n

  -- the rows at positions
  rows_at_positions : (positions : List RowPosition) → rows_of (flat_map (items_at gs) positions) ≡ flat_map (rows_at (bare gs)) positions
  rows_at_positions [] = refl
  rows_at_positions (s ∷ positions) =
      map-append (λ (item : Item). item.row) (items_at gs s) (flat_map (items_at gs) positions)
      ∙ ap (λ rows. rows ++ rows_of (flat_map (items_at gs) positions))
      (rows_known (under s.1 (under s.0 gs)) s.2 ∙ ap (λ rows. list_of (slice_get rows s.2)) (bare_rows s.0 s.1 gs))
      ∙ ap (λ rows. list_of (slice_get (under s.1 (under s.0 (bare gs))) s.2) ++ rows) (rows_at_positions positions)

module _ (gs : ItemGroups) where
  -- of rows that are in the order of their numbers no later one was created first
  in_creation_order : (n : ℕ) → AreItems n gs → (a b : Item) → IsIn (numbered gs) a → IsIn (numbered gs) b
      → is_lt (item_order b a) ≡ false → is_lt (header_order (creation_order gs) b.row a.row) ≡ false
  in_creation_order n are a b p q up =
      let created = by_number (numbered gs) in
      let la : ℕ = length a.row.path.text in
      let lb : ℕ = length b.row.path.text in
      let differs = (created_once n gs are).1 in
      let later : a.number ≤ b.number → creation (creation_order gs) a.row ≤ creation (creation_order gs) b.row =
      no_later created (numbers_rise (numbered gs) are.3) differs (entry_of a) (entry_of b)
      (any_ordered (is_entry (entry_of a)) (numbered gs) ∙ p) (any_ordered (is_entry (entry_of b)) (numbered gs) ∙ q) in
      let tests = sym (in_tests (ltb la lb) (eqb la lb) (ltb b.number a.number) (eqb b.number a.number)) ∙ up in
      in_tests (ltb la lb) (eqb la lb) (ltb (creation (creation_order gs) b.row) (creation (creation_order gs) a.row)) (eqb (creation (creation_order gs) b.row) (creation (creation_order gs) a.row))
      ∙ ordered la lb a.number b.number (creation (creation_order gs) a.row) (creation (creation_order gs) b.row) later tests
    where
      -- so no test of creation order passes if no number does
      ordered : (la lb m n i j : ℕ) → (m ≤ n → i ≤ j) → (ltb la lb || (eqb la lb && ltb n m)) ≡ false → (ltb la lb || (eqb la lb && ltb j i)) ≡ false
      ordered la lb m n i j later tests = elim (cases_Bool (eqb la lb)) [
        | inl same ↦
            let below : m ≤ n = grind (arith, nat_tests, tests, same) in
            let earlier : i ≤ j = later below in
            grind (arith, nat_tests, tests, same, earlier)
        | inr other ↦ grind (arith, tests, other)
      ]

  -- sorted rows are in the order of the header
  rows_sorted : (n : ℕ) → AreItems n gs → (items : List Item) → All (IsIn (numbered gs)) items → IsSorted item_order items
      → IsSorted (header_order (creation_order gs)) (rows_of items)
  rows_sorted n are items among up = sorted_map (λ (item : Item). item.row) (λ a b. is_lt (header_order (creation_order gs) a b)) items (λ k d low high.
      in_creation_order n are (get_or items k d) (get_or items (k + 1) d)
      (All-get_or (IsIn (numbered gs)) items k d (omega (arith, high)) among)
      (All-get_or (IsIn (numbered gs)) items (k + 1) d high among)
      (up k d low high))

  -- what is sorted of the rows that are given is in the order of the header, in whatever order the groups are stored
  pub sorted_in_order : (n : ℕ) → AreItems n gs → (url : Parts) (now : Moment)
      → (others : ItemGroups) → ((test : Entry → Bool) → list_any test (numbered gs) ≡ list_any test (numbered others)) → AreGroups (bare others)
      → (positions : List RowPosition) → IsPermutation (given url now (flat (bare gs))) (flat_map (rows_at (bare others)) positions)
      → (items sorted : List Item) → items ≡ flat_map (items_at others) positions
      → IsPermutation items sorted → IsSorted item_order sorted
      → InHeaderOrder url now (contents_of (groups_in_order gs) None None) (rows_of sorted)
  sorted_in_order n are url now others same of positions given_in_order items sorted found sorting up =
      let asked = given url now (flat (bare gs)) in
      let all : flat_map (rows_at (bare others)) positions ≡ rows_of items = sym (ap rows_of found ∙ rows_at_positions others positions) in
      let among = subst (AllByRecursion (IsIn (numbered gs))) (sym found)
      (all_map (IsIn (numbered others)) (IsIn (numbered gs)) (λ item is. same (is_entry (entry_of item)) ∙ is) (flat_map (items_at others) positions) (all_in others of.1 positions)) in (
        IsPermutation-trans asked (rows_of items) (rows_of sorted) (subst (IsPermutation asked) all given_in_order)
            (IsPermutation-map (λ (item : Item). item.row) items sorted sorting),
        rows_sorted n are sorted (All-permutation (IsIn (numbered gs)) items sorted sorting (All-from_recursion (IsIn (numbered gs)) items among)) up,
      )

  -- the list is empty only if no row is given
  pub sorted_some : (asked : List Row) (sorted : List Item) → IsPermutation asked (rows_of sorted) → asked ≡ [] → sorted ≡ []
  sorted_some asked sorted moved none =
      nil_from_length sorted (sym (length-map sorted (λ item. item.row)) ∙ length_permutation asked (rows_of sorted) moved ∙ ap length none)
