-- Ranks in eviction order: a sorted list of ranks is their ascending list, and which entries come before the
-- first rank that survives.
use Rattle.std.proofs.Common.{◌≡◌, ℕ, zero, suc, ◌+◌, ◌<◌, ◌≤◌, Bool, true, false, cond, not, ◌&&◌, ◌||◌, eqb, ltb, List, [], ◌∷◌, ◌++◌, length, map, take, get_or, slice_get, Some, refl, sym, ◌∙◌, ap, subst, inl, inr, arith, is_lt, IsPermutation, IsSorted}
use Rattle.std.specs.Ordering.{ordering_then}
use Rattle.std.specs.declared.cmp.Ordering.TheVariants.{Less, Equal, Greater}
use Rattle.std.specs.Cmp.{IsTotalOrder, IsStrictWeakOrder}
use Rattle.std.specs.List.{AllByRecursion, list_any, sum_by}
use Rattle.std.proofs.lemmas.Bool.{and_parts, cases_Bool, eq-eqb, or_parts, or_left, not-true, ltb-false, lt-ltb}
use Rattle.std.proofs.lemmas.Cmp.{nat_cmp_total, then_total, on_total, tied_itself}
use Rattle.std.proofs.lemmas.List.Sorted.{ranks_by, sorted_far, sum_by-IsPermutation}
use Rattle.std.proofs.lemmas.List.Sums.{sum_by-cons}
use Rattle.std.proofs.lemmas.Option.{same_Some}
use Rattle.cookie_laws.specs.Rows.{Key, same_key, same_key_equiv, differ}
use Rattle.cookie_rows.specs.Eviction.{EvictionRank, rank_cmp, comes_before}
use Rattle.cookie_rows.proofs.All.{all_both, all_map, all_parts, all_to_map}

-- which of two ranks comes first

-- ranks have a total order
pub ranks_total : IsTotalOrder rank_cmp
ranks_total = then_total (on_total (λ (t : EvictionRank). t.0) nat_cmp_total) (on_total (λ (t : EvictionRank). t.1) nat_cmp_total)

-- so they can be sorted
pub ranks_order : IsStrictWeakOrder comes_before
ranks_order = ranks_by ranks_total (λ t. t)

-- no rank comes before itself
pub not_before_itself : (a : EvictionRank) → comes_before a a ≡ false
not_before_itself a = ap is_lt (tied_itself ranks_total a)

-- the two comparisons as tests
pub in_tests : (x d y e : Bool) → is_lt (ordering_then (cond x Less (cond d Equal Greater)) (cond y Less (cond e Equal Greater))) ≡ (x || (d && y))
in_tests true d y e = refl
in_tests false true true e = refl
in_tests false true false true = refl
in_tests false true false false = refl
in_tests false false y e = refl

-- a rank comes before another by its class, and in the same class by its number
pub before_tests : (a b : EvictionRank) → comes_before a b ≡ (ltb a.0 b.0 || (eqb a.0 b.0 && ltb a.1 b.1))
before_tests a b = in_tests (ltb a.0 b.0) (eqb a.0 b.0) (ltb a.1 b.1) (eqb a.1 b.1)

-- a rank comes before one of a higher class
pub before_apart : (a b : EvictionRank) → a.0 < b.0 → comes_before a b ≡ true
before_apart a b l = before_tests a b ∙ or_left (ltb a.0 b.0) (eqb a.0 b.0 && ltb a.1 b.1) (lt-ltb a.0 b.0 l)

-- a rank comes before one of a class as high and of a greater number
pub before_within : (a b : EvictionRank) → a.0 ≤ b.0 → a.1 < b.1 → comes_before a b ≡ true
before_within a b l m = elim (cases_Bool (ltb a.0 b.0)) [
  | inl e ↦ before_tests a b ∙ or_left (ltb a.0 b.0) (eqb a.0 b.0 && ltb a.1 b.1) e
  | inr e ↦
      let same : a.0 ≡ b.0 = omega (arith, l, ltb-false a.0 b.0 e) in
      before_tests a b ∙ passes (ltb a.0 b.0) (eqb a.0 b.0) (ltb a.1 b.1) (eq-eqb a.0 b.0 same) (lt-ltb a.1 b.1 m)
]
  where
    -- the cases of the test
    passes : (x d y : Bool) → d ≡ true → y ≡ true → (x || (d && y)) ≡ true
    passes true d y f h = refl
    passes false d y f h = rw (f, h) refl

-- ranks of which neither comes before the other are the same
pub neither_before : (a b : EvictionRank) → comes_before a b ≡ false → comes_before b a ≡ false → a ≡ b
neither_before a b h k =
    let first = or_parts (ltb a.0 b.0) (eqb a.0 b.0 && ltb a.1 b.1) (sym (before_tests a b) ∙ h) in
    let second = or_parts (ltb b.0 a.0) (eqb b.0 a.0 && ltb b.1 a.1) (sym (before_tests b a) ∙ k) in
    let class : a.0 ≡ b.0 = omega (arith, ltb-false a.0 b.0 first.0, ltb-false b.0 a.0 second.0) in
    let less = fails (eqb a.0 b.0) (ltb a.1 b.1) (eq-eqb a.0 b.0 class) first.1 in
    let more = fails (eqb b.0 a.0) (ltb b.1 a.1) (eq-eqb b.0 a.0 (sym class)) second.1 in
    let number : a.1 ≡ b.1 = omega (arith, ltb-false a.1 b.1 less, ltb-false b.1 a.1 more) in
    λ i. (class i, number i)
  where
    -- neither number is smaller
    fails : (d y : Bool) → d ≡ true → (d && y) ≡ false → y ≡ false
    fails true y e h = h
    fails false y e h = absurd (cc)

-- ascending ranks

-- no rank comes before an earlier one
abbrev pub Ascends : List EvictionRank → Type 0
Ascends [] = Unit {0}
Ascends (x ∷ xs) = AllByRecursion (λ y. comes_before y x ≡ false) xs × Ascends xs

-- what holds at each place holds of all
pub all_by_index : (P : EvictionRank → Type 0) (xs : List EvictionRank) → ((j : ℕ) (d : EvictionRank) → j < length xs → P (get_or xs j d)) → AllByRecursion P xs
all_by_index P [] h = tt
all_by_index P (x ∷ xs) h = (h 0 x (omega arith), all_by_index P xs (λ j d l. h (suc j) d (omega arith)))

-- ranks ascend if none comes before one at an earlier position
ascends_by_index : (xs : List EvictionRank) → ((i j : ℕ) (d : EvictionRank) → i ≤ j → j < length xs → comes_before (get_or xs j d) (get_or xs i d) ≡ false) → Ascends xs
ascends_by_index [] h = tt
ascends_by_index (x ∷ xs) h = (
  all_by_index (λ y. comes_before y x ≡ false) xs (λ j d l. h 0 (suc j) d (omega arith) (omega arith)),
  ascends_by_index xs (λ i j d l m. h (suc i) (suc j) d (omega arith) (omega arith)),
)

-- sorted ranks ascend
ascends_sorted : (xs : List EvictionRank) → IsSorted rank_cmp xs → Ascends xs
ascends_sorted xs up = ascends_by_index xs (λ i j d l m. sorted_far comes_before ranks_order xs up i j d l m)

-- lists of the same ranks

-- each function has the same sum over both
abbrev pub SameSums : List EvictionRank → List EvictionRank → Type 0
SameSums xs ys = (f : EvictionRank → ℕ) → sum_by f xs ≡ sum_by f ys

-- the ranks that come before x are none
none_before : (x : EvictionRank) (xs : List EvictionRank) → AllByRecursion (λ y. comes_before y x ≡ false) xs → sum_by (λ y. cond (comes_before y x) 1 0) xs ≡ 0
none_before x [] h = refl
none_before x (y ∷ ys) h = sum_by-cons (λ y. cond (comes_before y x) 1 0) y ys ∙ rw (h.0, none_before x ys h.1) (omega arith)

-- the first rank of an ascending list is the least of all
first_is_least : (x y : EvictionRank) (xs ys : List EvictionRank) → SameSums (x ∷ xs) (y ∷ ys) → Ascends (x ∷ xs) → comes_before y x ≡ false
first_is_least x y xs ys s a =
    let f : EvictionRank → ℕ = λ z. cond (comes_before z x) 1 0 in
    let none : sum_by f (x ∷ xs) ≡ 0 = none_before x (x ∷ xs) (not_before_itself x, a.0) in
    let parts : sum_by f (y ∷ ys) ≡ cond (comes_before y x) 1 0 + sum_by f ys = sum_by-cons f y ys in
    let same = s f in
    let zero_it : cond {A = ℕ} (comes_before y x) 1 0 ≡ 0 = omega (arith, none, parts, same) in
    is_false (comes_before y x) zero_it
  where
    -- what counts nothing is false
    is_false : (b : Bool) → cond {A = ℕ} b 1 0 ≡ 0 → b ≡ false
    is_false true h = absurd (omega arith)
    is_false false h = refl

-- two ascending lists of the same ranks are one
ascending_same : (xs ys : List EvictionRank) → SameSums xs ys → Ascends xs → Ascends ys → xs ≡ ys
ascending_same [] [] s a b = refl
ascending_same [] (y ∷ ys) s a b = absurd (omega (arith, s (λ _. 1), sum_by-cons (λ (_ : EvictionRank). 1) y ys))
ascending_same (x ∷ xs) [] s a b = absurd (omega (arith, s (λ _. 1), sum_by-cons (λ (_ : EvictionRank). 1) x xs))
ascending_same (x ∷ xs) (y ∷ ys) s a b =
    let same : x ≡ y = neither_before x y (first_is_least y x ys xs (λ f. sym (s f)) b) (first_is_least x y xs ys s a) in
    let rest : xs ≡ ys = ascending_same xs ys
    (λ f. omega (arith, s f, sum_by-cons f x xs, sum_by-cons f y ys, ap f same)) a.1 b.1 in
    rw (same, rest) refl

-- a sort of a list of the same ranks as an ascending one
pub sorted_is : (unsorted sorted all : List EvictionRank) → SameSums unsorted all → Ascends all → IsPermutation unsorted sorted → IsSorted rank_cmp sorted → sorted ≡ all
sorted_is unsorted sorted all s a p up =
    ascending_same sorted all (λ f. sum_by-IsPermutation f unsorted sorted p ∙ s f) (ascends_sorted sorted up) a

-- entries in their ranks

-- each entry's rank comes before those of all later ones
abbrev pub Rises : (Key × ℕ → EvictionRank) → List (Key × ℕ) → Type 0
Rises t [] = Unit {0}
Rises t (e ∷ es) = AllByRecursion (λ f. comes_before (t e) (t f) ≡ true) es × Rises t es

-- entries among whose keys this one is not have other keys
other_keys : (key : Key) (es : List (Key × ℕ)) → list_any (same_key key) (map (λ e. e.0) es) ≡ false → AllByRecursion (λ e. same_key e.0 key ≡ false) es
other_keys key [] n = tt
other_keys key (e ∷ es) n =
    let parts = or_parts (same_key key e.0) (list_any (same_key key) (map (λ f. f.0) es)) n in
    (same_key_equiv.symm e.0 key ∙ parts.0, other_keys key es parts.1)

-- the ranks of entries, and a new one between those of the first and those of the others
module _ (t : Key × ℕ → EvictionRank) (new : EvictionRank) where
  -- what holds of the ranks of all entries and of the new one holds of all ranks
  all_ranks : (P : EvictionRank → Type 0) (front back : List (Key × ℕ)) → AllByRecursion (λ e. P (t e)) front → P new → AllByRecursion (λ e. P (t e)) back → AllByRecursion P (map t front ++ new ∷ map t back)
  all_ranks P [] back a p b = (p, all_to_map t P back b)
  all_ranks P (e ∷ front) back a p b = (a.0, all_ranks P front back a.1 p b)

  -- what holds of the ranks in front and of the new one holds of the one at each place so far
  pub rank_at_place : (P : EvictionRank → Type 0) (front back : List (Key × ℕ)) (k : ℕ) (first : EvictionRank) → k ≤ length front → AllByRecursion (λ e. P (t e)) front → P new → slice_get (map t front ++ new ∷ map t back) k ≡ Some first → P first
  rank_at_place P [] back zero first l a p h = subst P (same_Some new first h) p
  rank_at_place P [] back (suc k) first l a p h = absurd (omega (arith, l))
  rank_at_place P (e ∷ front) back zero first l a p h = subst P (same_Some (t e) first h) a.0
  rank_at_place P (e ∷ front) back (suc k) first l a p h = rank_at_place P front back k first (omega (arith, l)) a.1 p h

  -- ranks that rise ascend
  ascends_rise : (es : List (Key × ℕ)) → Rises t es → Ascends (map t es)
  ascends_rise [] r = tt
  ascends_rise (e ∷ es) r = (
    all_to_map t (λ y. comes_before y (t e) ≡ false) es
        (all_map (λ f. comes_before (t e) (t f) ≡ true) (λ f. comes_before (t f) (t e) ≡ false) (λ f h. ranks_order.one_way (t e) (t f) h) es r.0),
    ascends_rise es r.1,
  )

  -- and do so with the new one, if those in front come before it, and it before the others
  pub ascends_ranks : (front back : List (Key × ℕ)) → Rises t (front ++ back) → AllByRecursion (λ e. comes_before (t e) new ≡ true) front → AllByRecursion (λ e. comes_before new (t e) ≡ true) back → Ascends (map t front ++ new ∷ map t back)
  ascends_ranks [] back r l m = (
    all_to_map t (λ y. comes_before y new ≡ false) back
        (all_map (λ f. comes_before new (t f) ≡ true) (λ f. comes_before (t f) new ≡ false) (λ f h. ranks_order.one_way new (t f) h) back m),
    ascends_rise back r,
  )
  ascends_ranks (e ∷ front) back r l m =
      let behind = all_map (λ f. comes_before (t e) (t f) ≡ true) (λ f. comes_before (t f) (t e) ≡ false) (λ f h. ranks_order.one_way (t e) (t f) h) (front ++ back) r.0 in
      let parts = all_parts (λ f. comes_before (t f) (t e) ≡ false) front back behind in (
        all_ranks (λ y. comes_before y (t e) ≡ false) front back parts.0 (ranks_order.one_way (t e) new l.0) parts.1,
        ascends_ranks front back r.1 l.1 m,
      )

  -- if the first entry survives, no rank comes before its own
  first_stays : (e : Key × ℕ) (es : List (Key × ℕ)) → AllByRecursion (λ f. comes_before (t e) (t f) ≡ true) es → AllByRecursion (λ f. false ≡ comes_before (t f) (t e)) (e ∷ es)
  first_stays e es r = (
    sym (not_before_itself (t e)),
    all_map (λ f. comes_before (t e) (t f) ≡ true) (λ f. false ≡ comes_before (t f) (t e)) (λ f h. sym (ranks_order.one_way (t e) (t f) h)) es r,
  )

  -- if it is evicted, entries of other keys are evicted or survive as they would without it
  first_leaves : (e : Key × ℕ) (es : List (Key × ℕ)) (keys : List Key) (first : EvictionRank) → AllByRecursion (λ f. same_key f.0 e.0 ≡ false) es
      → AllByRecursion (λ f. list_any (same_key f.0) keys ≡ comes_before (t f) first) es → AllByRecursion (λ f. list_any (same_key f.0) (e.0 ∷ keys) ≡ comes_before (t f) first) es
  first_leaves e es keys first o a =
      all_both (λ f. same_key f.0 e.0 ≡ false) (λ f. list_any (same_key f.0) keys ≡ comes_before (t f) first) (λ f. list_any (same_key f.0) (e.0 ∷ keys) ≡ comes_before (t f) first)
      (λ f h k. passed_over (same_key f.0 e.0) (list_any (same_key f.0) keys) (comes_before (t f) first) h k) es o a
    where
      -- an item that does not pass does not matter
      passed_over : (b c d : Bool) → b ≡ false → c ≡ d → (b || c) ≡ d
      passed_over b c d h k = rw h k

  -- of entries whose keys differ and whose ranks rise, those in front before the new one and the others after it, the keys
  -- of the first k in front are those of the entries whose ranks come before the one at k
  pub leaves_before : (front back : List (Key × ℕ)) → Rises t (front ++ back) → differ same_key (map (λ e. e.0) (front ++ back)) ≡ true
      → AllByRecursion (λ e. comes_before (t e) new ≡ true) front → AllByRecursion (λ e. comes_before new (t e) ≡ true) back
      → (k : ℕ) (first : EvictionRank) → k ≤ length front → slice_get (map t front ++ new ∷ map t back) k ≡ Some first
      → AllByRecursion (λ e. list_any (same_key e.0) (map (λ f. f.0) (take k (front ++ back))) ≡ comes_before (t e) first) (front ++ back)
  leaves_before [] back r d l m zero first few h =
      all_map (λ f. comes_before new (t f) ≡ true) (λ f. false ≡ comes_before (t f) first)
      (λ f w. subst (λ x. false ≡ comes_before (t f) x) (same_Some new first h) (sym (ranks_order.one_way new (t f) w))) back m
  leaves_before [] back r d l m (suc k) first few h = absurd (omega (arith, few))
  leaves_before (e ∷ front) back r d l m zero first few h =
      subst (λ x. AllByRecursion (λ f. false ≡ comes_before (t f) x) (e ∷ (front ++ back))) (same_Some (t e) first h) (first_stays e (front ++ back) r.0)
  leaves_before (e ∷ front) back r d l m (suc k) first few h =
      let es = front ++ back in
      let keys = map (λ (f : Key × ℕ). f.0) (take k es) in
      let parts = and_parts (not (list_any (same_key e.0) (map (λ f. f.0) es))) (differ same_key (map (λ f. f.0) es)) d in
      let less : k ≤ length front = omega (arith, few) in
      let others = all_parts (λ f. comes_before (t e) (t f) ≡ true) front back r.0 in
      let leaves : comes_before (t e) first ≡ true = rank_at_place (λ x. comes_before (t e) x ≡ true) front back k first less others.0 l.0 h in (
        or_left (same_key e.0 e.0) (list_any (same_key e.0) keys) (same_key_equiv.refl e.0) ∙ sym leaves,
        first_leaves e es keys first (other_keys e.0 es (not-true _ parts.0)) (leaves_before front back r.1 parts.1 l.1 m k first less h),
      )
