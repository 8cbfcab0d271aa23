-- Keys in the order of their numbers, and in eviction order.
use Rattle.std.proofs.Common.{◌≡◌, ℕ, zero, suc, ◌+◌, ◌-◌, ◌<◌, ◌≤◌, true, false, not, List, [], ◌∷◌, ◌++◌, length, map, filter, take, slice_get, Some, refl, sym, ◌∙◌, ap, subst, inl, inr, append-nil, arith, length-append, IsPermutation, IsSorted}
use Rattle.std.specs.Prelude.{◌⊎◌, nat_eq, nat_le}
use Rattle.std.specs.List.{AllByRecursion, list_any}
use Rattle.std.proofs.lemmas.Bool.{and_parts, or_parts, not-true, cases_Bool, cond_both, leb-true, leb-false, eqb-false, eqb-true}
use Rattle.std.proofs.lemmas.List.{length-map, length_push, map-append, take-map}
use Rattle.std.proofs.lemmas.List.Elements.{filter_passes, recursion_from_All}
use Rattle.std.proofs.lemmas.List.Sorted.{IsPermutation-refl, IsPermutation-sym, IsPermutation-trans, IsPermutation-cons, IsPermutation-middle, IsPermutation-map, IsPermutation-append_comm, IsPermutation-append_left, length_permutation, sum_by-IsPermutation}
use Rattle.cookie_laws.specs.Rows.{Key, same_key, same_key_equiv, differ}
use Rattle.cookie_rows.specs.Items.{place, by_number}
use Rattle.cookie_rows.specs.Eviction.{EvictionRank, rank_cmp, comes_before}
use Rattle.cookie_rows.proofs.AfterLast.{list_any-map}
use Rattle.cookie_rows.proofs.All.{all_any, all_append, all_both, all_map, all_moved, all_parts}
use Rattle.cookie_rows.proofs.Leaves.{all_leaves, leaves_filter}
use Rattle.cookie_rows.proofs.Ordered.{all_place, any_ordered, differ_moved, ordered_moved}
use Rattle.cookie_rows.proofs.RankOrder.{Rises, ascends_ranks, before_apart, before_within, leaves_before, not_before_itself, rank_at_place, ranks_order, sorted_is}

-- numbers that differ

-- each number is below those of all later ones
abbrev pub NumbersRise : List (Key × ℕ) → Type 0
NumbersRise [] = Unit {0}
NumbersRise (x ∷ xs) = AllByRecursion (λ y. x.1 < y.1) xs × NumbersRise xs

-- a key of another number in its place leaves numbers that rise
rise_place : (x : Key × ℕ) (zs : List (Key × ℕ)) → list_any (λ y. nat_eq x.1 y.1) zs ≡ false → NumbersRise zs → NumbersRise (place x zs)
rise_place x [] n r = (tt, tt)
rise_place x (z ∷ zs) n r =
    let parts = or_parts (nat_eq x.1 z.1) (list_any (λ y. nat_eq x.1 y.1) zs) n in
    elim (cases_Bool (nat_le x.1 z.1)) [
      | inl e ↦
          let l : x.1 < z.1 = omega (arith, leb-true x.1 z.1 e, eqb-false x.1 z.1 parts.0) in
          rw e ((l, all_map (λ y. z.1 < y.1) (λ y. x.1 < y.1) (λ y h. omega (arith, l, h)) zs r.0), r)
      | inr e ↦
          let l : z.1 < x.1 = leb-false x.1 z.1 e in
          rw e (all_place (λ y. z.1 < y.1) x zs l r.0, rise_place x zs parts.1 r.1)
    ]

-- numbers that differ rise in order
pub numbers_rise : (xs : List (Key × ℕ)) → differ nat_eq (map (λ x. x.1) xs) ≡ true → NumbersRise (by_number xs)
numbers_rise [] d = tt
numbers_rise (x ∷ xs) d =
    let parts = and_parts (not (list_any (nat_eq x.1) (map (λ y. y.1) xs))) (differ nat_eq (map (λ y. y.1) xs)) d in
    let none : list_any (λ (y : Key × ℕ). nat_eq x.1 y.1) (by_number xs) ≡ false = any_ordered (λ y. nat_eq x.1 y.1) xs ∙ sym (list_any-map (λ y. y.1) (nat_eq x.1) xs) ∙ not-true _ parts.0 in
    rise_place x (by_number xs) none (numbers_rise xs parts.1)

-- ranks

-- ranks that rise in two lists rise in them joined, if those of the first come before those of the second
rises_joined : (t : Key × ℕ → EvictionRank) (P Q : Key × ℕ → Type 0) → ((x y : Key × ℕ) → P x → Q y → comes_before (t x) (t y) ≡ true) → (xs ys : List (Key × ℕ))
    → AllByRecursion P xs → AllByRecursion Q ys → Rises t xs → Rises t ys → Rises t (xs ++ ys)
rises_joined t P Q w [] ys p q a b = b
rises_joined t P Q w (x ∷ xs) ys p q a b = (
  all_append (λ y. comes_before (t x) (t y) ≡ true) xs ys a.0 (all_map Q (λ y. comes_before (t x) (t y) ≡ true) (λ y h. w x y p.0 h) ys q),
  rises_joined t P Q w xs ys p.1 q a.1 b,
)

-- classes

-- the items of a class
abbrev pub in_class : {T : Type 0} → (T → ℕ) → ℕ → List T → List T
in_class cls k xs = filter (λ x. nat_eq (cls x) k) xs

-- those of the classes 0, 1 and 2
abbrev pub by_class : {T : Type 0} → (T → ℕ) → List T → List T
by_class cls xs = in_class cls 0 xs ++ in_class cls 1 xs ++ in_class cls 2 xs

module _ {T : Type 0} (cls : T → ℕ) where
  -- if there are no other classes, these are the same items
  pub classes_moved : ((x : T) → cls x ≤ 2) → (xs : List T) → IsPermutation xs (by_class cls xs)
  classes_moved few [] = IsPermutation-refl []
  classes_moved few (x ∷ xs) =
      let a = in_class cls 0 xs in
      let b = in_class cls 1 xs in
      let c = in_class cls 2 xs in
      let rest : IsPermutation (x ∷ xs) (x ∷ (a ++ b ++ c)) = IsPermutation-cons x xs (a ++ b ++ c) (classes_moved few xs) in
      elim (one_class (cls x) (few x)) [
        | inl e ↦ rw (e.0, e.1, e.2) rest
        | inr (inl e) ↦
            let middle = IsPermutation-append_left c (x ∷ (a ++ b)) (a ++ x ∷ b) (IsPermutation-sym (a ++ x ∷ b) (x ∷ (a ++ b)) (IsPermutation-middle a x b)) in
            rw (e.0, e.1, e.2) (IsPermutation-trans (x ∷ xs) (x ∷ (a ++ b ++ c)) ((a ++ x ∷ b) ++ c) rest middle)
        | inr (inr e) ↦
            let last = IsPermutation-sym ((a ++ b) ++ x ∷ c) (x ∷ ((a ++ b) ++ c)) (IsPermutation-middle (a ++ b) x c) in
            rw (e.0, e.1, e.2) (IsPermutation-trans (x ∷ xs) (x ∷ (a ++ b ++ c)) ((a ++ b) ++ x ∷ c) rest last)
      ]
    where
      -- which of the classes it is
      one_class : (n : ℕ) → n ≤ 2 → ((nat_eq n 0 ≡ true) × (nat_eq n 1 ≡ false) × (nat_eq n 2 ≡ false))
          ⊎ (((nat_eq n 0 ≡ false) × (nat_eq n 1 ≡ true) × (nat_eq n 2 ≡ false)) ⊎ ((nat_eq n 0 ≡ false) × (nat_eq n 1 ≡ false) × (nat_eq n 2 ≡ true)))
      one_class zero l = inl (refl, refl, refl)
      one_class (suc zero) l = inr (inl (refl, refl, refl))
      one_class (suc (suc zero)) l = inr (inr (refl, refl, refl))
      one_class (suc (suc (suc n))) l = absurd (omega (arith, l))

  -- those of a class are of that class
  of_class : (k : ℕ) (xs : List T) → AllByRecursion (λ x. cls x ≡ k) (in_class cls k xs)
  of_class k xs = all_map (λ x. nat_eq (cls x) k ≡ true) (λ x. cls x ≡ k) (λ x h. eqb-true (cls x) k h) (in_class cls k xs) (recursion_from_All (λ x. nat_eq (cls x) k ≡ true) (in_class cls k xs) (filter_passes (λ x. nat_eq (cls x) k) xs))

-- entries of which `front` come before a new one of this class and the others after it, if at most `count` of them leave
pub record SplitsAround (cls : Key × ℕ → ℕ) (xs : List (Key × ℕ)) (class count : ℕ) : Type 0 where
  pub front : List (Key × ℕ)
  pub back : List (Key × ℕ)
  pub both : front ++ back ≡ by_class cls (by_number xs)
  pub before : AllByRecursion (λ e. cls e ≤ class) front
  pub after : AllByRecursion (λ e. class < cls e) back
  pub enough : count ≤ length front

module _ (cls : Key × ℕ → ℕ) where
  -- the rank of an entry
  abbrev pub entry_rank : Key × ℕ → EvictionRank
  entry_rank e = (cls e, e.1)

  -- entries in eviction order: by class, in each class by number
  abbrev pub in_eviction_order : List (Key × ℕ) → List (Key × ℕ)
  in_eviction_order xs = by_class cls (by_number xs)

  -- of entries whose numbers rise, those of a class have rising ranks
  rises_class : (k : ℕ) (zs : List (Key × ℕ)) → NumbersRise zs → Rises entry_rank (in_class cls k zs)
  rises_class k [] r = tt
  rises_class k (z ∷ zs) r =
      cond_both (nat_eq (cls z) k) (z ∷ in_class cls k zs) (in_class cls k zs) (Rises entry_rank)
      (λ h. (
        all_both (λ f. z.1 < f.1) (λ f. cls f ≡ k) (λ f. comes_before (entry_rank z) (entry_rank f) ≡ true)
            (λ f l same. before_within (entry_rank z) (entry_rank f) (omega (arith, eqb-true (cls z) k h, same)) l)
            (in_class cls k zs) (all_leaves (λ f. z.1 < f.1) zs (in_class cls k zs) (leaves_filter (λ e. nat_eq (cls e) k) zs) r.0) (of_class cls k zs),
        rises_class k zs r.1,
      ))
      (λ _. rises_class k zs r.1)

  -- the entries of the classes 0 and 1 are of these
  low_classes : (zs : List (Key × ℕ)) → AllByRecursion (λ e. cls e ≤ 1) (in_class cls 0 zs ++ in_class cls 1 zs)
  low_classes zs =
      all_append (λ e. cls e ≤ 1) (in_class cls 0 zs) (in_class cls 1 zs)
      (all_map (λ e. cls e ≡ 0) (λ e. cls e ≤ 1) (λ e h. omega (arith, h)) (in_class cls 0 zs) (of_class cls 0 zs))
      (all_map (λ e. cls e ≡ 1) (λ e. cls e ≤ 1) (λ e h. omega (arith, h)) (in_class cls 1 zs) (of_class cls 1 zs))

  -- entries whose numbers differ have rising ranks
  pub ranks_rise : (xs : List (Key × ℕ)) → differ nat_eq (map (λ x. x.1) xs) ≡ true → Rises entry_rank (in_eviction_order xs)
  ranks_rise xs d =
      let zs = by_number xs in
      let r = numbers_rise xs d in
      let low = rises_joined entry_rank (λ e. cls e ≡ 0) (λ e. cls e ≡ 1) (λ x y h k. before_apart (entry_rank x) (entry_rank y) (omega (arith, h, k)))
      (in_class cls 0 zs) (in_class cls 1 zs) (of_class cls 0 zs) (of_class cls 1 zs) (rises_class 0 zs r) (rises_class 1 zs r) in
      rises_joined entry_rank (λ e. cls e ≤ 1) (λ e. cls e ≡ 2) (λ x y h k. before_apart (entry_rank x) (entry_rank y) (omega (arith, h, k)))
      (in_class cls 0 zs ++ in_class cls 1 zs) (in_class cls 2 zs) (low_classes zs) (of_class cls 2 zs) low (rises_class 2 zs r)

  module _ (few : (e : Key × ℕ) → cls e ≤ 2) where
    -- they are the same entries
    pub turned : (xs : List (Key × ℕ)) → IsPermutation xs (in_eviction_order xs)
    turned xs = IsPermutation-trans xs (by_number xs) (in_eviction_order xs) (ordered_moved xs) (classes_moved cls few (by_number xs))

    -- entries whose keys differ do so in their ranks
    pub keys_in_eviction_order : (xs : List (Key × ℕ)) → differ same_key (map (λ x. x.0) xs) ≡ true → differ same_key (map (λ x. x.0) (in_eviction_order xs)) ≡ true
    keys_in_eviction_order xs d = differ_moved same_key same_key_equiv.symm (map (λ x. x.0) xs) (map (λ x. x.0) (in_eviction_order xs)) (IsPermutation-map (λ x. x.0) xs (in_eviction_order xs) (turned xs)) d

    -- a new entry of the highest class comes after all others
    pub all_in_front : (xs : List (Key × ℕ)) (class limit : ℕ) → ((e : Key × ℕ) → cls e ≤ class) → 0 < limit → SplitsAround cls xs class (length xs + 1 - limit)
    all_in_front xs class limit highest some =
        let all = in_eviction_order xs in record {
          front = all;
          back = [];
          both = append-nil all;
          before = all_any (λ e. cls e ≤ class) highest all;
          after = tt;
          enough = omega (arith, length_permutation xs all (turned xs), some);
        }

    -- one of class 1 comes before those of class 2, which must be fewer than the limit
    pub last_class_behind : (xs : List (Key × ℕ)) (limit : ℕ) → length (in_class cls 2 (by_number xs)) < limit → SplitsAround cls xs 1 (length xs + 1 - limit)
    last_class_behind xs limit room =
        let front = in_class cls 0 (by_number xs) ++ in_class cls 1 (by_number xs) in
        let back = in_class cls 2 (by_number xs) in record {
          front = front;
          back = back;
          both = refl;
          before = low_classes (by_number xs);
          after = all_map (λ e. cls e ≡ 2) (λ e. 1 < cls e) (λ e h. omega (arith, h)) back (of_class cls 2 (by_number xs));
          enough = omega (arith, length_permutation xs (in_eviction_order xs) (turned xs), length-append front back, room);
        }

    module _ (xs : List (Key × ℕ)) (n class limit : ℕ) (s : SplitsAround cls xs class (length xs + 1 - limit)) (numbers : differ nat_eq (map (λ x. x.1) xs) ≡ true)
        (below : AllByRecursion (λ x. x.1 < n) xs) (ranks : List EvictionRank) (moved : IsPermutation (map entry_rank xs ++ (class, n) ∷ []) ranks) where
      -- the ranks of the entries and that of a new one, in order
      abbrev all : List EvictionRank
      all = map entry_rank s.front ++ (class, n) ∷ map entry_rank s.back

      -- entries in front come before a new one, whose number is above theirs
      front_before : AllByRecursion (λ e. comes_before (entry_rank e) (class, n) ≡ true) s.front
      front_before =
          let less = all_moved (λ x. x.1 < n) xs (in_eviction_order xs) (turned xs) below in
          let parts = all_parts (λ x. x.1 < n) s.front s.back (subst (AllByRecursion (λ x. x.1 < n)) (sym s.both) less) in
          all_both (λ e. cls e ≤ class) (λ e. e.1 < n) (λ e. comes_before (entry_rank e) (class, n) ≡ true) (λ e l m. before_within (entry_rank e) (class, n) l m)
          s.front s.before parts.0

      -- and it comes before the others
      back_after : AllByRecursion (λ e. comes_before (class, n) (entry_rank e) ≡ true) s.back
      back_after = all_map (λ e. class < cls e) (λ e. comes_before (class, n) (entry_rank e) ≡ true) (λ e l. before_apart (class, n) (entry_rank e) l) s.back s.after

      -- they rise without it
      both_rise : Rises entry_rank (s.front ++ s.back)
      both_rise = subst (Rises entry_rank) (sym s.both) (ranks_rise xs numbers)

      -- they are the same ranks
      all_same : IsPermutation (map entry_rank xs ++ (class, n) ∷ []) all
      all_same =
          let front = map entry_rank s.front in
          let back = map entry_rank s.back in
          let new : EvictionRank = (class, n) in
          let entries : IsPermutation (map entry_rank xs) (front ++ back)
          = subst (IsPermutation (map entry_rank xs)) (ap (map entry_rank) (sym s.both) ∙ map-append entry_rank s.front s.back) (IsPermutation-map entry_rank xs (in_eviction_order xs) (turned xs)) in
          IsPermutation-trans (map entry_rank xs ++ new ∷ []) ((front ++ back) ++ new ∷ []) (front ++ new ∷ back)
          (IsPermutation-append_left (new ∷ []) (map entry_rank xs) (front ++ back) entries)
          (IsPermutation-trans ((front ++ back) ++ new ∷ []) (new ∷ (front ++ back)) (front ++ new ∷ back)
          (IsPermutation-append_comm (front ++ back) (new ∷ [])) (IsPermutation-sym (front ++ new ∷ back) (new ∷ (front ++ back)) (IsPermutation-middle front new back)))

      -- sorted they are these
      pub sorted_ranks : IsSorted rank_cmp ranks → ranks ≡ all
      sorted_ranks sorted =
          let unsorted : List EvictionRank = map entry_rank xs ++ (class, n) ∷ [] in
          let ascends = ascends_ranks entry_rank (class, n) s.front s.back both_rise front_before back_after in
          sorted_is unsorted ranks all (λ f. sym (sum_by-IsPermutation f unsorted all all_same)) ascends moved sorted

      -- one more than there are entries
      count_ranks : length ranks ≡ length xs + 1
      count_ranks =
          length_permutation (map entry_rank xs ++ (class, n) ∷ []) ranks moved
          ∙ length_push (map entry_rank xs) (class, n)
          ∙ ap (λ m. m + 1) (length-map xs entry_rank)

      module _ (sorted : IsSorted rank_cmp ranks) (first : EvictionRank) (is : slice_get ranks (length ranks - limit) ≡ Some first) where
        -- the first rank that survives is in front or the new one
        at_place : slice_get all (length xs + 1 - limit) ≡ Some first
        at_place = sym (λ i. slice_get (sorted_ranks sorted i) (count_ranks i - limit)) ∙ is

        -- so the new entry survives
        pub new_survives : comes_before (class, n) first ≡ false
        new_survives =
            rank_at_place entry_rank (class, n) (λ t. comes_before (class, n) t ≡ false) s.front s.back (length xs + 1 - limit) first s.enough
            (all_map (λ e. comes_before (entry_rank e) (class, n) ≡ true) (λ e. comes_before (class, n) (entry_rank e) ≡ false)
            (λ e h. ranks_order.one_way (entry_rank e) (class, n) h) s.front front_before)
            (not_before_itself (class, n)) at_place

        -- of entries whose keys differ, those evicted so that with a new one at most the limit remain are those whose
        -- ranks come before the first that survives
        pub leaving_entries : differ same_key (map (λ x. x.0) xs) ≡ true
            → AllByRecursion (λ e. list_any (same_key e.0) (take (length xs + 1 - limit) (map (λ f. f.0) (in_eviction_order xs))) ≡ comes_before (entry_rank e) first) xs
        leaving_entries keys =
            let ts = in_eviction_order xs in
            let k = length xs + 1 - limit in
            let keys' : differ same_key (map (λ (e : Key × ℕ). e.0) (s.front ++ s.back)) ≡ true = ap (λ es. differ same_key (map (λ (e : Key × ℕ). e.0) es)) s.both ∙ keys_in_eviction_order xs keys in
            let leave = leaves_before entry_rank (class, n) s.front s.back both_rise keys' front_before back_after k first s.enough at_place in
            let leave' = subst (λ es. AllByRecursion (λ e. list_any (same_key e.0) (map (λ f. f.0) (take k es)) ≡ comes_before (entry_rank e) first) es) s.both leave in
            let back = all_moved (λ e. list_any (same_key e.0) (map (λ f. f.0) (take k ts)) ≡ comes_before (entry_rank e) first) ts xs (IsPermutation-sym xs ts (turned xs)) leave' in
            subst (λ evicted. AllByRecursion (λ e. list_any (same_key e.0) evicted ≡ comes_before (entry_rank e) first) xs) (sym (take-map (λ (f : Key × ℕ). f.0) k ts)) back
