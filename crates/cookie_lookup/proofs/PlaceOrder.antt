-- The orders by place are orders in which only a position itself is equal to it.
use Rattle.std.proofs.Common.{◌≡◌, ◌⊎◌, ℕ, List, true, false, map, refl, sym, ap, subst, inl, inr, is_lt, nat_cmp, Ordering, Less, Equal, Greater}
use Rattle.std.specs.Cmp.{IsTotalOrder}
use Rattle.std.specs.Ordering.{ordering_reverse, ordering_then}
use Rattle.std.proofs.lemmas.Cmp.{nat_cmp_total, on_total, ranked, then_total, tied_itself}
use Rattle.cookie_parts.specs.Cookie.{Row}
use Rattle.cookie_lookup.specs.Positions.{entry_order, nth_place, paths_order, place_order, PlacedGroups, PlacedPaths}
use Rattle.cookie_lookup.specs.SearchView.{RowPosition, under}

-- an order in which only an element itself is equal to it
pub record IsExact {X : Type 0} (order : X → X → Ordering) : Type 0 where
  pub total : IsTotalOrder order
  pub same : (x y : X) → order x y ≡ Equal → x ≡ y

-- two that are not less than each other are the same
pub neither_less : {X : Type 0} (order : X → X → Ordering) → IsExact order → (x y : X) → is_lt (order x y) ≡ false → is_lt (order y x) ≡ false → x ≡ y
neither_less order is x y h k = is.same x y (equal (order x y) (order y x) (is.total.antisymm x y) h k)
  where
    equal : (o p : Ordering) → o ≡ ordering_reverse p → is_lt o ≡ false → is_lt p ≡ false → o ≡ Equal
    equal o Less e h k = absurd (cc)
    equal o Equal e h k = e
    equal o Greater e h k = let less : is_lt o ≡ true = ap is_lt e in absurd (cc)

-- both parts are equal
both_equal : (o p : Ordering) → ordering_then o p ≡ Equal → (o ≡ Equal) × (p ≡ Equal)
both_equal Less p e = absurd (cc)
both_equal Equal p e = (refl, e)
both_equal Greater p e = absurd (cc)

-- by key, and of equal keys by what is left
module _ {X K L : Type 0} (key : X → K) (rest : X → L) (pair : (x y : X) → key x ≡ key y → rest x ≡ rest y → x ≡ y)
    (first : K → K → Ordering) (then : K → L → L → Ordering) (is_first : IsExact first) (are_then : (k : K) → IsExact (then k)) where
  abbrev by_both : X → X → Ordering
  by_both x y = ordering_then (first (key x) (key y)) (then (key x) (rest x) (rest y))

  both_same : (x y : X) → by_both x y ≡ Equal → x ≡ y
  both_same x y e =
      let parts = both_equal (first (key x) (key y)) (then (key x) (rest x) (rest y)) e in
      pair x y (is_first.same (key x) (key y) parts.0) ((are_then (key x)).same (rest x) (rest y) parts.1)

  both_antisymm : (x y : X) → by_both x y ≡ ordering_reverse (by_both y x)
  both_antisymm x y =
      reversed (first (key x) (key y)) (first (key y) (key x)) (then (key x) (rest x) (rest y)) (then (key y) (rest y) (rest x)) (is_first.total.antisymm (key x) (key y))
      (λ e. subst (λ k. then (key x) (rest x) (rest y) ≡ ordering_reverse (then k (rest y) (rest x))) (sym (is_first.same (key y) (key x) e))
      ((are_then (key x)).total.antisymm (rest x) (rest y)))
    where
      reversed : (o p s t : Ordering) → o ≡ ordering_reverse p → (p ≡ Equal → s ≡ ordering_reverse t) → ordering_then o s ≡ ordering_reverse (ordering_then p t)
      reversed o Less s t e h = rw e refl
      reversed o Equal s t e h = rw e (h refl)
      reversed o Greater s t e h = rw e refl

  less_cases : (o s : Ordering) → ordering_then o s ≡ Less → (o ≡ Less) ⊎ ((o ≡ Equal) × (s ≡ Less))
  less_cases Less s e = inl refl
  less_cases Equal s e = inr (refl, e)
  less_cases Greater s e = absurd (cc)

  both_trans : (x y z : X) → by_both x y ≡ Less → by_both y z ≡ Less → by_both x z ≡ Less
  both_trans x y z h k = each (less_cases (first (key x) (key y)) (then (key x) (rest x) (rest y)) h) (less_cases (first (key y) (key z)) (then (key y) (rest y) (rest z)) k)
    where
      IsLess : Ordering → Ordering → Type 0
      IsLess o s = (o ≡ Less) ⊎ ((o ≡ Equal) × (s ≡ Less))

      each : IsLess (first (key x) (key y)) (then (key x) (rest x) (rest y)) → IsLess (first (key y) (key z)) (then (key y) (rest y) (rest z)) → by_both x z ≡ Less
      each (inl e) (inl f) = rw (is_first.total.trans (key x) (key y) (key z) e f) refl
      each (inl e) (inr f) = rw (subst (λ m. first (key x) m ≡ Less) (is_first.same (key y) (key z) f.0) e) refl
      each (inr e) (inl f) = rw (subst (λ m. first m (key z) ≡ Less) (sym (is_first.same (key x) (key y) e.0)) f) refl
      each (inr e) (inr f) =
          let same = sym (is_first.same (key x) (key y) e.0) in
          let equal : first (key x) (key z) ≡ Equal = subst (λ m. first m (key z) ≡ Equal) same f.0 in
          rw equal ((are_then (key x)).total.trans (rest x) (rest y) (rest z) e.1 (subst (λ m. then m (rest y) (rest z) ≡ Less) same f.1))

  pub both_exact : IsExact by_both
  both_exact = record {
    total = record { antisymm = both_antisymm; trans = both_trans; congr = λ x y z e. ap (λ w. by_both w z) (both_same x y e) };
    same = both_same;
  }

-- the order of entries is one, that of the rows of a path, of a domain, and of all

pub entries_exact : {X : Type 0} (xs : List (ℕ × X)) → IsExact (entry_order xs)
entries_exact xs = record {
  total = then_total (on_total (nth_place xs) nat_cmp_total) nat_cmp_total;
  same = λ a b e. ranked a b Equal (sym (both_equal (nat_cmp (nth_place xs a) (nth_place xs b)) (nat_cmp a b) e).1);
}

paths_exact : (paths : PlacedPaths Row) → IsExact (paths_order paths)
paths_exact paths =
    both_exact (λ (a : ℕ × ℕ). a.0) (λ (a : ℕ × ℕ). a.1) (λ a b e f. rw_pair a.0 b.0 a.1 b.1 e f) (entry_order paths)
    (λ p. entry_order (under p (map (λ q. q.1) paths))) (entries_exact paths) (λ p. entries_exact (under p (map (λ q. q.1) paths)))
  where
    rw_pair : (a b m n : ℕ) → a ≡ b → m ≡ n → ◌≡◌ {A = ℕ × ℕ} (a, m) (b, n)
    rw_pair a b m n e f = rw (e, f) refl

pub places_exact : (placed : PlacedGroups Row) → IsExact (place_order placed)
places_exact placed =
    both_exact (λ (a : RowPosition). a.0) (λ (a : RowPosition). (a.1, a.2)) (λ a b e f. rw_triple a.0 b.0 (a.1, a.2) (b.1, b.2) e f) (entry_order placed)
    (λ d. paths_order (under d (map (λ g. g.1) placed))) (entries_exact placed) (λ d. paths_exact (under d (map (λ g. g.1) placed)))
  where
    rw_triple : (a b : ℕ) (s t : ℕ × ℕ) → a ≡ b → s ≡ t → ◌≡◌ {A = RowPosition} (a, s.0, s.1) (b, t.0, t.1)
    rw_triple a b s t e f = rw (e, f) refl

-- an entry's position is equal to itself
pub entry_itself : {X : Type 0} (xs : List (ℕ × X)) (n : ℕ) → entry_order xs n n ≡ Equal
entry_itself xs n = tied_itself (entries_exact xs).total n
