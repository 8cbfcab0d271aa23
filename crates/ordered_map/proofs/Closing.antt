-- Closing the gaps: positions of entries move to the front of the order, and entries take their new places.
use Rattle.std.proofs.Common.{◌≡◌, ◌≢◌, ℕ, zero, suc, ◌+◌, ◌<◌, ◌≤◌, Bool, true, false, cond, ltb, List, [], ◌∷◌, ◌++◌, length, get_or, take, drop, set, filter, refl, sym, ap, subst, ◌∙◌, arith, ⊎_elim}
use Rattle.std.specs.List.{flat_map}
use Rattle.std.proofs.lemmas.Bool.{cases_eq, cases_lt, lt-ltb, le-ltb}
use Rattle.std.proofs.lemmas.List.{get_or_past, get_or_default, get_or-drop, get_or-set_same, get_or-set_other, get_or-take, length-set, length-take}
use Rattle.std.proofs.lemmas.List.Filters.{FiltersInPlace, FiltersInPlace-all, FiltersInPlace-more_no, FiltersInPlace-more_set}
use Rattle.ordered_map.specs.Layout.{gap_position, IsOrdered}
use Rattle.ordered_map.proofs.Found.{by_test}

-- an element that passes is in the filtered list
filter_has : (p : ℕ → Bool) (xs : List ℕ) (i d : ℕ) → i < length xs → p (get_or xs i d) ≡ true → (j : ℕ) × (j < length (filter p xs)) × (get_or (filter p xs) j d ≡ get_or xs i d)
filter_has p [] i d l y = absurd (omega arith)
filter_has p (x ∷ xs) zero d l y =
    let is : filter p (x ∷ xs) ≡ x ∷ filter p xs = ap (λ b. cond b (x ∷ filter p xs) (filter p xs)) y in
    (0, omega (arith, ap length is), ap (λ ys. get_or ys 0 d) is)
filter_has p (x ∷ xs) (suc i) d l y =
    let w = filter_has p xs i d (omega arith) y in
    by_test (p x)
    (λ yes. let is : filter p (x ∷ xs) ≡ x ∷ filter p xs = ap (λ b. cond b (x ∷ filter p xs) (filter p xs)) yes in (suc w.0, omega (arith, ap length is, w.1), ap (λ ys. get_or ys (suc w.0) d) is ∙ w.2))
    (λ no. let is : filter p (x ∷ xs) ≡ filter p xs = ap (λ b. cond b (x ∷ filter p xs) (filter p xs)) no in (w.0, omega (arith, ap length is, w.1), ap (λ ys. get_or ys w.0 d) is ∙ w.2))

-- what gives nothing may be left out
pub flat_map_filter : {A : Type 0} (f : ℕ → List A) (p : ℕ → Bool) → ((j : ℕ) → p j ≡ false → f j ≡ []) → (xs : List ℕ) → flat_map f (filter p xs) ≡ flat_map f xs
flat_map_filter f p h [] = refl
flat_map_filter f p h (x ∷ xs) = by_test (p x)
    (λ yes. ap (λ b. flat_map f (cond b (x ∷ filter p xs) (filter p xs))) yes ∙ ap (λ l. f x ++ l) (flat_map_filter f p h xs))
    (λ no. ap (λ b. flat_map f (cond b (x ∷ filter p xs) (filter p xs))) no ∙ flat_map_filter f p h xs ∙ sym (ap (λ l. l ++ flat_map f xs) (h x no)))

-- of the places L₀ and the order O₀, the first i places are gone through, and k of them were no gaps
pub record Closing (L₀ O₀ L O : List ℕ) (k i : ℕ) : Type 0 where
  pub filtered : FiltersInPlace (λ j. ltb j (length L₀)) O₀ O k i
  pub long : length L ≡ length L₀
  pub taken : (j : ℕ) → j < k → get_or O j gap_position < length L₀
  pub moved : (j : ℕ) → j < k → get_or L (get_or O j gap_position) gap_position ≡ j
  pub earlier : (j : ℕ) → j < k → get_or L₀ (get_or O j gap_position) gap_position < i

module _ (L₀ O₀ : List ℕ) (h : IsOrdered L₀ O₀) where
  module _ (L O : List ℕ) (k i : ℕ) (s : Closing L₀ O₀ L O k i) (l : i < length O) where
    pub closing_gap : length L₀ ≤ get_or O i gap_position → Closing L₀ O₀ L O k (i + 1)
    closing_gap past = record {
      filtered = FiltersInPlace-more_no {x = get_or O i gap_position} s.filtered l (le-ltb _ _ past) (get_or_default O i gap_position _ l);
      long = s.long;
      taken = s.taken;
      moved = s.moved;
      earlier = λ j b. omega (arith, s.earlier j b);
    }

    -- the position, as the order had it at first
    was : get_or O i gap_position ≡ get_or O₀ i gap_position
    was =
        let a : get_or (drop i O) 0 gap_position ≡ get_or O (i + 0) gap_position = get_or-drop i O 0 gap_position in
        let b : get_or (drop i O₀) 0 gap_position ≡ get_or O₀ (i + 0) gap_position = get_or-drop i O₀ 0 gap_position in
        let e : i + 0 ≡ i = omega arith in
        sym (a ∙ ap (λ m. get_or O m gap_position) e) ∙ ap (λ ys. get_or ys 0 gap_position) s.filtered.rest ∙ b ∙ ap (λ m. get_or O₀ m gap_position) e

    module _ (below : get_or O i gap_position < length L₀) where
      own_now : get_or L₀ (get_or O i gap_position) gap_position ≡ i
      own_now = ap (λ m. get_or L₀ m gap_position) was ∙ h.own i (omega (arith, was))

      in' : k < length O
      in' = omega (arith, s.filtered.behind)

      now_at : get_or (set O k (get_or O i gap_position)) k gap_position ≡ get_or O i gap_position
      now_at = get_or-set_same O k (get_or O i gap_position) gap_position in'

      still_at : (j : ℕ) → j < k → get_or (set O k (get_or O i gap_position)) j gap_position ≡ get_or O j gap_position
      still_at j b = get_or-set_other O k j (get_or O i gap_position) gap_position (λ (e : j ≡ k). absurd (omega arith))

      each : (P : ℕ → ℕ → Type 0) → ((j : ℕ) → j < k → P j (get_or O j gap_position)) → P k (get_or O i gap_position) → (j : ℕ) → j < k + 1 → P j (get_or (set O k (get_or O i gap_position)) j gap_position)
      each P old new j b = ⊎_elim
          (λ (e : j ≡ k). subst (λ m. P m (get_or (set O k (get_or O i gap_position)) m gap_position)) (sym e) (subst (P k) (sym now_at) new))
          (λ (ne : j ≢ k). let less : j < k = omega arith in subst (P j) (sym (still_at j less)) (old j less))
          (cases_eq j k)

      pub closing_entry : Closing L₀ O₀ (set L (get_or O i gap_position) k) (set O k (get_or O i gap_position)) (k + 1) (i + 1)
      closing_entry = record {
        filtered = FiltersInPlace-more_set {x = get_or O i gap_position} s.filtered l (lt-ltb _ _ below) (get_or_default O i gap_position _ l);
        long = length-set L (get_or O i gap_position) k ∙ s.long;
        taken = each (λ j m. m < length L₀) s.taken below;
        moved = each (λ j m. get_or (set L (get_or O i gap_position) k) m gap_position ≡ j)
            (λ j b. get_or-set_other L (get_or O i gap_position) (get_or O j gap_position) k gap_position (λ (e : get_or O j gap_position ≡ get_or O i gap_position). absurd (omega (arith, s.earlier j b, ap (λ m. get_or L₀ m gap_position) e, own_now))) ∙ s.moved j b)
            (get_or-set_same L (get_or O i gap_position) k gap_position (omega (arith, s.long)));
        earlier = each (λ j m. get_or L₀ m gap_position < i + 1) (λ j b. omega (arith, s.earlier j b)) (omega (arith, own_now));
      }

  -- all places are gone through
  module _ (L O : List ℕ) (k i : ℕ) (s : Closing L₀ O₀ L O k i) (all : length O₀ ≤ i) where
    pub closed_filter : take k O ≡ filter (λ j. ltb j (length L₀)) O₀
    closed_filter = FiltersInPlace-all s.filtered all

    kept_at : (j : ℕ) → j < k → get_or (take k O) j gap_position ≡ get_or O j gap_position
    kept_at j l = get_or-take k O j gap_position l

    past_kept : (j : ℕ) → k ≤ j → get_or (take k O) j gap_position ≡ gap_position
    past_kept j l = get_or_past (take k O) j gap_position (omega (arith, length-take k O))

    closed_placed : (at : ℕ) → at < length L → get_or (take k O) (get_or L at gap_position) gap_position ≡ at
    closed_placed at l =
        let here = h.placed at (omega (arith, s.long)) in
        let in' : get_or L₀ at gap_position < length O₀ = ⊎_elim (λ (b : get_or L₀ at gap_position < length O₀). b) (λ (past : length O₀ ≤ get_or L₀ at gap_position). absurd (omega (arith, here, get_or_past O₀ (get_or L₀ at gap_position) gap_position past, h.fits, s.long))) (cases_lt (get_or L₀ at gap_position) (length O₀)) in
        let w = filter_has (λ j. ltb j (length L₀)) O₀ (get_or L₀ at gap_position) gap_position in' (ap (λ j. ltb j (length L₀)) here ∙ lt-ltb _ _ (omega (arith, s.long))) in
        let less : w.0 < k = omega (arith, w.1, ap length closed_filter, length-take k O) in
        let is : get_or O w.0 gap_position ≡ at = sym (kept_at w.0 less) ∙ ap (λ ys. get_or ys w.0 gap_position) closed_filter ∙ w.2 ∙ here in
        let place : get_or L at gap_position ≡ w.0 = ap (λ m. get_or L m gap_position) (sym is) ∙ s.moved w.0 less in
        ap (λ m. get_or (take k O) m gap_position) place ∙ kept_at w.0 less ∙ is

    closed_own : (j : ℕ) → get_or (take k O) j gap_position < length L → get_or L (get_or (take k O) j gap_position) gap_position ≡ j
    closed_own j l = ⊎_elim
        (λ (less : j < k). ap (λ m. get_or L m gap_position) (kept_at j less) ∙ s.moved j less)
        (λ (past : k ≤ j). absurd (omega (arith, past_kept j past, h.fits, s.long)))
        (cases_lt j k)

    closed_gaps : (j : ℕ) → length L ≤ get_or (take k O) j gap_position → get_or (take k O) j gap_position ≡ gap_position
    closed_gaps j l = ⊎_elim
        (λ (less : j < k). absurd (omega (arith, kept_at j less, s.taken j less, s.long)))
        (λ (past : k ≤ j). past_kept j past)
        (cases_lt j k)

    pub closed : IsOrdered L (take k O)
    closed = record { placed = closed_placed; own = closed_own; gaps = closed_gaps; fits = omega (arith, h.fits, s.long) }

    pub all_taken : (j : ℕ) → j < length (take k O) → get_or (take k O) j gap_position < length L
    all_taken j l = let less : j < k = omega (arith, length-take k O) in omega (arith, kept_at j less, s.taken j less, s.long)
