-- Places and positions: what a push, a removal and the closing of gaps leave in order.
use Rattle.std.proofs.Common.{◌≡◌, ◌≢◌, ℕ, suc, ◌<◌, ◌≤◌, List, [], ◌∷◌, ◌++◌, length, get_or, set, refl, sym, ap, ◌∙◌, arith, ⊎_elim}
use Rattle.std.proofs.lemmas.Bool.{cases_eq, cases_lt}
use Rattle.std.proofs.lemmas.List.{get_or_past, get_or-set_same, get_or-set_other, length-set, get_or_append_left, get_or_push, length_push}
use Rattle.ordered_map.specs.Layout.{gap_position, IsOrdered}

module _ (L O : List ℕ) (h : IsOrdered L O) where
  -- the place of a position is within the order
  pub own_within : (at : ℕ) → at < length L → get_or L at gap_position < length O
  own_within at l = ⊎_elim (λ (i : get_or L at gap_position < length O). i)
      (λ (past : length O ≤ get_or L at gap_position). absurd (omega (arith, h.placed at l, get_or_past O (get_or L at gap_position) gap_position past, h.fits)))
      (cases_lt (get_or L at gap_position) (length O))

  -- a new entry is last, in both
  module _ (room : length L < gap_position) where
    L' : List ℕ
    L' = L ++ length O ∷ []

    old_place : (at : ℕ) → at < length L → get_or (L ++ length O ∷ []) at gap_position ≡ get_or L at gap_position
    old_place at l = get_or_append_left L (length O ∷ []) gap_position at l

    new_place : get_or (L ++ length O ∷ []) (length L) gap_position ≡ length O
    new_place = get_or_push L (length O) gap_position (length L) refl

    old_position : (k : ℕ) → k < length O → get_or (O ++ length L ∷ []) k gap_position ≡ get_or O k gap_position
    old_position k l = get_or_append_left O (length L ∷ []) gap_position k l

    new_position : get_or (O ++ length L ∷ []) (length O) gap_position ≡ length L
    new_position = get_or_push O (length L) gap_position (length O) refl

    no_position : (k : ℕ) → length O < k → get_or (O ++ length L ∷ []) k gap_position ≡ gap_position
    no_position k l = get_or_past (O ++ length L ∷ []) k gap_position (omega (arith, length_push O (length L)))

    pushed_placed : (at : ℕ) → at < length (L ++ length O ∷ []) → get_or (O ++ length L ∷ []) (get_or (L ++ length O ∷ []) at gap_position) gap_position ≡ at
    pushed_placed at l = ⊎_elim
        (λ (old : at < length L). ap (λ p. get_or (O ++ length L ∷ []) p gap_position) (old_place at old) ∙ old_position _ (own_within at old) ∙ h.placed at old)
        (λ (past : length L ≤ at).
        let new : at ≡ length L = omega (arith, length_push L (length O)) in
        ap (λ a. get_or (O ++ length L ∷ []) (get_or (L ++ length O ∷ []) a gap_position) gap_position) new ∙ ap (λ p. get_or (O ++ length L ∷ []) p gap_position) new_place ∙ new_position ∙ sym new)
        (cases_lt at (length L))

    pushed_own : (k : ℕ) → get_or (O ++ length L ∷ []) k gap_position < length (L ++ length O ∷ []) → get_or (L ++ length O ∷ []) (get_or (O ++ length L ∷ []) k gap_position) gap_position ≡ k
    pushed_own k l = ⊎_elim
        (λ (old : k < length O).
        let is = old_position k old in
        let below : get_or O k gap_position < length L = ⊎_elim (λ (b : get_or O k gap_position < length L). b) (λ (past : length L ≤ get_or O k gap_position). absurd (omega (arith, h.gaps k past, is, length_push L (length O)))) (cases_lt (get_or O k gap_position) (length L)) in
        ap (λ a. get_or (L ++ length O ∷ []) a gap_position) is ∙ old_place _ below ∙ h.own k below)
        (λ (past : length O ≤ k). ⊎_elim
        (λ (new : k ≡ length O). ap (λ a. get_or (L ++ length O ∷ []) a gap_position) (ap (λ p. get_or (O ++ length L ∷ []) p gap_position) new ∙ new_position) ∙ new_place ∙ sym new)
        (λ (ne : k ≢ length O). absurd (omega (arith, no_position k (omega arith), length_push L (length O))))
        (cases_eq k (length O)))
        (cases_lt k (length O))

    pushed_gaps : (k : ℕ) → length (L ++ length O ∷ []) ≤ get_or (O ++ length L ∷ []) k gap_position → get_or (O ++ length L ∷ []) k gap_position ≡ gap_position
    pushed_gaps k l = ⊎_elim
        (λ (old : k < length O). let is = old_position k old in is ∙ h.gaps k (omega (arith, is, length_push L (length O))))
        (λ (past : length O ≤ k). ⊎_elim
        (λ (new : k ≡ length O). absurd (omega (arith, ap (λ p. get_or (O ++ length L ∷ []) p gap_position) new, new_position, length_push L (length O))))
        (λ (ne : k ≢ length O). no_position k (omega arith))
        (cases_eq k (length O)))
        (cases_lt k (length O))

    pub pushed : IsOrdered (L ++ length O ∷ []) (O ++ length L ∷ [])
    pushed = record { placed = pushed_placed; own = pushed_own; gaps = pushed_gaps; fits = omega (arith, length_push L (length O)) }

-- the last entry takes the position of the one that is removed
module _ (L L' O : List ℕ) (h : IsOrdered L O) (at n : ℕ) (long : length L ≡ suc n) (short : length L' ≡ n) (within : at < suc n)
    (moved : at < n → get_or L' at gap_position ≡ get_or L n gap_position) (others : (j : ℕ) → j < n → j ≢ at → get_or L' j gap_position ≡ get_or L j gap_position) where
  abbrev pub without : List ℕ
  without = set (set O (get_or L n gap_position) at) (get_or L at gap_position) gap_position

  at_gone : get_or O (get_or L at gap_position) gap_position ≡ at
  at_gone = h.placed at (omega arith)

  at_last : get_or O (get_or L n gap_position) gap_position ≡ n
  at_last = h.placed n (omega arith)

  pub now_gap : get_or without (get_or L at gap_position) gap_position ≡ gap_position
  now_gap = get_or-set_same (set O (get_or L n gap_position) at) (get_or L at gap_position) gap_position gap_position (omega (arith, length-set O (get_or L n gap_position) at, own_within L O h at (omega arith)))

  pub now_moved : get_or L n gap_position ≢ get_or L at gap_position → get_or without (get_or L n gap_position) gap_position ≡ at
  now_moved ne =
      get_or-set_other (set O (get_or L n gap_position) at) (get_or L at gap_position) (get_or L n gap_position) gap_position gap_position ne
      ∙ get_or-set_same O (get_or L n gap_position) at gap_position (own_within L O h n (omega arith))

  pub now_same : (k : ℕ) → k ≢ get_or L at gap_position → k ≢ get_or L n gap_position → get_or without k gap_position ≡ get_or O k gap_position
  now_same k a b = get_or-set_other (set O (get_or L n gap_position) at) (get_or L at gap_position) k gap_position gap_position a ∙ get_or-set_other O (get_or L n gap_position) k at gap_position b

  -- the places of the two differ, unless they are one
  apart : at < n → get_or L n gap_position ≢ get_or L at gap_position
  apart l e = absurd (omega (arith, at_gone, at_last, ap (λ p. get_or O p gap_position) e))

  pub last_apart : get_or L n gap_position ≢ get_or L at gap_position → at < n
  last_apart ne = ⊎_elim (λ (l : at < n). l) (λ (past : n ≤ at). let same : n ≡ at = omega arith in absurd (ne (ap (λ a. get_or L a gap_position) same))) (cases_lt at n)

  -- another place holds another position
  pub other_position : (k : ℕ) → k ≢ get_or L at gap_position → get_or O k gap_position ≢ at
  other_position k ne e = ne (sym (ap (λ a. get_or L a gap_position) (sym e) ∙ h.own k (omega (arith, e))))

  pub not_last : (k : ℕ) → k ≢ get_or L n gap_position → get_or O k gap_position ≢ n
  not_last k ne e = ne (sym (ap (λ a. get_or L a gap_position) (sym e) ∙ h.own k (omega (arith, e))))

  removed_placed : (j : ℕ) → j < length L' → get_or without (get_or L' j gap_position) gap_position ≡ j
  removed_placed j l = ⊎_elim
      (λ (e : j ≡ at).
      let below : at < n = omega (arith, e) in
      ap (λ p. get_or without p gap_position) (ap (λ a. get_or L' a gap_position) e ∙ moved below) ∙ now_moved (apart below) ∙ sym e)
      (λ (ne : j ≢ at).
      let is = others j (omega arith) ne in
      let here = h.placed j (omega arith) in
      let not_gone : get_or L j gap_position ≢ get_or L at gap_position = λ e. ne (sym here ∙ ap (λ p. get_or O p gap_position) e ∙ at_gone) in
      let not_moved : get_or L j gap_position ≢ get_or L n gap_position = λ e. absurd (omega (arith, here, ap (λ p. get_or O p gap_position) e, at_last)) in
      ap (λ p. get_or without p gap_position) is ∙ now_same _ not_gone not_moved ∙ here)
      (cases_eq j at)

  removed_own : (k : ℕ) → get_or without k gap_position < length L' → get_or L' (get_or without k gap_position) gap_position ≡ k
  removed_own k l = ⊎_elim
      (λ (e : k ≡ get_or L at gap_position). absurd (omega (arith, ap (λ p. get_or without p gap_position) e, now_gap, h.fits)))
      (λ (a : k ≢ get_or L at gap_position). ⊎_elim
      (λ (e : k ≡ get_or L n gap_position).
      let ne : get_or L n gap_position ≢ get_or L at gap_position = λ f. a (e ∙ f) in
      let is : get_or without k gap_position ≡ at = ap (λ p. get_or without p gap_position) e ∙ now_moved ne in
      ap (λ j. get_or L' j gap_position) is ∙ moved (last_apart ne) ∙ sym e)
      (λ (b : k ≢ get_or L n gap_position).
      let is = now_same k a b in
      let below : get_or O k gap_position < n = omega (arith, is) in
      ap (λ j. get_or L' j gap_position) is ∙ others _ below (other_position k a) ∙ h.own k (omega arith))
      (cases_eq k (get_or L n gap_position)))
      (cases_eq k (get_or L at gap_position))

  removed_gaps : (k : ℕ) → length L' ≤ get_or without k gap_position → get_or without k gap_position ≡ gap_position
  removed_gaps k l = ⊎_elim
      (λ (e : k ≡ get_or L at gap_position). ap (λ p. get_or without p gap_position) e ∙ now_gap)
      (λ (a : k ≢ get_or L at gap_position). ⊎_elim
      (λ (e : k ≡ get_or L n gap_position).
      let ne : get_or L n gap_position ≢ get_or L at gap_position = λ f. a (e ∙ f) in
      absurd (omega (arith, ap (λ p. get_or without p gap_position) e, now_moved ne, last_apart ne)))
      (λ (b : k ≢ get_or L n gap_position).
      let is = now_same k a b in
      let ne = not_last k b in
      is ∙ h.gaps k (omega (arith, is)))
      (cases_eq k (get_or L n gap_position)))
      (cases_eq k (get_or L at gap_position))

  pub removed : IsOrdered L' without
  removed = record { placed = removed_placed; own = removed_own; gaps = removed_gaps; fits = omega (arith, h.fits) }

-- an entry takes a new place at the end
module _ (L O : List ℕ) (h : IsOrdered L O) (at : ℕ) (within : at < length L) where
  abbrev pub moved_places : List ℕ
  moved_places = set L at (length O)

  abbrev pub moved_order : List ℕ
  moved_order = set O (get_or L at gap_position) gap_position ++ at ∷ []

  moved_from : get_or O (get_or L at gap_position) gap_position ≡ at
  moved_from = h.placed at within

  length_left : length (set O (get_or L at gap_position) gap_position) ≡ length O
  length_left = length-set O (get_or L at gap_position) gap_position

  pub moved_gap : get_or moved_order (get_or L at gap_position) gap_position ≡ gap_position
  moved_gap =
      get_or_append_left (set O (get_or L at gap_position) gap_position) (at ∷ []) gap_position (get_or L at gap_position) (omega (arith, length_left, own_within L O h at within))
      ∙ get_or-set_same O (get_or L at gap_position) gap_position gap_position (own_within L O h at within)

  pub moved_same : (k : ℕ) → k < length O → k ≢ get_or L at gap_position → get_or moved_order k gap_position ≡ get_or O k gap_position
  moved_same k l ne =
      get_or_append_left (set O (get_or L at gap_position) gap_position) (at ∷ []) gap_position k (omega (arith, length_left))
      ∙ get_or-set_other O (get_or L at gap_position) k gap_position gap_position ne

  pub moved_last : get_or moved_order (length O) gap_position ≡ at
  moved_last = get_or_push (set O (get_or L at gap_position) gap_position) at gap_position (length O) length_left

  moved_past : (k : ℕ) → length O < k → get_or moved_order k gap_position ≡ gap_position
  moved_past k l = get_or_past moved_order k gap_position (omega (arith, length_push (set O (get_or L at gap_position) gap_position) at, length_left))

  pub another : (k : ℕ) → k ≢ get_or L at gap_position → get_or O k gap_position ≢ at
  another k ne e = ne (sym (ap (λ a. get_or L a gap_position) (sym e) ∙ h.own k (omega (arith, e))))

  moved_placed : (j : ℕ) → j < length moved_places → get_or moved_order (get_or moved_places j gap_position) gap_position ≡ j
  moved_placed j l = ⊎_elim
      (λ (e : j ≡ at). ap (λ p. get_or moved_order p gap_position) (ap (λ a. get_or moved_places a gap_position) e ∙ get_or-set_same L at (length O) gap_position within) ∙ moved_last ∙ sym e)
      (λ (ne : j ≢ at).
      let less : j < length L = omega (arith, length-set L at (length O)) in
      let here = h.placed j less in
      let apart : get_or L j gap_position ≢ get_or L at gap_position = λ e. ne (sym here ∙ ap (λ p. get_or O p gap_position) e ∙ moved_from) in
      ap (λ p. get_or moved_order p gap_position) (get_or-set_other L at j (length O) gap_position ne) ∙ moved_same _ (own_within L O h j less) apart ∙ here)
      (cases_eq j at)

  moved_own : (k : ℕ) → get_or moved_order k gap_position < length moved_places → get_or moved_places (get_or moved_order k gap_position) gap_position ≡ k
  moved_own k l = ⊎_elim
      (λ (e : k ≡ get_or L at gap_position). absurd (omega (arith, ap (λ p. get_or moved_order p gap_position) e, moved_gap, h.fits, length-set L at (length O))))
      (λ (ne : k ≢ get_or L at gap_position). ⊎_elim
      (λ (old : k < length O).
      let is = moved_same k old ne in
      ap (λ j. get_or moved_places j gap_position) is ∙ get_or-set_other L at (get_or O k gap_position) (length O) gap_position (another k ne) ∙ h.own k (omega (arith, is, length-set L at (length O))))
      (λ (past : length O ≤ k). ⊎_elim
      (λ (e : k ≡ length O). ap (λ j. get_or moved_places j gap_position) (ap (λ p. get_or moved_order p gap_position) e ∙ moved_last) ∙ get_or-set_same L at (length O) gap_position within ∙ sym e)
      (λ (ne' : k ≢ length O). absurd (omega (arith, moved_past k (omega arith), h.fits, length-set L at (length O))))
      (cases_eq k (length O)))
      (cases_lt k (length O)))
      (cases_eq k (get_or L at gap_position))

  moved_gaps : (k : ℕ) → length moved_places ≤ get_or moved_order k gap_position → get_or moved_order k gap_position ≡ gap_position
  moved_gaps k l = ⊎_elim
      (λ (e : k ≡ get_or L at gap_position). ap (λ p. get_or moved_order p gap_position) e ∙ moved_gap)
      (λ (ne : k ≢ get_or L at gap_position). ⊎_elim
      (λ (old : k < length O). let is = moved_same k old ne in is ∙ h.gaps k (omega (arith, is, length-set L at (length O))))
      (λ (past : length O ≤ k). ⊎_elim
      (λ (e : k ≡ length O). absurd (omega (arith, ap (λ p. get_or moved_order p gap_position) e, moved_last, length-set L at (length O))))
      (λ (ne' : k ≢ length O). moved_past k (omega arith))
      (cases_eq k (length O)))
      (cases_lt k (length O)))
      (cases_eq k (get_or L at gap_position))

  pub moved_ordered : IsOrdered moved_places moved_order
  moved_ordered = record { placed = moved_placed; own = moved_own; gaps = moved_gaps; fits = omega (arith, h.fits, length-set L at (length O)) }
