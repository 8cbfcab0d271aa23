-- Closing the gaps keeps the entries and their order.
use Rattle.std.proofs.Common.{◌≡◌, ℕ, zero, suc, ◌+◌, ◌<◌, ◌≤◌, ltb, List, [], ◌∷◌, length, get_or, take, set, map, slice_get, None, Some, refl, sym, ap, subst, ◌∙◌, arith, String}
use Rattle.std.specs.List.{flat_map, IsDistinct}
use Rattle.std.specs.Map.{keys_of, values_of}
use Rattle.std.specs.Option.{option_to_list}
use Rattle.std.specs.String.{string_eq}
use Rattle.std.specs.declared.alloc.Global.{Global}
use Rattle.std.proofs.lemmas.Bool.{ltb-false}
use Rattle.std.proofs.lemmas.List.{get_or_read, length-append, length-map}
use Rattle.std.proofs.lemmas.Option.{none-some, same_Some, slice_get_within}
use Rattle.indexmap.specs.IndexMap.{set_value_at}
use Rattle.ordered_map.specs.Entries.{in_order}
use Rattle.ordered_map.specs.Layout.{at_position, by_position, gap_position, key_value, places, IsStored}
use Rattle.ordered_map.specs.declared.gaps.Placed.{Placed}
use Rattle.ordered_map.proofs.Closing.{Closing, all_taken, closed, closed_filter, closing_entry, closing_gap, flat_map_filter}
use Rattle.ordered_map.proofs.FlatMaps.{at_position_past, at_within, map_at_positions}
use Rattle.ordered_map.proofs.MapViews.{length_at_positions, sorted}

abbrev pub Stored : Type 0 → Type 0
Stored V = List (String Global × Placed V)

module _ {V : Type 0} where
  -- a write of a place changes neither keys nor values
  pub same_entries : (es : Stored V) (at k : ℕ) (p w : Placed V) → slice_get (values_of es) at ≡ Some p → w.value ≡ p.value → map key_value (set_value_at es at w) ≡ map key_value es
  same_entries [] at k p w is same = absurd (none-some p is)
  same_entries (e ∷ es) zero k p w is same = let v : w.value ≡ e.1.value = same ∙ ap (λ (q : Placed V). q.value) (sym (same_Some e.1 p is)) in ap (λ x. (e.0, x) ∷ map key_value es) v
  same_entries (e ∷ es) (suc at) k p w is same = ap (λ l. (e.0, e.1.value) ∷ l) (same_entries es at k p w is same)

  pub same_keys : (es : Stored V) (at : ℕ) (w : Placed V) → keys_of (set_value_at es at w) ≡ keys_of es
  same_keys [] at w = refl
  same_keys (e ∷ es) zero w = refl
  same_keys (e ∷ es) (suc at) w = ap (λ l. e.0 ∷ l) (same_keys es at w)

  pub new_places : (es : Stored V) (at : ℕ) (w : Placed V) → places (set_value_at es at w) ≡ set (places es) at w.place
  new_places [] at w = refl
  new_places (e ∷ es) zero w = refl
  new_places (e ∷ es) (suc at) w = ap (λ l. e.1.place ∷ l) (new_places es at w)

  pub length_places : (es : Stored V) → length (places es) ≡ length es
  length_places es = length-map es (λ e. e.1.place)

  no_value : (es : Stored V) (j : ℕ) → None ≡ slice_get (values_of es) j → length es ≤ j
  no_value [] j is = omega arith
  no_value (e ∷ es) zero is = absurd (none-some e.1 is)
  no_value (e ∷ es) (suc j) is = omega (arith, no_value es j is)

  -- the first i places are gone through, and k of them were no gaps
  pub record ClosingEntries (es₀ : Stored V) (O₀ : List ℕ) (es : Stored V) (O : List ℕ) (k i : ℕ) : Type 0 where
    pub closing : Closing (places es₀) O₀ (places es) O k i
    pub same : map key_value es ≡ map key_value es₀
    pub keys : keys_of es ≡ keys_of es₀

  module _ (es₀ : Stored V) (O₀ : List ℕ) (h : IsStored es₀ O₀) (es : Stored V) (O : List ℕ) (k i : ℕ) (s : ClosingEntries es₀ O₀ es O k i) where
    pub closing_gap_entries : i < length O → length es ≤ get_or O i gap_position → ClosingEntries es₀ O₀ es O k (i + 1)
    closing_gap_entries l past = record {
      closing = closing_gap (places es₀) O₀ h.ordered (places es) O k i s.closing l (omega (arith, s.closing.long, length_places es));
      same = s.same;
      keys = s.keys;
    }

    pub closing_entry_entries : (p : Placed V) → i < length O → slice_get (values_of es) (get_or O i gap_position) ≡ Some p
        → ClosingEntries es₀ O₀ (set_value_at es (get_or O i gap_position) (record { place = k; value = p.value })) (set O k (get_or O i gap_position)) (k + 1) (i + 1)
    closing_entry_entries p l is =
        let at = get_or O i gap_position in
        let w : Placed V = record { place = k; value = p.value } in
        let below : at < length (places es₀) = omega (arith, s.closing.long, length_places es, slice_get_within (values_of es) at p is, length-map es (λ (e : String Global × Placed V). e.1)) in
        record {
          closing = subst (λ L. Closing (places es₀) O₀ L (set O k at) (k + 1) (i + 1)) (sym (new_places es at w)) (closing_entry (places es₀) O₀ h.ordered (places es) O k i s.closing l below);
          same = same_entries es at k p w is refl ∙ s.same;
          keys = same_keys es at w ∙ s.keys;
        }

    -- the loop's steps
    module _ (es' : Stored V) (O' : List ℕ) (k' position : ℕ) (l : i < length O) (at : position ≡ get_or O i position) where
      position_is : get_or O i gap_position ≡ position
      position_is = sym (get_or_read O i position l at gap_position)

      pub step_entry : (p : Placed V) → Some p ≡ slice_get (values_of es) position → es' ≡ set_value_at es position (record { place = k; value = p.value }) → O' ≡ set O k position → k' ≡ k + 1
          → ClosingEntries es₀ O₀ es' O' k' (i + 1)
      step_entry p is ea eo ek =
          subst (λ e. ClosingEntries es₀ O₀ e O' k' (i + 1)) (sym ea)
          (subst (λ o. ClosingEntries es₀ O₀ (set_value_at es position (record { place = k; value = p.value })) o k' (i + 1)) (sym eo)
          (subst (λ n. ClosingEntries es₀ O₀ (set_value_at es position (record { place = k; value = p.value })) (set O k position) n (i + 1)) (sym ek)
          (subst (λ j. ClosingEntries es₀ O₀ (set_value_at es j (record { place = k; value = p.value })) (set O k j) (k + 1) (i + 1)) position_is
          (closing_entry_entries p l (ap (slice_get (values_of es)) position_is ∙ sym is)))))

      pub step_gap : None ≡ slice_get (values_of es) position → es' ≡ es → O' ≡ O → k' ≡ k → ClosingEntries es₀ O₀ es' O' k' (i + 1)
      step_gap is ea eo ek =
          let past = no_value es position is in
          subst (λ e. ClosingEntries es₀ O₀ e O' k' (i + 1)) (sym ea)
          (subst (λ o. ClosingEntries es₀ O₀ es o k' (i + 1)) (sym eo)
          (subst (λ n. ClosingEntries es₀ O₀ es O n (i + 1)) (sym ek)
          (closing_gap_entries l (omega (arith, position_is)))))

    module _ (all : length O₀ ≤ i) where
      pub closed_stored : IsStored es (take k O)
      closed_stored = record {
        ordered = closed (places es₀) O₀ h.ordered (places es) O k i s.closing all;
        distinct = subst (IsDistinct string_eq) (sym s.keys) h.distinct;
      }

      pub closed_entries : in_order (by_position es) ≡ in_order (by_position es₀)
      closed_entries =
          let n = length (places es₀) in
          let pairs = map key_value es₀ in
          sym (sorted es (take k O) closed_stored)
          ∙ map_at_positions key_value es (take k O)
          ∙ ap (λ l. flat_map (at_position l) (take k O)) s.same
          ∙ ap (flat_map (at_position pairs)) (closed_filter (places es₀) O₀ h.ordered (places es) O k i s.closing all)
          ∙ flat_map_filter (at_position pairs) (λ j. ltb j n) (λ j no. at_position_past pairs j (omega (arith, ltb-false j n no, length_places es₀, length-map es₀ key_value))) O₀
          ∙ sym (map_at_positions key_value es₀ O₀)
          ∙ sorted es₀ O₀ h

      pub closed_length : length (take k O) ≡ length es
      closed_length = sym (ones (take k O) (λ j l. omega (arith, all_taken (places es₀) O₀ h.ordered (places es) O k i s.closing all j l, length_places es))) ∙ length_at_positions es (take k O) closed_stored
        where
          piece : (j : ℕ) → j < length es → length (at_position es j) ≡ 1
          piece j l = let w = at_within es j l in ap (λ o. length (option_to_list o)) w.1

          ones : (ks : List ℕ) → ((j : ℕ) → j < length ks → get_or ks j gap_position < length es) → length (flat_map (at_position es) ks) ≡ length ks
          ones [] h = refl
          ones (k ∷ ks) h = length-append (at_position es k) (flat_map (at_position es) ks) ∙ omega (arith, piece k (h 0 (omega arith)), ones ks (λ j l. h (suc j) (omega arith)))
