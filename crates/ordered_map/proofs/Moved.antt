-- An entry that moves to the end.
use Rattle.std.proofs.Common.{◌≡◌, ℕ, ◌+◌, ◌<◌, ◌≤◌, true, false, is_some, List, [], ◌∷◌, ◌++◌, length, get_or, take, drop, set, map, slice_get, position, Option, None, Some, refl, sym, ap, subst, ◌∙◌, arith, String}
use Rattle.std.specs.List.{flat_map, IsDistinct}
use Rattle.std.specs.Map.{keys_of, lookup, values_of}
use Rattle.std.specs.Option.{option_map, option_to_list}
use Rattle.std.specs.String.{string_eq, string_eq_equiv}
use Rattle.std.specs.declared.alloc.Global.{Global}
use Rattle.std.proofs.lemmas.Bool.{false≢true}
use Rattle.std.proofs.lemmas.List.{append-nil, drop-set-lt, get_or-set_same, length-set, take-set}
use Rattle.std.proofs.lemmas.Map.{none_passes_from_lookup}
use Rattle.std.proofs.lemmas.Option.{slice_get-map, slice_get_within}
use Rattle.indexmap.specs.IndexMap.{set_value_at}
use Rattle.indexmap.specs.Layout.{length-set_value_at}
use Rattle.ordered_map.specs.Entries.{in_order, is_text, moved_to_end}
use Rattle.ordered_map.specs.Layout.{at_position, by_position, entries_at, entries_of, gap_position, key_value, places, room_of, IsOrdered, IsStored}
use Rattle.ordered_map.specs.declared.gaps.Placed.{Placed}
use Rattle.ordered_map.proofs.ClosedViews.{length_places, new_places, same_entries, same_keys}
use Rattle.ordered_map.proofs.Found.{entry_at, lookup_entry_middle, lookup_entry_none, remove_middle, remove_none, same_text}
use Rattle.ordered_map.proofs.OrderedPlaces.{moved_ordered}
use Rattle.ordered_map.proofs.FlatMaps.{at_position_past, fewer_entries, get_or_map_at, map_at_positions}
use Rattle.ordered_map.proofs.PlaceViews.{absent_before_place, at_entry, entries_append, entries_around, split, within}
use Rattle.ordered_map.proofs.MapViews.{length_at_positions, lookup_stored, sorted}

-- a key that no entry has
pub unmoved : {V : Type 0} (es : List (String Global × Placed V)) (order : List ℕ) (h : IsStored es order) (text : List ℕ) → lookup (is_text text) es ≡ None → in_order (by_position es) ≡ moved_to_end (is_text text) (in_order (by_position es))
unmoved es order h text gone =
    let old = in_order (by_position es) in
    let fails = none_passes_from_lookup (is_text text) old (lookup_stored es order h text ∙ ap (option_map (λ p. p.value)) gone) in
    sym (append-nil old) ∙ sym (λ i. remove_none (is_text text) old fails i ++ option_to_list (lookup_entry_none (is_text text) old fails i))

module _ {V : Type 0} (es : List (String Global × Placed V)) (order : List ℕ) (h : IsStored es order) (at : ℕ) (key : String Global) (p : Placed V) (here : slice_get es at ≡ Some (key, p)) where
  old_place : get_or (places es) at gap_position ≡ p.place
  old_place = get_or_map_at (λ e. e.1.place) es at (key, p) gap_position here

  moved_stored : IsStored (set_value_at es at (record { place = length order; value = p.value })) (set order p.place gap_position ++ at ∷ [])
  moved_stored = record {
    ordered =
        subst (λ L. IsOrdered L (set order p.place gap_position ++ at ∷ [])) (sym (new_places es at (record { place = length order; value = p.value })))
        (subst (λ n. IsOrdered (set (places es) at (length order)) (set order n gap_position ++ at ∷ [])) old_place
        (moved_ordered (places es) order h.ordered at (omega (arith, slice_get_within es at (key, p) here, length_places es))));
    distinct = subst (IsDistinct string_eq) (sym (same_keys es at (record { place = length order; value = p.value }))) h.distinct;
  }

  -- only places and positions changed
  same_at : (ks : List ℕ) → entries_of (set_value_at es at (record { place = length order; value = p.value })) ks ≡ entries_of es ks
  same_at ks =
      let is : slice_get (values_of es) at ≡ Some p = slice_get-map (λ (e : String Global × Placed V). e.1) es at ∙ ap (option_map (λ (e : String Global × Placed V). e.1)) here in
      map_at_positions key_value (set_value_at es at (record { place = length order; value = p.value })) ks
      ∙ ap (λ l. flat_map (at_position l) ks) (same_entries es at 0 p (record { place = length order; value = p.value }) is refl) ∙ sym (map_at_positions key_value es ks)

  left_entries : entries_of es (set order p.place gap_position) ≡ entries_of es (take p.place order) ++ entries_of es (drop (p.place + 1) order)
  left_entries =
      let in' = within es order h at key p here in
      let gap : entries_at es (set order p.place gap_position) p.place ≡ [] =
      ap (λ j. map key_value (at_position es j ++ [])) (get_or-set_same order p.place gap_position gap_position in')
      ∙ ap (λ l. map key_value (l ++ [])) (at_position_past es gap_position (omega (arith, h.ordered.fits, length_places es))) in
      entries_around es (set order p.place gap_position) p.place (omega (arith, length-set order p.place gap_position, in'))
      ∙ (λ i. entries_of es (take-set order p.place gap_position i) ++ (gap i ++ entries_of es (drop-set-lt (p.place + 1) order p.place gap_position (omega arith) i)))

  moved_in_order : (text : List ℕ) → is_text text key ≡ true → in_order (by_position (set_value_at es at (record { place = length order; value = p.value }))) ≡ moved_to_end (is_text text) (in_order (by_position es))
  moved_in_order text passes =
      let A = entries_of es (take p.place order) in
      let B = entries_of es (drop (p.place + 1) order) in
      let e : String Global × V = (key, p.value) in
      let fails = absent_before_place es order h at key p here in
      let own = string_eq_equiv.refl key in
      sym (sorted _ _ moved_stored)
      ∙ same_at (set order p.place gap_position ++ at ∷ [])
      ∙ entries_append es (set order p.place gap_position) (at ∷ [])
      ∙ (λ i. left_entries i ++ at_entry es (at ∷ []) 0 key p here i)
      ∙ sym (ap (λ t. moved_to_end (is_text t) (in_order (by_position es))) (same_text text key passes)
      ∙ ap (moved_to_end (string_eq key)) (sym (sorted es order h) ∙ split es order h at key p here)
      ∙ (λ i. remove_middle (string_eq key) e B own A fails i ++ option_to_list (lookup_entry_middle (string_eq key) e B own A fails i)))

-- a move, by what its calls ensure
module _ {V : Type 0} (es : List (String Global × Placed V)) (order : List ℕ) (h : IsStored es order) (text : List ℕ) (at : ℕ) (p : Placed V) where
  pub record Move (end : ℕ) : Type 0 where
    pub stored : IsStored (set_value_at es at (record { place = end; value = p.value })) (set order p.place gap_position ++ at ∷ [])
    pub entries : in_order (by_position (set_value_at es at (record { place = end; value = p.value }))) ≡ moved_to_end (is_text text) (in_order (by_position es))
    pub within : p.place < length order
    pub fewer : length (set_value_at es at (record { place = end; value = p.value })) ≤ length order

  pub move : (end : ℕ) → end ≡ length order → Some at ≡ position (is_text text) (keys_of es) → Some p ≡ slice_get (values_of es) at → Move end
  move end last index value =
      let f = entry_at (is_text text) es at p index value in
      subst Move (sym last) (record {
        stored = moved_stored es order h at f.key p f.here;
        entries = moved_in_order es order h at f.key p f.here text f.passes;
        within = within es order h at f.key p f.here;
        fewer = omega (arith, length-set_value_at es at (record { place = length order; value = p.value }), length_at_positions es order h, fewer_entries es order);
      })

pub none_of : {A : Type 0} (o : Option A) → false ≡ is_some o → o ≡ None
none_of None e = refl
none_of (Some x) e = absurd (false≢true e)

-- a move takes the room of one entry at most
pub room_moved : (spare places entries spare' places' entries' : ℕ) → spare' ≡ spare → places ≤ places' + 1 → entries' ≡ entries → room_of spare places entries ≤ room_of spare' places' entries' + 1
room_moved spare places entries spare' places' entries' a b c = omega arith
