-- What the fields of a map say of what callers see.
use Rattle.std.proofs.Common.{◌≡◌, ℕ, ◌<◌, List, [], ◌∷◌, ◌++◌, length, map, position, slice_get, Bool, true, false, cond, Option, None, Some, Result, Ok, Err, OnErr, option_map, refl, sym, ap, subst, ◌∙◌, arith, String, string_bytes}
use Rattle.std.specs.List.{IsDistinct}
use Rattle.std.specs.Map.{keys_of, lookup, remove_entry, values_of}
use Rattle.std.specs.Option.{unwrap_or}
use Rattle.std.specs.String.{string_eq}
use Rattle.std.specs.declared.alloc.Global.{Global}
use Rattle.std.proofs.lemmas.List.{length-map, map_push}
use Rattle.std.proofs.lemmas.List.Quantifiers.{position-Some}
use Rattle.std.proofs.lemmas.Map.{none_passes_from_lookup}
use Rattle.std.proofs.lemmas.Option.{get_or_from_slice_get, none-some, slice_get-map}
use Rattle.std.proofs.lemmas.Simd.{map-map}
use Rattle.indexmap.specs.IndexMap.{insert_entry}
use Rattle.indexmap.proofs.MapLemmas.{absent_from_lookup, insert_entry-absent, Found, Found-position, Missing-position}
use Rattle.ordered_map.specs.Entries.{Ordered, in_order, entries, is_text, text_at, HasDistinctKeys}
use Rattle.ordered_map.specs.Layout.{at_positions, by_position, entries_of, gap_position, key_value, placed_entry, IsOrdered, IsStored}
use Rattle.ordered_map.specs.declared.gaps.Placed.{Placed}
use Rattle.ordered_map.proofs.ByPlace.{in_order_distinct, keys_are, length_in_order, lookup_in_order, place_of, sorted_by_place, without_place}
use Rattle.ordered_map.proofs.Found.{remove_none, same_text}
use Rattle.ordered_map.proofs.FlatMaps.{at_within, map_at_positions}
use Rattle.ordered_map.proofs.Removal.{pushed_at_positions, pushed_ordered}

pub on_err : {A E : Type 0} {P : Type 0} (r : Result A E) → P → OnErr r P
on_err (Ok x) p = tt
on_err (Err e) p = p

-- what callers see of a key, its value and its position
module _ {V S : Type 0} (m : Ordered V S) (h : HasDistinctKeys m) (text : List ℕ) where
  pub record FoundText (at : ℕ) : Type 0 where
    pub same : text_at m at ≡ text
    pub found : V
    pub here : option_map (λ p. p.1.1) (slice_get m.by_position at) ≡ Some found
    pub value : Some found ≡ lookup (is_text text) (entries m)

  found_pair : (at : ℕ) → Some at ≡ position (is_text text) (map (λ p. p.1.0) m.by_position) → Found (is_text text) (map without_place m.by_position) at
  found_pair at is = Found-position (is_text text) (map without_place m.by_position) at (ap (position (is_text text)) (keys_are m.by_position) ∙ sym is)

  pub found_text : (at : ℕ) → Some at ≡ position (is_text text) (map (λ p. p.1.0) m.by_position) → FoundText at
  found_text at is =
      let f = found_pair at is in
      let w = at_within m.by_position at (omega (arith, f.within, length-map m.by_position without_place)) in
      let key = position-Some (is_text text) (map (λ p. p.1.0) m.by_position) at w.0.1.0 (sym is) in
      let here = get_or_from_slice_get (map (λ p. p.1.0) m.by_position) at w.0.1.0 w.0.1.0 (slice_get-map (λ p. p.1.0) m.by_position at ∙ ap (option_map (λ p. p.1.0)) w.1) in
      record {
        same = ap (λ o. unwrap_or (option_map (λ p. string_bytes p.1.0) o) []) w.1 ∙ sym (same_text text w.0.1.0 (ap (is_text text) (sym here) ∙ key.1));
        found = w.0.1.1;
        here = ap (option_map (λ p. p.1.1)) w.1;
        value =
            sym (slice_get-map (λ e. e.1) (map without_place m.by_position) at ∙ ap (option_map (λ e. e.1)) (slice_get-map without_place m.by_position at ∙ ap (option_map without_place) w.1))
            ∙ sym (lookup_in_order m.by_position h.by_position text ∙ f.value);
      }

  -- a key that no entry has
  pub missing_text : None ≡ position (is_text text) (map (λ p. p.1.0) m.by_position) → (None ≡ lookup (is_text text) (entries m)) × (entries m ≡ remove_entry (is_text text) (entries m))
  missing_text is =
      let gone : lookup (is_text text) (entries m) ≡ None = lookup_in_order m.by_position h.by_position text ∙ (Missing-position (is_text text) (map without_place m.by_position) (ap (position (is_text text)) (keys_are m.by_position) ∙ sym is)).value in
      (sym gone, sym (remove_none (is_text text) (entries m) (none_passes_from_lookup (is_text text) (entries m) gone)))

module _ {V : Type 0} where
  lookup_pairs : (test : String Global → Bool) (es : List (String Global × Placed V)) → lookup test (map without_place (by_position es)) ≡ option_map (λ p. p.value) (lookup test es)
  lookup_pairs test [] = refl
  lookup_pairs test (e ∷ es) = elim (test e.0) as (λ b. cond b (Some e.1.value) (lookup test (map without_place (by_position es))) ≡ option_map (λ p. p.value) (cond b (Some e.1) (lookup test es))) [ true ↦ refl | false ↦ lookup_pairs test es ]

  none_found : (r : Option (Placed V)) → option_map (λ p. p.value) r ≡ None → r ≡ None
  none_found None e = refl
  none_found (Some p) e = absurd (none-some p.value (sym e))

  -- what is at a position
  pub shown_at : {A S : Type 0} (f : ℕ × (String Global × V) → A) (es : List (String Global × Placed V)) (at : ℕ) (o : Option (String Global × Placed V)) (m : Ordered V S) → o ≡ slice_get es at → by_position es ≡ m.by_position
      → option_map f (option_map placed_entry o) ≡ option_map f (slice_get m.by_position at)
  shown_at f es at o m is same = ap (option_map f) (ap (option_map placed_entry) is ∙ sym (slice_get-map placed_entry es at) ∙ ap (λ ps. slice_get ps at) same)

  pub value_at : {S : Type 0} (es : List (String Global × Placed V)) (at : ℕ) (o : Option (Placed V)) (m : Ordered V S) → o ≡ slice_get (values_of es) at → by_position es ≡ m.by_position
      → option_map (λ p. p.value) o ≡ option_map (λ p. p.1.1) (slice_get m.by_position at)
  value_at es at o m is same =
      ap (option_map (λ p. p.value)) is ∙ sym (slice_get-map (λ p. p.value) (values_of es) at)
      ∙ ap (λ l. slice_get l at) (map-map (λ p. p.value) (λ e. e.1) es ∙ sym (map-map (λ p. p.1.1) placed_entry es) ∙ ap (map (λ p. p.1.1)) same) ∙ slice_get-map (λ p. p.1.1) m.by_position at

  -- the entries at the positions of the order are those in the order of their places
  pub sorted : (es : List (String Global × Placed V)) (order : List ℕ) → IsStored es order → entries_of es order ≡ in_order (by_position es)
  sorted es order h =
      sym (map-map without_place placed_entry (at_positions es order)) ∙ ap (map without_place) (map_at_positions placed_entry es order)
      ∙ sorted_by_place (by_position es) order (subst (λ l. IsOrdered l order) (sym (map-map place_of placed_entry es)) h.ordered)

module _ {V : Type 0} (es : List (String Global × Placed V)) (order : List ℕ) (h : IsStored es order) where
  pub length_at_positions : length (at_positions es order) ≡ length es
  length_at_positions = sym (length-map _ key_value) ∙ ap length (sorted es order h) ∙ length_in_order (by_position es) ∙ length-map es placed_entry

  pub distinct : IsDistinct string_eq (map (λ p. p.1.0) (by_position es))
  distinct = subst (IsDistinct string_eq) (sym (map-map (λ p. p.1.0) placed_entry es)) h.distinct

  pub stored_distinct : {S : Type 0} (m : Ordered V S) → by_position es ≡ m.by_position → HasDistinctKeys m
  stored_distinct m is = let d = subst (λ ps. IsDistinct string_eq (map (λ p. p.1.0) ps)) is distinct in record { in_order = in_order_distinct m.by_position d; by_position = d }

  -- the value of a key is the same in order and as it is stored
  pub lookup_stored : (text : List ℕ) → lookup (is_text text) (in_order (by_position es)) ≡ option_map (λ p. p.value) (lookup (is_text text) es)
  lookup_stored text = lookup_in_order (by_position es) distinct text ∙ lookup_pairs (is_text text) es

  -- a new entry is last
  pushed_stored : (e : String Global × Placed V) → length es < gap_position → e.1.place ≡ length order → IsDistinct string_eq (keys_of (es ++ e ∷ [])) → IsStored (es ++ e ∷ []) (order ++ length es ∷ [])
  pushed_stored e small last distinct = record { ordered = pushed_ordered (λ e. e.1.place) es order h.ordered e small last; distinct = distinct }

  pushed_entries : (e : String Global × Placed V) → length es < gap_position → e.1.place ≡ length order → entries_of (es ++ e ∷ []) (order ++ length es ∷ []) ≡ entries_of es order ++ key_value e ∷ []
  pushed_entries e small last = ap (map key_value) (pushed_at_positions (λ e. e.1.place) es order h.ordered e small last) ∙ map_push key_value (at_positions es order) e

  -- a push, by what its calls ensure
  pub push_view : (es' : List (String Global × Placed V)) (order' : List ℕ) (key : String Global) (value : V) (position space : ℕ) (old : List (String Global × V))
      → in_order (by_position es) ≡ old → lookup (is_text (string_bytes key)) old ≡ None → position ≡ length es → position < gap_position → space ≡ length order
      → es' ≡ insert_entry string_eq es key (record { place = space; value = value }) → order' ≡ order ++ position ∷ [] → IsDistinct string_eq (keys_of es')
      → IsStored es' order' × (in_order (by_position es') ≡ old ++ (key, value) ∷ [])
  push_view es' order' key value position space old was new at room last inserted pushed unique =
      let e : String Global × Placed V = (key, record { place = space; value = value }) in
      let small : length es < gap_position = omega arith in
      let fresh : lookup (string_eq key) es ≡ None = none_found _ (sym (lookup_stored (string_bytes key)) ∙ ap (lookup (is_text (string_bytes key))) was ∙ new) in
      let after : es' ≡ es ++ e ∷ [] = inserted ∙ insert_entry-absent string_eq key e.1 es (absent_from_lookup (string_eq key) es fresh) in
      let longer : order' ≡ order ++ length es ∷ [] = pushed ∙ ap (λ n. order ++ n ∷ []) at in
      let distinct : IsDistinct string_eq (keys_of (es ++ e ∷ [])) = subst (λ l. IsDistinct string_eq (keys_of l)) after unique in
      let stored : IsStored es' order' = subst (λ l. IsStored l order') (sym after) (subst (IsStored (es ++ e ∷ [])) (sym longer) (pushed_stored e small last distinct)) in
      (stored, sym (sorted es' order' stored) ∙ (λ i. entries_of (after i) (longer i)) ∙ pushed_entries e small last ∙ ap (λ l. l ++ (key, value) ∷ []) (sorted es order h ∙ was))
