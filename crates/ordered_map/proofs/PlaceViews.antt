-- The entries before a place, there, and after it, once its entry is written or removed.
use Rattle.std.proofs.Common.{◌≡◌, ◌≢◌, ℕ, zero, suc, ◌+◌, ◌-◌, ◌<◌, false, cond, List, [], ◌∷◌, ◌++◌, length, get_or, take, drop, set, map, slice_get, Option, None, Some, refl, sym, ap, subst, ◌∙◌, arith, String, string_bytes}
use Rattle.std.specs.List.{swap_remove, AllByRecursion, IsDistinct}
use Rattle.std.specs.Map.{keys_of, remove_entry, set_value}
use Rattle.std.specs.Option.{option_map, unwrap_or, IfSome}
use Rattle.std.specs.String.{string_eq, string_eq_equiv}
use Rattle.std.specs.declared.alloc.Global.{Global}
use Rattle.std.proofs.lemmas.List.{drop_more, get_or_read, map-append, set-get_or, take-append-drop, take_more}
use Rattle.std.proofs.lemmas.List.Concat.{flat_map-append}
use Rattle.std.proofs.lemmas.Map.{none_passes_from_lookup, NonePasses}
use Rattle.std.proofs.lemmas.Option.{none-some, same_Some, slice_get-map, slice_get_within}
use Rattle.std.proofs.lemmas.Simd.{map-map}
use Rattle.indexmap.specs.IndexMap.{set_value_at}
use Rattle.indexmap.specs.Layout.{length-set_value_at}
use Rattle.indexmap.proofs.MapLemmas.{absent_before}
use Rattle.ordered_map.specs.Borrows.{WritesValue}
use Rattle.ordered_map.specs.Entries.{entries, in_order, is_text, text_at, Ordered}
use Rattle.ordered_map.specs.Layout.{at_position, by_position, entries_at, entries_of, gap_position, key_value, placed_entry, places, IsOrdered, IsStored, LeavesGap}
use Rattle.ordered_map.specs.declared.gaps.Placed.{Placed}
use Rattle.ordered_map.proofs.Around.{place_of_position, place_within, position_at_place}
use Rattle.ordered_map.proofs.ByPlace.{in_order_distinct, place_of, without_place}
use Rattle.ordered_map.proofs.ClosedViews.{new_places, same_keys}
use Rattle.ordered_map.proofs.Found.{remove_middle, set_middle}
use Rattle.ordered_map.proofs.FlatMaps.{at_position_here, get_or_map_at}
use Rattle.ordered_map.proofs.Removal.{changed_after, changed_before, length_swapped, removed_after, removed_before, removed_here, removed_ordered, swapped_moved, swapped_others}
use Rattle.ordered_map.proofs.MapViews.{distinct, sorted}

pub if_some : {A : Type 0} (P : A → Type 0) (r : Option A) (x : A) → r ≡ Some x → IfSome r P → P x
if_some P None x e h = absurd (none-some x e)
if_some P (Some y) x e h = subst P (same_Some y x e) h

module _ {V : Type 0} where
  set_here : (es : List (String Global × Placed V)) (at : ℕ) (key : String Global) (p w : Placed V) → slice_get es at ≡ Some (key, p) → slice_get (set_value_at es at w) at ≡ Some (key, w)
  set_here [] at key p w is = absurd (none-some (key, p) is)
  set_here (e ∷ es) zero key p w is = ap (λ (x : String Global × Placed V). Some (x.0, w)) (same_Some e (key, p) is)
  set_here (e ∷ es) (suc at) key p w is = set_here es at key p w is

  set_others : (es : List (String Global × Placed V)) (at : ℕ) (w : Placed V) (j : ℕ) → j ≢ at → slice_get (set_value_at es at w) j ≡ slice_get es j
  set_others [] at w j ne = refl
  set_others (e ∷ es) zero w zero ne = absurd (ne refl)
  set_others (e ∷ es) zero w (suc j) ne = refl
  set_others (e ∷ es) (suc at) w zero ne = refl
  set_others (e ∷ es) (suc at) w (suc j) ne = set_others es at w j (λ is. ne (ap suc is))

  key_at : (P : String Global → Type 0) (es : List (String Global × Placed V)) (at : ℕ) (e : String Global × Placed V) → AllByRecursion P (keys_of es) → slice_get es at ≡ Some e → P e.0
  key_at P [] at e a is = absurd (none-some e is)
  key_at P (x ∷ es) zero e a is = subst (λ (y : String Global × Placed V). P y.0) (same_Some x e is) a.0
  key_at P (x ∷ es) (suc at) e a is = key_at P es at e a.1 is

  -- a write at a position is one at its key
  set_by_position : (es : List (String Global × Placed V)) (at : ℕ) (key : String Global) (p w : Placed V) → IsDistinct string_eq (keys_of es) → slice_get es at ≡ Some (key, p)
      → map without_place (by_position (set_value_at es at w)) ≡ set_value (string_eq key) (map without_place (by_position es)) w.value
  unfolding IsDistinct
  set_by_position [] at key p w d is = refl
  set_by_position (e ∷ es) zero key p w d is =
      sym (ap (λ b. cond b ((e.0, w.value) ∷ map without_place (by_position es)) ((e.0, e.1.value) ∷ set_value (string_eq key) (map without_place (by_position es)) w.value)) (ap (string_eq key) (ap (λ (x : String Global × Placed V). x.0) (same_Some e (key, p) is)) ∙ string_eq_equiv.refl key))
  set_by_position (e ∷ es) (suc at) key p w d is =
      let differs : string_eq key e.0 ≡ false = string_eq_equiv.symm key e.0 ∙ key_at (λ k. string_eq e.0 k ≡ false) es at (key, p) d.0 is in
      ap (λ l. (e.0, e.1.value) ∷ l) (set_by_position es at key p w d.1 is)
      ∙ sym (ap (λ b. cond b ((e.0, w.value) ∷ map without_place (by_position es)) ((e.0, e.1.value) ∷ set_value (string_eq key) (map without_place (by_position es)) w.value)) differs)

  pub entries_append : (es : List (String Global × Placed V)) (xs ys : List ℕ) → entries_of es (xs ++ ys) ≡ entries_of es xs ++ entries_of es ys
  entries_append es xs ys = ap (map key_value) (flat_map-append (at_position es) xs ys) ∙ map-append key_value _ _

  module _ (es : List (String Global × Placed V)) (order : List ℕ) where
    -- one more place
    pub entries_take : (k : ℕ) → k < length order → entries_of es (take (k + 1) order) ≡ entries_of es (take k order) ++ entries_at es order k
    entries_take k l = ap (entries_of es) (take_more order k gap_position l) ∙ entries_append es (take k order) (get_or order k gap_position ∷ [])

    pub entries_drop : (k : ℕ) → k < length order → entries_of es (drop k order) ≡ entries_at es order k ++ entries_of es (drop (k + 1) order)
    entries_drop k l = ap (entries_of es) (drop_more order k gap_position l) ∙ entries_append es (get_or order k gap_position ∷ []) (drop (k + 1) order)

    -- before a place, there, and after it
    pub entries_around : (k : ℕ) → k < length order → entries_of es order ≡ entries_of es (take k order) ++ (entries_at es order k ++ entries_of es (drop (k + 1) order))
    entries_around k l = ap (entries_of es) (sym (take-append-drop k order)) ∙ entries_append es (take k order) (drop k order) ∙ ap (λ r. entries_of es (take k order) ++ r) (entries_drop k l)

    pub at_entry : (k : ℕ) (key : String Global) (p : Placed V) → slice_get es (get_or order k gap_position) ≡ Some (key, p) → entries_at es order k ≡ (key, p.value) ∷ []
    at_entry k key p is = ap (λ l. map key_value (l ++ [])) (at_position_here es (get_or order k gap_position) (key, p) is)

  module _ (es : List (String Global × Placed V)) (order : List ℕ) (h : IsStored es order) (at : ℕ) (key : String Global) (p : Placed V) (here : slice_get es at ≡ Some (key, p)) where
    -- its place
    pub own_place : (k : ℕ) → get_or order k gap_position ≡ at → p.place ≡ k
    own_place k is = place_of_position (λ e. e.1.place) es order h.ordered k (key, p) (ap (slice_get es) is ∙ here)

    pub within : p.place < length order
    within = place_within (λ e. e.1.place) es order h.ordered at (key, p) here

    at_place : get_or order p.place gap_position ≡ at
    at_place = position_at_place (λ e. e.1.place) es order h.ordered at (key, p) here

    next : suc p.place ≡ p.place + 1
    next = omega arith

    -- the entries around it
    pub split : entries_of es order ≡ entries_of es (take p.place order) ++ (key, p.value) ∷ entries_of es (drop (p.place + 1) order)
    split = entries_around es order p.place within ∙ ap (λ l. entries_of es (take p.place order) ++ (l ++ entries_of es (drop (p.place + 1) order))) (at_entry es order p.place key p (ap (slice_get es) at_place ∙ here))

    pub absent_before_place : NonePasses (string_eq key) (entries_of es (take p.place order))
    absent_before_place = none_passes_from_lookup (string_eq key) _ (absent_before string_eq_equiv (entries_of es (take p.place order)) (entries_of es (drop (p.place + 1) order)) (key, p.value)
        (subst (λ l. IsDistinct string_eq (keys_of l)) (sym (sorted es order h) ∙ split) (in_order_distinct (by_position es) (distinct es order h))))

    -- the entries around a gap in its place
    pub without_entry : (es' : List (String Global × Placed V)) (order' : List ℕ) → IsStored es' order' → length order' ≡ length order → LeavesGap p.place es order es' order' → in_order (by_position es') ≡ remove_entry (string_eq key) (in_order (by_position es))
    without_entry es' order' stored long gap =
        sym (sorted es' order' stored) ∙ entries_around es' order' p.place (omega (arith, within, long)) ∙ (λ i. gap.before i ++ (gap.here i ++ gap.after i))
        ∙ sym (ap (remove_entry (string_eq key)) (sym (sorted es order h) ∙ split) ∙ remove_middle (string_eq key) (key, p.value) _ (string_eq_equiv.refl key) _ absent_before_place)

    -- its value is written
    module _ (w : Placed V) (same : w.place ≡ p.place) where
      pub same_places : places (set_value_at es at w) ≡ places es
      same_places =
          let kept : w.place ≡ get_or (places es) at gap_position = same ∙ sym (get_or_map_at (λ e. e.1.place) es at (key, p) gap_position here) in
          new_places es at w ∙ ap (λ n. set (places es) at n) kept ∙ set-get_or (places es) at gap_position

      pub write_stored : IsStored (set_value_at es at w) order
      write_stored = record {
        ordered = subst (λ l. IsOrdered l order) (sym same_places) h.ordered;
        distinct = subst (IsDistinct string_eq) (sym (same_keys es at w)) h.distinct;
      }

      pub write_before : entries_of (set_value_at es at w) (take p.place order) ≡ entries_of es (take p.place order)
      write_before = ap (map key_value) (changed_before (λ e. e.1.place) es order h.ordered (set_value_at es at w) at (key, p) (key, w) here (set_here es at key p w here) (set_others es at w))

      pub write_here : entries_at (set_value_at es at w) order p.place ≡ (key, w.value) ∷ []
      write_here = at_entry (set_value_at es at w) order p.place key w (ap (slice_get (set_value_at es at w)) at_place ∙ set_here es at key p w here)

      pub write_after : entries_of (set_value_at es at w) (drop (p.place + 1) order) ≡ entries_of es (drop (p.place + 1) order)
      write_after = subst (λ q. entries_of (set_value_at es at w) (drop q order) ≡ entries_of es (drop q order)) next
          (ap (map key_value) (changed_after (λ e. e.1.place) es order h.ordered (set_value_at es at w) at (key, p) (key, w) here (set_here es at key p w here) (set_others es at w)))

      pub write_in_order : in_order (by_position (set_value_at es at w)) ≡ set_value (string_eq key) (in_order (by_position es)) w.value
      write_in_order =
          sym (sorted (set_value_at es at w) order write_stored) ∙ entries_around (set_value_at es at w) order p.place within ∙ (λ i. write_before i ++ (write_here i ++ write_after i))
          ∙ sym (ap (λ l. set_value (string_eq key) l w.value) (sym (sorted es order h) ∙ split) ∙ set_middle (string_eq key) (key, p.value) _ (string_eq_equiv.refl key) w.value _ absent_before_place)

    -- it is removed
    module _ (n : ℕ) (last : String Global × Placed V) (lasts : slice_get es n ≡ Some last) (long : length es ≡ suc n) where
      in' : at < suc n
      in' = omega (arith, slice_get_within es at (key, p) here)

      abbrev rest : List (String Global × Placed V)
      rest = swap_remove es at (key, p)

      short : length rest ≡ n
      short = length_swapped es at n last (key, p) long in' lasts

      moved : at < n → slice_get rest at ≡ Some last
      moved = swapped_moved es at n last (key, p) long in' lasts

      others : (j : ℕ) → j < n → j ≢ at → slice_get rest j ≡ slice_get es j
      others = swapped_others es at n last (key, p) long in' lasts

      pub last_within : last.1.place < length order
      last_within = place_within (λ e. e.1.place) es order h.ordered n last lasts

      pub remove_stored : IsDistinct string_eq (keys_of rest) → IsStored rest (set (set order last.1.place at) p.place gap_position)
      remove_stored distinct = record {
        ordered = removed_ordered (λ e. e.1.place) es order h.ordered rest at n (key, p) last here lasts long short moved others;
        distinct = distinct;
      }

      pub leaves_gap : LeavesGap p.place es order rest (set (set order last.1.place at) p.place gap_position)
      leaves_gap = record {
        before = ap (map key_value) (removed_before (λ e. e.1.place) es order h.ordered rest at n (key, p) last here lasts long short moved others);
        here = ap (λ l. map key_value (l ++ [])) (removed_here (λ e. e.1.place) es order h.ordered rest at n (key, p) last here lasts long short moved others);
        after = subst (λ q. entries_of rest (drop q (set (set order last.1.place at) p.place gap_position)) ≡ entries_of es (drop q order)) next
            (ap (map key_value) (removed_after (λ e. e.1.place) es order h.ordered rest at n (key, p) last here lasts long short moved others));
      }

  module _ (es : List (String Global × Placed V)) (order : List ℕ) (h : IsStored es order) where
    -- a removal, by what its calls ensure
    pub record Removal (at : ℕ) (gone : Placed V) (last : ℕ) (es' : List (String Global × Placed V)) : Type 0 where
      pub stored : IsStored es' (set (set order last at) gone.place gap_position)
      pub gap : LeavesGap gone.place es order es' (set (set order last at) gone.place gap_position)
      pub last_within : last < length order
      pub gone_within : gone.place < length order

    pub removal : (at : ℕ) (gone last : String Global × Placed V) (es' : List (String Global × Placed V))
        → Some gone ≡ slice_get es at → Some last ≡ slice_get es (length es - 1) → es' ≡ swap_remove es at gone → IsDistinct string_eq (keys_of es') → Removal at gone.1 last.1.place es'
    removal at gone last es' found lasts swapped unique =
        let n = length es - 1 in
        let long : length es ≡ suc n = omega (arith, slice_get_within es n last (sym lasts)) in
        subst (λ l. Removal at gone.1 last.1.place l) (sym swapped) (record {
          stored = remove_stored es order h at gone.0 gone.1 (sym found) n last (sym lasts) long (subst (λ l. IsDistinct string_eq (keys_of l)) swapped unique);
          gap = leaves_gap es order h at gone.0 gone.1 (sym found) n last (sym lasts) long;
          last_within = last_within es order h at gone.0 gone.1 (sym found) n last (sym lasts) long;
          gone_within = within es order h at gone.0 gone.1 (sym found);
        })

    -- a write at a place, by what its calls ensure
    pub record PlaceWritten (k position : ℕ) (es' : List (String Global × Placed V)) (key : String Global) (old : V) (w : Placed V) : Type 0 where
      pub stored : IsStored es' order
      pub own : w.place ≡ k
      pub before : entries_of es' (take k order) ≡ entries_of es (take k order)
      pub was : entries_at es order k ≡ (key, old) ∷ []
      pub here : entries_at es' order k ≡ (key, w.value) ∷ []
      pub after : entries_of es' (drop (k + 1) order) ≡ entries_of es (drop (k + 1) order)
      pub same_length : length es' ≡ length es
      pub written : option_map (λ e. e.1) (slice_get es' position) ≡ Some w

    pub write_place : (k : ℕ) (key : String Global) (p : Placed V) (position : ℕ) (new : V) → k < length order → position ≡ get_or order k position → slice_get es position ≡ Some (key, p)
        → PlaceWritten k position (set_value_at es position (record { place = p.place; value = new })) key p.value (record { place = p.place; value = new })
    write_place k key p position new below read found =
        let at : get_or order k gap_position ≡ position = sym (get_or_read order k position below read gap_position) in
        let w : Placed V = record { place = p.place; value = new } in
        let own = own_place es order h position key p found k at in
        record {
          stored = write_stored es order h position key p found w refl;
          own = own;
          before = subst (λ q. entries_of (set_value_at es position w) (take q order) ≡ entries_of es (take q order)) own (write_before es order h position key p found w refl);
          was = at_entry es order k key p (ap (slice_get es) at ∙ found);
          here = at_entry (set_value_at es position w) order k key w (ap (slice_get (set_value_at es position w)) at ∙ set_here es position key p w found);
          after = subst (λ q. entries_of (set_value_at es position w) (drop (q + 1) order) ≡ entries_of es (drop (q + 1) order)) own (write_after es order h position key p found w refl);
          same_length = length-set_value_at es position w;
          written = ap (option_map (λ e. e.1)) (set_here es position key p w found);
        }

    -- the entry written is removed
    pub write_removed : (k position : ℕ) (es' : List (String Global × Placed V)) (key : String Global) (old : V) (w : Placed V) → PlaceWritten k position es' key old w → (r : Option (Placed V)) (es'' : List (String Global × Placed V)) (order'' : List ℕ)
        → r ≡ option_map (λ e. e.1) (slice_get es' position) → IfSome r (λ p. LeavesGap p.place es' order es'' order'') → LeavesGap k es' order es'' order''
    write_removed k position es' key old w s r es'' order'' is gap = subst (λ q. LeavesGap q es' order es'' order'') s.own (if_some (λ p. LeavesGap p.place es' order es'' order'') r w (is ∙ s.written) gap)

    -- what callers see of an entry
    module _ {S : Type 0} (m : Ordered V S) (same : by_position es ≡ m.by_position) (at : ℕ) (p : Placed V) (found : Some p ≡ option_map (λ e. e.1) (slice_get es at)) where
      pub entry_here : (key : String Global) × (slice_get es at ≡ Some (key, p)) × (text_at m at ≡ string_bytes key)
      entry_here = by (slice_get es at) refl (sym found)
        where
          by : (o : Option (String Global × Placed V)) → slice_get es at ≡ o → option_map (λ e. e.1) o ≡ Some p → (key : String Global) × (slice_get es at ≡ Some (key, p)) × (text_at m at ≡ string_bytes key)
          by None e is = absurd (none-some p is)
          by (Some x) e is = (
            x.0,
            e ∙ ap (λ q. Some (x.0, q)) (same_Some x.1 p is),
            ap (λ ps. unwrap_or (option_map (λ p. string_bytes p.1.0) (slice_get ps at)) []) (sym same) ∙ ap (λ o. unwrap_or (option_map (λ p. string_bytes p.1.0) o) []) (slice_get-map placed_entry es at ∙ ap (option_map placed_entry) e),
          )

      -- it is written
      pub write_seen : (w : V) (new : Ordered V S) → new.by_position ≡ by_position (set_value_at es at (record { place = p.place; value = w })) → new.hasher ≡ m.hasher → new.room ≡ m.room → WritesValue (text_at m at) m w new
      write_seen w new now hasher room =
          let key = entry_here.0 in
          let here = entry_here.1 in
          let v : Placed V = record { place = p.place; value = w } in
          subst (λ t. WritesValue t m w new) (sym entry_here.2) (record {
            written = ap in_order now ∙ write_in_order es order h at key p here v refl ∙ ap (λ ps. set_value (string_eq key) (in_order ps) w) same;
            places = ap (map place_of) now ∙ map-map place_of placed_entry (set_value_at es at v) ∙ same_places es order h at key p here v refl ∙ sym (map-map place_of placed_entry es) ∙ ap (map place_of) same;
            by_position = ap (map without_place) now ∙ set_by_position es at key p v h.distinct here ∙ ap (λ ps. set_value (string_eq key) (map without_place ps) w) same;
            hasher = hasher;
            room = room;
          })

      -- it is removed
      pub removal_seen : (es' : List (String Global × Placed V)) (order' : List ℕ) → IsStored es' order' → length order' ≡ length order → LeavesGap p.place es order es' order' → in_order (by_position es') ≡ remove_entry (is_text (text_at m at)) (entries m)
      removal_seen es' order' stored long gap =
          subst (λ t. in_order (by_position es') ≡ remove_entry (is_text t) (entries m)) (sym entry_here.2)
          (without_entry es order h at entry_here.0 p entry_here.1 es' order' stored long gap ∙ ap (λ ps. remove_entry (string_eq entry_here.0) (in_order ps)) same)
