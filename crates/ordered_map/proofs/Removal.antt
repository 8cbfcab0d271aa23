-- The entries in order, once one is pushed or removed.
use Rattle.std.proofs.Common.{◌≡◌, ◌≢◌, ℕ, suc, ◌-◌, ◌<◌, ◌≤◌, List, [], ◌∷◌, ◌++◌, length, get_or, take, drop, set, map, slice_get, Some, refl, sym, ap, subst, ◌∙◌, arith, ⊎_elim}
use Rattle.std.specs.List.{flat_map, swap_remove}
use Rattle.std.specs.Option.{option_to_list}
use Rattle.std.proofs.lemmas.Bool.{cases_eq, cases_lt}
use Rattle.std.proofs.lemmas.List.{append-nil, length-map, length-set, length-take, length_push, map_push}
use Rattle.std.proofs.lemmas.List.Concat.{flat_map-append}
use Rattle.std.proofs.lemmas.Option.{get_or_from_slice_get, slice_get_within}
use Rattle.ordered_map.specs.Layout.{at_position, at_positions, gap_position, room_of, IsOrdered}
use Rattle.ordered_map.proofs.Around.{after, before, place_of_position, position_at_place}
use Rattle.ordered_map.proofs.OrderedPlaces.{last_apart, not_last, now_gap, now_moved, now_same, other_position, pushed, removed, without}
use Rattle.ordered_map.proofs.FlatMaps.{at_position_here, at_position_past, at_within, flat_map_same, get_or_map_at, same_after, same_before, slice_get_append, slice_get_push, slice_get_set_other, slice_get_set_same, slice_get_take}

-- a removal takes no room
pub room_kept : (spare places entries spare' places' entries' : ℕ) → spare ≤ spare' → places ≤ places' → entries' ≤ entries → room_of spare places entries ≤ room_of spare' places' entries'
room_kept spare places entries spare' places' entries' a b c = omega arith

-- the last element takes the position of the one that is removed
module _ {X : Type 0} (xs : List X) (at n : ℕ) (last d : X) (long : length xs ≡ suc n) (within : at < suc n) (is : slice_get xs n ≡ Some last) where
  pub length_swapped : length (swap_remove xs at d) ≡ n
  length_swapped = omega (arith, length-take (length xs - 1) (set xs at (get_or xs (length xs - 1) d)), length-set xs at (get_or xs (length xs - 1) d))

  last_is : get_or xs (length xs - 1) d ≡ last
  last_is = let one : length xs - 1 ≡ n = omega arith in ap (λ j. get_or xs j d) one ∙ get_or_from_slice_get xs n last d is

  pub swapped_moved : at < n → slice_get (swap_remove xs at d) at ≡ Some last
  swapped_moved l = slice_get_take _ (length xs - 1) at (omega arith) ∙ slice_get_set_same xs at _ (omega arith) ∙ ap Some last_is

  pub swapped_others : (j : ℕ) → j < n → j ≢ at → slice_get (swap_remove xs at d) j ≡ slice_get xs j
  swapped_others j l ne = slice_get_take _ (length xs - 1) j (omega arith) ∙ slice_get_set_other xs at j _ ne

module _ {X : Type 0} (place : X → ℕ) (xs : List X) (order : List ℕ) (h : IsOrdered (map place xs) order) where
  -- a new entry is last
  module _ (x : X) (room : length xs < gap_position) (last : place x ≡ length order) where
    pub pushed_ordered : IsOrdered (map place (xs ++ x ∷ [])) (order ++ length xs ∷ [])
    pushed_ordered =
        let small : length (map place xs) < gap_position = omega (arith, length-map xs place) in
        let is : map place (xs ++ x ∷ []) ≡ map place xs ++ length order ∷ [] = map_push place xs x ∙ ap (λ p. map place xs ++ p ∷ []) last in
        subst (λ ps. IsOrdered ps (order ++ length xs ∷ [])) (sym is) (subst (λ n. IsOrdered (map place xs ++ length order ∷ []) (order ++ n ∷ [])) (length-map xs place) (pushed (map place xs) order h small))

    same_old : (k : ℕ) → k < length order → at_position (xs ++ x ∷ []) (get_or order k gap_position) ≡ at_position xs (get_or order k gap_position)
    same_old k l = ⊎_elim
        (λ (below : get_or order k gap_position < length xs). ap option_to_list (slice_get_append xs (x ∷ []) (get_or order k gap_position) below))
        (λ (past : length xs ≤ get_or order k gap_position).
        let gap = h.gaps k (omega (arith, length-map xs place)) in
        at_position_past (xs ++ x ∷ []) _ (omega (arith, length_push xs x)) ∙ sym (at_position_past xs _ past))
        (cases_lt (get_or order k gap_position) (length xs))

    pub pushed_at_positions : at_positions (xs ++ x ∷ []) (order ++ length xs ∷ []) ≡ at_positions xs order ++ x ∷ []
    pushed_at_positions =
        flat_map-append (at_position (xs ++ x ∷ [])) order (length xs ∷ [])
        ∙ (λ i. flat_map_same (at_position (xs ++ x ∷ [])) (at_position xs) gap_position order order refl same_old i ++ (append-nil (at_position (xs ++ x ∷ []) (length xs)) ∙ at_position_here (xs ++ x ∷ []) (length xs) x (slice_get_push xs x)) i)

  -- one is removed, and the last takes its position
  module _ (ys : List X) (at n : ℕ) (x last : X) (here : slice_get xs at ≡ Some x) (lasts : slice_get xs n ≡ Some last) (long : length xs ≡ suc n) (short : length ys ≡ n)
      (moved : at < n → slice_get ys at ≡ Some last) (others : (j : ℕ) → j < n → j ≢ at → slice_get ys j ≡ slice_get xs j) where
    within : at < suc n
    within = omega (arith, slice_get_within xs at x here)

    long_places : length (map place xs) ≡ suc n
    long_places = length-map xs place ∙ long

    short_places : length (map place ys) ≡ n
    short_places = length-map ys place ∙ short

    moved_place : at < n → get_or (map place ys) at gap_position ≡ get_or (map place xs) n gap_position
    moved_place l = get_or_map_at place ys at last gap_position (moved l) ∙ sym (get_or_map_at place xs n last gap_position lasts)

    other_places : (j : ℕ) → j < n → j ≢ at → get_or (map place ys) j gap_position ≡ get_or (map place xs) j gap_position
    other_places j l ne =
        let y = at_within xs j (omega arith) in
        get_or_map_at place ys j y.0 gap_position (others j l ne ∙ y.1) ∙ sym (get_or_map_at place xs j y.0 gap_position y.1)

    abbrev Without : List ℕ
    Without = without (map place xs) (map place ys) order h at n long_places short_places within moved_place other_places

    place_is : get_or (map place xs) at gap_position ≡ place x
    place_is = get_or_map_at place xs at x gap_position here

    last_place_is : get_or (map place xs) n gap_position ≡ place last
    last_place_is = get_or_map_at place xs n last gap_position lasts

    left_is : Without ≡ set (set order (place last) at) (place x) gap_position
    left_is = λ i. set (set order (last_place_is i) at) (place_is i) gap_position

    pub removed_ordered : IsOrdered (map place ys) (set (set order (place last) at) (place x) gap_position)
    removed_ordered = subst (IsOrdered (map place ys)) left_is (removed (map place xs) (map place ys) order h at n long_places short_places within moved_place other_places)

    same_left : (k : ℕ) → k ≢ get_or (map place xs) at gap_position → at_position ys (get_or Without k gap_position) ≡ at_position xs (get_or order k gap_position)
    same_left k ne = ⊎_elim
        (λ (e : k ≡ get_or (map place xs) n gap_position).
        let apart : get_or (map place xs) n gap_position ≢ get_or (map place xs) at gap_position = λ f. ne (e ∙ f) in
        let below = last_apart (map place xs) (map place ys) order h at n long_places short_places within moved_place other_places apart in
        let now : get_or Without k gap_position ≡ at = ap (λ p. get_or Without p gap_position) e ∙ now_moved (map place xs) (map place ys) order h at n long_places short_places within moved_place other_places apart in
        let was : get_or order k gap_position ≡ n = ap (λ p. get_or order p gap_position) (e ∙ last_place_is) ∙ position_at_place place xs order h n last lasts in
        ap (at_position ys) now ∙ at_position_here ys at last (moved below) ∙ sym (ap (at_position xs) was ∙ at_position_here xs n last lasts))
        (λ (ne' : k ≢ get_or (map place xs) n gap_position).
        let same = now_same (map place xs) (map place ys) order h at n long_places short_places within moved_place other_places k ne ne' in
        let not_gone = other_position (map place xs) (map place ys) order h at n long_places short_places within moved_place other_places k ne in
        let not_moved = not_last (map place xs) (map place ys) order h at n long_places short_places within moved_place other_places k ne' in
        ap (at_position ys) same ∙ ⊎_elim
        (λ (l : get_or order k gap_position < n). ap option_to_list (others _ l not_gone))
        (λ (past : n ≤ get_or order k gap_position). at_position_past ys _ (omega arith) ∙ sym (at_position_past xs _ (omega arith)))
        (cases_lt (get_or order k gap_position) n))
        (cases_eq k (get_or (map place xs) n gap_position))

    left_length : length Without ≡ length order
    left_length = length-set (set order (get_or (map place xs) n gap_position) at) (get_or (map place xs) at gap_position) gap_position ∙ length-set order (get_or (map place xs) n gap_position) at

    -- before the place, there, and after
    pub removed_before : at_positions ys (take (place x) (set (set order (place last) at) (place x) gap_position)) ≡ before place xs order h at x here
    removed_before =
        sym (λ i. at_positions ys (take (place_is i) (left_is i)))
        ∙ same_before (at_position ys) (at_position xs) gap_position Without order left_length (get_or (map place xs) at gap_position) same_left
        ∙ ap (λ q. flat_map (at_position xs) (take q order)) place_is

    pub removed_here : at_position ys (get_or (set (set order (place last) at) (place x) gap_position) (place x) gap_position) ≡ []
    removed_here =
        sym (λ i. at_position ys (get_or (left_is i) (place_is i) gap_position))
        ∙ ap (at_position ys) (now_gap (map place xs) (map place ys) order h at n long_places short_places within moved_place other_places)
        ∙ at_position_past ys gap_position (omega (arith, h.fits, long_places))

    pub removed_after : at_positions ys (drop (suc (place x)) (set (set order (place last) at) (place x) gap_position)) ≡ after place xs order h at x here
    removed_after =
        sym (λ i. at_positions ys (drop (suc (place_is i)) (left_is i)))
        ∙ same_after (at_position ys) (at_position xs) gap_position Without order left_length (get_or (map place xs) at gap_position) same_left
        ∙ ap (λ q. flat_map (at_position xs) (drop (suc q) order)) place_is

  -- one is changed, at its position and its place
  module _ (ys : List X) (at : ℕ) (x y : X) (here : slice_get xs at ≡ Some x) (now : slice_get ys at ≡ Some y) (others : (j : ℕ) → j ≢ at → slice_get ys j ≡ slice_get xs j) where
    same_others : (k : ℕ) → k ≢ place x → at_position ys (get_or order k gap_position) ≡ at_position xs (get_or order k gap_position)
    same_others k ne = ap option_to_list (others (get_or order k gap_position) (λ is. ne (sym (place_of_position place xs order h k x (ap (slice_get xs) is ∙ here)))))

    pub changed_before : at_positions ys (take (place x) order) ≡ before place xs order h at x here
    changed_before = same_before (at_position ys) (at_position xs) gap_position order order refl (place x) same_others

    pub changed_after : at_positions ys (drop (suc (place x)) order) ≡ after place xs order h at x here
    changed_after = same_after (at_position ys) (at_position xs) gap_position order order refl (place x) same_others
