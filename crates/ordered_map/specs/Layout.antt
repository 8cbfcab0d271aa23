-- How an `OrderedMap` is stored: entries with their places, and at each place the position of its entry.
use Rattle.std.specs.Prelude.{◌≡◌, ℕ, ◌+◌, ◌-◌, ◌*◌, ◌/◌, ◌<◌, ◌≤◌, min, List, [], ◌∷◌, drop, map, length, slice_get, slice_index_or, String, take}
use Rattle.std.specs.List.{flat_map, IsDistinct}
use Rattle.std.specs.Map.{keys_of}
use Rattle.std.specs.Option.{option_to_list}
use Rattle.std.specs.String.{string_eq}
use Rattle.std.specs.declared.alloc.Global.{Global}
use Rattle.ordered_map.specs.declared.gaps.Placed.{Placed}

-- a stored entry, as callers see it: its place, and the key with the value
abbrev pub placed_entry : {V : Type 0} → String Global × Placed V → ℕ × (String Global × V)
placed_entry e = (e.1.place, (e.0, e.1.value))

-- the stored entries, as callers see them
abbrev pub by_position : {V : Type 0} → List (String Global × Placed V) → List (ℕ × (String Global × V))
by_position es = map placed_entry es

-- the entry at a position, if there is one
abbrev pub at_position : {X : Type 0} → List X → ℕ → List X
at_position xs position = option_to_list (slice_get xs position)

-- the entries at these positions; a gap is a position that no entry has
abbrev pub at_positions : {X : Type 0} → List X → List ℕ → List X
at_positions xs order = flat_map (at_position xs) order

-- the key and the value of a stored entry
abbrev pub key_value : {V : Type 0} → String Global × Placed V → String Global × V
key_value e = (e.0, e.1.value)

-- the keys with their values, at these positions
abbrev pub entries_of : {V : Type 0} → List (String Global × Placed V) → List ℕ → List (String Global × V)
entries_of es order = map key_value (at_positions es order)

-- the place of each entry, by position
abbrev pub places : {V : Type 0} → List (String Global × Placed V) → List ℕ
places es = map (λ e. e.1.place) es

-- how many entries can be added without allocating, if half as many places more remain free for moves to the end
abbrev pub room_of : ℕ → ℕ → ℕ → ℕ
room_of spare places entries = min spare ((2 * places - entries) / 3)

-- the position of a gap
abbrev pub gap_position : ℕ
gap_position = 18446744073709551615

-- the key with its value at this place, if there is one
abbrev pub entries_at : {V : Type 0} → List (String Global × Placed V) → List ℕ → ℕ → List (String Global × V)
entries_at es order place = entries_of es (slice_index_or order place gap_position ∷ [])

-- each entry's position is at its place, and each place is that of the entry at its position, or a gap
pub record IsOrdered (places order : List ℕ) : Type 0 where
  pub placed : (at : ℕ) → at < length places → slice_index_or order (slice_index_or places at gap_position) gap_position ≡ at
  pub own : (place : ℕ) → slice_index_or order place gap_position < length places → slice_index_or places (slice_index_or order place gap_position) gap_position ≡ place
  pub gaps : (place : ℕ) → length places ≤ slice_index_or order place gap_position → slice_index_or order place gap_position ≡ gap_position
  pub fits : length places ≤ gap_position

-- the entries have such places, and their keys differ
pub record IsStored {V : Type 0} (entries : List (String Global × Placed V)) (order : List ℕ) : Type 0 where
  pub ordered : IsOrdered (places entries) order
  pub distinct : IsDistinct string_eq (keys_of entries)

-- the entries are stored, and a place is free for a move to the end
pub record IsWhole {V : Type 0} (entries : List (String Global × Placed V)) (order : List ℕ) (capacity : ℕ) : Type 0 where
  pub stored : IsStored entries order
  pub free : 0 < length entries → length order < capacity

-- no entry is at this place now, and those before and after it are as they were
pub record LeavesGap {V : Type 0} (place : ℕ) (old : List (String Global × Placed V)) (old_order : List ℕ) (new : List (String Global × Placed V)) (new_order : List ℕ) : Type 0 where
  pub before : entries_of new (take place new_order) ≡ entries_of old (take place old_order)
  pub here : entries_at new new_order place ≡ []
  pub after : entries_of new (drop (place + 1) new_order) ≡ entries_of old (drop (place + 1) old_order)
