-- What contracts see of an `OrderedMap`.
use Rattle.std.specs.Prelude.{ℕ, Bool, List, [], ◌∷◌, ◌++◌, if◌then◌else◌, map, nat_le, slice_get, string_bytes, String, bytes_eq}
use Rattle.std.specs.List.{IsDistinct}
use Rattle.std.specs.Map.{keys_of, lookup_entry, remove_entry}
use Rattle.std.specs.Option.{option_map, option_to_list, unwrap_or}
use Rattle.std.specs.String.{string_eq}
use Rattle.std.specs.declared.alloc.Global.{Global}

-- an element with its place, before the first one whose place is not less
abbrev pub insert_by_place : {X : Type 0} → ℕ × X → List (ℕ × X) → List (ℕ × X)
insert_by_place x [] = x ∷ []
insert_by_place x (y ∷ ys) = if nat_le x.0 y.0 then x ∷ y ∷ ys else y ∷ insert_by_place x ys

-- sorted by their places; of equal places the earlier one comes first
abbrev pub by_place : {X : Type 0} → List (ℕ × X) → List (ℕ × X)
by_place [] = []
by_place (x ∷ xs) = insert_by_place x (by_place xs)

-- in the order of their places, without them
abbrev pub in_order : {X : Type 0} → List (ℕ × X) → List X
in_order xs = map (λ x. x.1) (by_place xs)

-- the entries by position, each with its place in the order of insertion, the hasher, and how many entries can be added without allocating
pub record Ordered (V S : Type 0) : Type 0 where
  pub by_position : List (ℕ × (String Global × V))
  pub hasher : S
  pub room : ℕ

-- the key is this string
abbrev pub is_text : List ℕ → String Global → Bool
is_text text key = bytes_eq text (string_bytes key)

-- the keys with their values, in the order of insertion
abbrev pub entries : {V S : Type 0} → Ordered V S → List (String Global × V)
entries m = in_order m.by_position

-- the string that is the key at a position; empty past the end
abbrev pub text_at : {V S : Type 0} → Ordered V S → ℕ → List ℕ
text_at m position = unwrap_or (option_map (λ p. string_bytes p.1.0) (slice_get m.by_position position)) []

-- the keys differ, in the order of insertion and by position
pub record HasDistinctKeys {V S : Type 0} (m : Ordered V S) : Type 0 where
  pub in_order : IsDistinct string_eq (keys_of (entries m))
  pub by_position : IsDistinct string_eq (map (λ p. p.1.0) m.by_position)

-- the entry whose key passes the test is last
abbrev pub moved_to_end : {K V : Type 0} → (K → Bool) → List (K × V) → List (K × V)
moved_to_end test es = remove_entry test es ++ option_to_list (lookup_entry test es)
