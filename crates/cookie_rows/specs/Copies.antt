-- Copies of maps.
use Rattle.std.specs.Prelude.{◌≡◌, List, [], ◌∷◌, string_bytes, String}

-- the same keys in the same order, each with a copy of its value
abbrev pub AreCopies : {A V : Type 0} → (V → V → Type 0) → List (String A × V) → List (String A × V) → Type 0
AreCopies is_copy [] copies = copies ≡ []
AreCopies {A} {V} is_copy (e ∷ es) copies =
    (key : String A) × (value : V) × (rest : List (String A × V))
    × (string_bytes key ≡ string_bytes e.0) × is_copy e.1 value × AreCopies is_copy es rest × (copies ≡ (key, value) ∷ rest)
