-- Operations on strings, which are lists of bytes.
use Rattle.std.specs.Prelude.{ℕ, ◌==◌, List, [], ◌∷◌, if◌then◌else◌}
use Rattle.std.specs.List.{slice_split}

-- the string split at each byte `cut`; pieces may be empty
abbrev pub pieces : ℕ → List ℕ → List (List ℕ)
pieces cut text = slice_split (λ b. b == cut) text

-- the string without one leading dot
abbrev pub without_dot : List ℕ → List ℕ
without_dot [] = []
without_dot (b ∷ bs) = if b == 46 then bs else b ∷ bs
