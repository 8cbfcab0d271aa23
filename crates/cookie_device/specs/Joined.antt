-- Strings written one after the other.
use Rattle.std.specs.Prelude.{ℕ, List, flat_map}
use Rattle.std.specs.Borrow.{Bor}

-- the strings joined
abbrev pub joined : List (Bor (List ℕ)) → List ℕ
joined texts = flat_map (λ text. text.now) texts
