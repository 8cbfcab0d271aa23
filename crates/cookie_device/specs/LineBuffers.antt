-- The invariant of a line buffer, and the lines in it.
use Rattle.std.specs.Prelude.{◌≡◌, ◌≢◌, ℕ, ◌+◌, ◌≤◌, List, [], ◌∷◌, ◌++◌, length, take, drop}
use Rattle.std.specs.List.{AllWithin}
use Rattle.std.specs.Str.Lines.{lines, lines_of_parts, strip_carriage_return}

-- start <= scanned <= length of the bytes, and no line feed is between start and scanned
pub record IsScanned (bytes : List ℕ) (start scanned : ℕ) : Type 0 where
  pub ordered : start ≤ scanned
  pub in_bounds : scanned ≤ length bytes
  pub no_feed : AllWithin (λ b. b ≢ 10) bytes start scanned

-- the first line ends at this position, without the carriage return there, and the others begin after it, whatever
-- follows these bytes
abbrev pub EndsLine : List ℕ → ℕ → Type 0
EndsLine bytes end = (more : List ℕ)
    → lines (bytes ++ more) ≡ strip_carriage_return (take end bytes) ∷ lines (drop (end + 1) bytes ++ more)

-- the bytes are one line, or none if they are empty
abbrev pub IsLastLine : List ℕ → Type 0
IsLastLine bytes = lines bytes ≡ lines_of_parts (bytes ∷ [])
