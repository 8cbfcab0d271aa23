-- Letters that are the same, ignoring ASCII case.
use Rattle.std.proofs.Common.{◌≡◌, ◌↔◌, ℕ, Bool, List, map, refl}
use Rattle.std.specs.Bool.{IsTrue}
use Rattle.std.specs.Char.{to_ascii_lowercase}
use Rattle.std.specs.Str.{str_eq_ignore_ascii_case}
use Rattle.std.proofs.lemmas.Bool.Decides.{Decides-eqb, same_from_decides}
use Rattle.std.proofs.lemmas.Slice.Eq.{slice_eq-Decides}

-- comparing strings in lower case ignores case
pub same_letters : (r : Bool) (xs ys : List ℕ) → (IsTrue r ↔ (map to_ascii_lowercase xs ≡ map to_ascii_lowercase ys))
    → r ≡ str_eq_ignore_ascii_case xs ys
same_letters r xs ys decides =
    same_from_decides r (str_eq_ignore_ascii_case xs ys) decides
    (slice_eq-Decides Decides-eqb (map to_ascii_lowercase xs) (map to_ascii_lowercase ys) (str_eq_ignore_ascii_case xs ys) refl)
