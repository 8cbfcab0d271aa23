-- Hexadecimal digits, one after the other.
use Rattle.std.proofs.Common.{◌≡◌, ℕ, ◌+◌, ◌<◌, List, [], ◌∷◌, take, get_or, length, Bool, true, false, ◌&&◌, refl, ap, ◌∙◌}
use Rattle.std.specs.List.{list_all}
use Rattle.std.proofs.lemmas.List.{take_more}
use Rattle.std.proofs.lemmas.List.Folds.{list_all-append}

both : (a b : Bool) → a ≡ true → b ≡ true → (a && (b && true)) ≡ true
both true true e f = refl
both true false e f = f
both false b e f = e

-- one more digit
pub all_more : (p : ℕ → Bool) (ds : List ℕ) (i : ℕ) → i < length ds → list_all p (take i ds) ≡ true → p (get_or ds i 0) ≡ true
    → list_all p (take (i + 1) ds) ≡ true
all_more p ds i lt so_far this =
    ap (λ front. list_all p front) (take_more ds i 0 lt) ∙ list_all-append p (take i ds) (get_or ds i 0 ∷ []) ∙ both _ _ so_far this
