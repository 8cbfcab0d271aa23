use Rattle.std.proofs.Common.{◌≡◌, ℕ, suc, ◌+◌, Bool, true, false, not, ◌||◌, cond, List, [], ◌∷◌, length, None, refl, arith, lit<}
use Rattle.std.specs.List.{list_any, position_or_len}
use Rattle.std.proofs.lemmas.Str.Pattern.{split_once_first}
use Rattle.cookie_raw.specs.SetCookie.{is_equals}
use Rattle.cookie_raw.proofs.raw_cookie.name_and_value.Goals as goal

none_passes_after : (b rest : Bool) (n m : ℕ) → cond (not b) (1 + n) 0 ≡ suc m → (n ≡ m → rest ≡ false) → b || rest ≡ false
none_passes_after true rest n m e h = absurd (omega arith)
none_passes_after false rest n m e h = h (omega arith)

-- if no position passes, no element does
none_passes : {X : Type 0} (p : X → Bool) (xs : List X) → position_or_len p xs ≡ length xs → list_any p xs ≡ false
none_passes p [] e = refl
none_passes p (x ∷ xs) e = none_passes_after (p x) (list_any p xs) (position_or_len p xs) (length xs) e (none_passes p xs)

pub returns-in-None : goal.returns-in-None
returns-in-None c =
    none_passes is_equals c.args.pair.now (split_once_first 61 c.args.pair.now None c.in-None.ensures.cases (lit< tt))
