-- The greater of two optional counts.
use Rattle.std.proofs.Common.{◌≡◌, ℕ, ◌+◌, Bool, true, false, cond, refl, ap, arith, Option, Some, None, option_map}
use Rattle.cookie_psl.specs.Rules.{greater}

-- None is neutral
pub greater-none : (count : Option ℕ) → greater count None ≡ count
greater-none None = refl
greater-none (Some n) = refl

-- taking the greater of two is associative
pub greater-assoc : (a b c : Option ℕ) → greater (greater a b) c ≡ greater a (greater b c)
greater-assoc None b c = refl
greater-assoc (Some n) None c = refl
greater-assoc (Some n) (Some m) None = refl
greater-assoc (Some n) (Some m) (Some k) = ap Some (omega arith)

-- adding one to both adds one to the greater
pub greater-more : (a b : Option ℕ) → greater (option_map (λ n. n + 1) a) (option_map (λ n. n + 1) b) ≡ option_map (λ n. n + 1) (greater a b)
greater-more None b = refl
greater-more (Some n) None = refl
greater-more (Some n) (Some m) = ap Some (omega arith)

-- a count of at least one is greater than 0
pub greater-one : (n : ℕ) (is_here : Bool) → greater (Some (n + 1)) (cond is_here (Some 0) None) ≡ Some (n + 1)
greater-one n true = ap Some (omega arith)
greater-one n false = refl
