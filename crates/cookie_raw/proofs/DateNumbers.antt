-- The numbers of a date.
use Rattle.std.proofs.Common.{◌≡◌, ℕ, ◌+◌, ◌^◌, ◌<◌, ◌≤◌, Bool, true, List, take, arith, get_or-take}
use Rattle.std.specs.Char.{is_ascii_digit, digit_value}
use Rattle.std.specs.Int.{IsInRange}
use Rattle.std.specs.List.{list_all, prefix_len}
use Rattle.std.proofs.Math.Nat.{pow-le-pow_right}
use Rattle.std.proofs.lemmas.Bool.Decides.{nat_tests}
use Rattle.std.proofs.lemmas.List.Elements.{All-from_get_or}
use Rattle.std.proofs.lemmas.List.Folds.{length-prefix_len}
use Rattle.std.proofs.lemmas.List.Sums.{list_all-from_AllPass, prefix_len_passes}
use Rattle.std.proofs.lemmas.Str.{digit_value_digit}

-- a number below a power of ten is below each greater power
pub below_larger_power : (value few many : ℕ) → value < 10 ^ few → few ≤ many → value < 10 ^ many
below_larger_power value few many small more =
    let grows : 10 ^ few ≤ 10 ^ many = pow-le-pow_right (omega arith) more in
    omega arith

-- all elements before the first that fails pass
pub prefix_passes : (test : ℕ → Bool) (xs : List ℕ) → list_all test (take (prefix_len test xs) xs) ≡ true
prefix_passes test xs =
    list_all-from_AllPass test (take (prefix_len test xs) xs)
    (All-from_get_or (λ x. test x ≡ true) (take (prefix_len test xs) xs) 0
    (λ i l. let within : i < prefix_len test xs = omega (arith, length-prefix_len test xs) in rw get_or-take (prefix_len_passes test xs i 0 within)))

-- a digit and its value
pub digit_weighs : (digit : ℕ) → is_ascii_digit digit ≡ true → (digit_value digit + 48 ≡ digit) × (digit ≤ 57)
digit_weighs digit h =
    let within : IsInRange 48 57 digit = grind (arith, nat_tests) in
    (digit_value_digit digit within, omega arith)
