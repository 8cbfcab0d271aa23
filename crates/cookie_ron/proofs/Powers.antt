-- Powers of sixteen, and the value of a hexadecimal digit.
use Rattle.std.proofs.Common.{◌≡◌, ℕ, ◌+◌, ◌*◌, ◌^◌, ◌<◌, ◌≤◌, true, arith, add-one}
use Rattle.std.proofs.Math.Nat.{pow-le-pow_right, pow-suc}
use Rattle.std.proofs.lemmas.Bool.Decides.{nat_tests}
use Rattle.std.specs.Char.{is_ascii_hexdigit, digit_value}

-- the next power is sixteen times this one
pub power_more : (n : ℕ) → 16 ^ (n + 1) ≡ 16 ^ n * 16
power_more n = rw add-one (pow-suc 16 n)

-- a power up to the fifth is at most 16^5
pub power_below : (n : ℕ) → n ≤ 5 → 16 ^ n ≤ 1_048_576
power_below n few = pow-le-pow_right (omega arith) few

-- a character whose digit value is below sixteen is a hexadecimal digit
pub is_hex : (c : ℕ) → digit_value c < 16 → is_ascii_hexdigit c ≡ true
is_hex c h = grind (arith, nat_tests)

pub hex_is : (c : ℕ) → is_ascii_hexdigit c ≡ true → digit_value c < 16
hex_is c h = grind (arith, nat_tests)
