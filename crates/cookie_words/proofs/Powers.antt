-- Powers of ten.
use Rattle.std.proofs.Common.{◌≡◌, ℕ, ◌+◌, ◌*◌, ◌^◌, ◌≤◌, arith, add-one}
use Rattle.std.proofs.Math.Nat.{pow-le-pow_right, pow-suc}

-- 10^(n + 1) = 10^n * 10
pub power_more : (n : ℕ) → 10 ^ (n + 1) ≡ 10 ^ n * 10
power_more n = rw add-one (pow-suc 10 n)

-- 10^n <= 10^8 if n <= 8
pub power_below : (n : ℕ) → n ≤ 8 → 10 ^ n ≤ 100_000_000
power_below n few = pow-le-pow_right (omega arith) few
