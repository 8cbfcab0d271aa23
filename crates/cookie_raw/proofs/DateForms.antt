-- The forms of date-tokens: a month begins with a non-digit, each other form with a digit.
use Rattle.std.proofs.Common.{◌≡◌, ℕ, ◌<◌, Bool, true, false, ◌&&◌, List, [], ◌∷◌, None, refl, arith}
use Rattle.std.specs.Prelude.{nat_le, is_some}
use Rattle.std.specs.Char.{is_ascii_digit}
use Rattle.std.proofs.lemmas.Bool.{agree_below_at}
use Rattle.cookie_raw.specs.CookieDate.{number_at, time_of, day_of, month_of, year_of}
use Rattle.cookie_raw.proofs.DateNumbers.{digit_weighs}

-- a token that does not begin with a digit has no number
no_number : (least most byte : ℕ) (bytes : List ℕ) → nat_le least 0 ≡ false → is_ascii_digit byte ≡ false
    → number_at least most (byte ∷ bytes) ≡ None
unfolding number_at
no_number least most byte bytes some h = rw (h, some) refl

-- a token that begins with a digit is not a month
no_month : (byte : ℕ) (bytes : List ℕ) → is_ascii_digit byte ≡ true → is_some (month_of (byte ∷ bytes)) ≡ false
unfolding month_of
no_month byte bytes h =
    let small : byte < 58 = omega (arith, digit_weighs byte h) in
    rw h at (agree_below_at (λ b. is_ascii_digit b && is_some (month_of (b ∷ bytes))) (λ b. false) 58 byte refl small)

-- a month is not a time, day or year, by whether its first byte is a digit
no_other_form : (byte : ℕ) (bytes : List ℕ) (is_digit : Bool) → is_ascii_digit byte ≡ is_digit → is_some (month_of (byte ∷ bytes)) ≡ true
    → (is_some (time_of (byte ∷ bytes)) ≡ false) × (is_some (day_of (byte ∷ bytes)) ≡ false) × (is_some (year_of (byte ∷ bytes)) ≡ false)
unfolding time_of day_of year_of
no_other_form byte bytes true e h = absurd (cc (no_month byte bytes e))
no_other_form byte bytes false e h = (
  rw (no_number 1 2 byte bytes refl e) refl,
  rw (no_number 1 2 byte bytes refl e) refl,
  rw (no_number 2 4 byte bytes refl e) refl,
)

-- a month is not a time, day or year
pub month_is_no_other : (token : List ℕ) → is_some (month_of token) ≡ true
    → (is_some (time_of token) ≡ false) × (is_some (day_of token) ≡ false) × (is_some (year_of token) ≡ false)
unfolding month_of
month_is_no_other [] h = absurd (cc)
month_is_no_other (byte ∷ bytes) h = no_other_form byte bytes (is_ascii_digit byte) refl h
