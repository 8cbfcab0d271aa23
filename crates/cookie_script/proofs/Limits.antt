-- The limit that an argument of digits is.
use Rattle.std.proofs.Common.{◌≡◌, ◌&&◌, ℕ, ◌<◌, ◌^◌, Bool, true, false, List, [], ◌∷◌, length, Option, Some, None, Result, Ok, Err, ap, refl, sym, arith, inl, inr, if◌then◌else◌, rules}
use Rattle.std.specs.Char.{is_ascii_digit}
use Rattle.std.specs.List.{list_all}
use Rattle.std.specs.Prelude.{nat_le, nat_lt}
use Rattle.std.specs.Str.Parse.{ParsesUnsigned, digits_value}
use Rattle.std.proofs.lemmas.Bool.{cases_Bool}
use Rattle.std.proofs.lemmas.Bool.Decides.{nat_tests}
use Rattle.std.proofs.lemmas.Str.Parse.{IsNumeralModel, numerals_by_value, parse_digits}
use Rattle.cookie_script.specs.Arguments.{limit_of}

-- the numerals of the argument are those of decimal digits
own : IsNumeralModel (λ ds. list_all is_ascii_digit ds ≡ true) (digits_value 10)
own = numerals_by_value (λ ds. list_all is_ascii_digit ds ≡ true) (search rules)

-- a conjunction with a false test is None
none_under : (p q : Bool) (some : Option ℕ) → (if p && q && false then some else None) ≡ None
none_under true true some = refl
none_under true false some = refl
none_under false q some = refl

module _ {E : Type 0} (word : List ℕ) (digits : list_all is_ascii_digit word ≡ true) where
  -- a number that was parsed is the limit, if it is at least 1
  pub limit_some : (n : ℕ) (r : Result ℕ E) → r ≡ Ok n → ParsesUnsigned 64 10 word r → 0 < n → Some n ≡ limit_of word
  limit_some n r is parses some =
      let read = rw is at (parse_digits own 64 word r parses digits) in
      let least : nat_le 1 (digits_value 10 word) ≡ true = grind (arith, nat_tests, read.1, some) in
      let most : nat_lt (digits_value 10 word) (2 ^ 64) ≡ true = grind (arith, nat_tests, read.0.1) in
      rw (digits, least, most) (ap Some read.1)

  -- an argument that cannot be parsed is no limit
  pub limit_none : (error : E) (r : Result ℕ E) → r ≡ Err error → ParsesUnsigned 64 10 word r → None ≡ limit_of word
  limit_none error r is parses = unread word digits (rw is at (parse_digits own 64 word r parses digits))
    where
      unread : (word : List ℕ) → list_all is_ascii_digit word ≡ true → ((0 < length word) × (digits_value 10 word < 2 ^ 64) → ⊥) → None ≡ limit_of word
      unread [] d refused = refl
      unread (b ∷ bs) d refused = elim (cases_Bool (nat_lt (digits_value 10 (b ∷ bs)) (2 ^ 64))) [
        | inl e ↦ let l : digits_value 10 (b ∷ bs) < 2 ^ 64 = grind (arith, nat_tests, e) in absurd (refused (omega arith, l))
        | inr e ↦ rw e (sym (none_under (list_all is_ascii_digit (b ∷ bs)) (nat_le 1 (digits_value 10 (b ∷ bs))) (Some (digits_value 10 (b ∷ bs)))))
      ]
