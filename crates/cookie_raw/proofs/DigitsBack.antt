-- Printed numbers parse as the same numbers.
use Rattle.std.proofs.Common.{◌≡◌, ℕ, ◌+◌, ◌/◌, ◌%◌, ◌<◌, true, false, List, [], ◌++◌, take, drop, Some, None, refl, ap, ◌∙◌, arith}
use Rattle.std.specs.Prelude.{◌==◌}
use Rattle.std.specs.Char.{is_ascii_digit, digit_value}
use Rattle.std.specs.List.{list_all, prefix_len}
use Rattle.std.specs.Str.Parse.{digits_value}
use Rattle.std.proofs.lemmas.Bool.{agree_below_at, cond-true, cond-false, eqb-true}
use Rattle.std.proofs.lemmas.List.Folds.{prefix_len-append}
use Rattle.cookie_words.specs.Moments.{is_within}
use Rattle.cookie_raw.specs.CookieDate.{number_at}
use Rattle.cookie_raw.specs.CookieText.{two_digits, four_digits}

-- two digits are digits
pub two_are_digits : (n : ℕ) → n < 100 → list_all is_ascii_digit (two_digits n) ≡ true
two_are_digits n small = agree_below_at (λ m. list_all is_ascii_digit (two_digits m)) (λ m. true) 100 n refl small

-- there are two of them
two_digits_count : (n : ℕ) → n < 100 → prefix_len is_ascii_digit (two_digits n) ≡ 2
two_digits_count n small =
    eqb-true (prefix_len is_ascii_digit (two_digits n)) 2 (agree_below_at (λ m. prefix_len is_ascii_digit (two_digits m) == 2) (λ m. true) 100 n refl small)

-- their value is the number
two_digits_value : (n : ℕ) → n < 100 → digits_value 10 (two_digits n) ≡ n
two_digits_value n small =
    eqb-true (digits_value 10 (two_digits n)) n (agree_below_at (λ m. digits_value 10 (two_digits m) == m) (λ m. true) 100 n refl small)

-- the value of a printed digit
digit_back : (n : ℕ) → n < 10 → digit_value (48 + n) ≡ n
digit_back n small =
    eqb-true (digit_value (48 + n)) n (agree_below_at (λ m. digit_value (48 + m) == m) (λ m. true) 10 n refl small)

-- the value of four printed digits
four_digits_value : (n : ℕ) → n < 10000 → digits_value 10 (four_digits n) ≡ n
four_digits_value n small =
    omega (arith, digit_back (n / 100 / 10) (omega arith), digit_back (n / 100 % 10) (omega arith), digit_back (n % 100 / 10) (omega arith), digit_back (n % 100 % 10) (omega arith))

-- two digits in front of a string are two more at its start
count_with_two : (n : ℕ) (rest : List ℕ) → n < 100 → prefix_len is_ascii_digit (two_digits n ++ rest) ≡ 2 + prefix_len is_ascii_digit rest
count_with_two n rest small =
    let two = two_digits_count n small in
    prefix_len-append is_ascii_digit (two_digits n) rest
    ∙ cond-true (prefix_len is_ascii_digit (two_digits n) == 2) (2 + prefix_len is_ascii_digit rest) (prefix_len is_ascii_digit (two_digits n)) (rw two refl)

-- a number with an accepted count of digits
number_where_digits : (least most count : ℕ) (text : List ℕ) → prefix_len is_ascii_digit text ≡ count → is_within least most count ≡ true
    → number_at least most text ≡ Some (digits_value 10 (take count text), drop count text)
unfolding number_at
number_where_digits least most count text e h =
    rw e (cond-true (is_within least most count) (Some (digits_value 10 (take count text), drop count text)) None h)

-- None if there are too few or too many
no_number : (least most count : ℕ) (text : List ℕ) → prefix_len is_ascii_digit text ≡ count → is_within least most count ≡ false
    → number_at least most text ≡ None
unfolding number_at
no_number least most count text e h =
    rw e (cond-false (is_within least most count) (Some (digits_value 10 (take count text), drop count text)) None h)

-- a number in two digits, followed by no digit
pub two_digits_back : (n : ℕ) (rest : List ℕ) → n < 100 → prefix_len is_ascii_digit rest ≡ 0 → number_at 1 2 (two_digits n ++ rest) ≡ Some (n, rest)
two_digits_back n rest small e =
    number_where_digits 1 2 2 (two_digits n ++ rest) (count_with_two n rest small ∙ ap (λ k. 2 + k) e) refl
    ∙ ap (λ v. Some (v, rest)) (two_digits_value n small)

-- four digits are four digits
four_digits_count : (n : ℕ) → n < 10000 → prefix_len is_ascii_digit (four_digits n) ≡ 4
four_digits_count n small =
    count_with_two (n / 100) (two_digits (n % 100)) (omega arith) ∙ ap (λ k. 2 + k) (two_digits_count (n % 100) (omega arith))

-- a number in four digits
pub four_digits_back : (n : ℕ) → n < 10000 → number_at 2 4 (four_digits n) ≡ Some (n, [])
four_digits_back n small =
    number_where_digits 2 4 4 (four_digits n) (four_digits_count n small) refl ∙ ap (λ v. Some (v, [])) (four_digits_value n small)

-- which is not a number of one or two digits
pub four_are_not_two : (n : ℕ) → n < 10000 → number_at 1 2 (four_digits n) ≡ None
four_are_not_two n small = no_number 1 2 4 (four_digits n) (four_digits_count n small) refl
