-- What precedes the first element that passes a test, and what follows the last, from its index.
use Rattle.std.proofs.Common.{◌≡◌, ℕ, ◌+◌, ◌-◌, ◌<◌, ◌≤◌, Bool, true, false, not, List, [], length, take, drop, Some, None, get_or, sym, ap, ◌∙◌, ⊎_elim, arith}
use Rattle.std.specs.List.{after_first, after_last, before_first, position, position_or_len, suffix_len}
use Rattle.std.proofs.lemmas.Bool.{cases_lt}
use Rattle.std.proofs.lemmas.Bool.Decides.{nat_tests}
use Rattle.std.proofs.lemmas.List.{drop_all, take_all}
use Rattle.std.proofs.lemmas.List.Quantifiers.{position-Some}
use Rattle.std.proofs.lemmas.List.Sums.{position_or_len_is, suffix_len_is}

-- the elements before the first that passes
pub before_first-at : (p : ℕ → Bool) (xs : List ℕ) (i : ℕ) → position p xs ≡ Some i → take i xs ≡ before_first p xs
before_first-at p xs i found =
    let (within, passes, before) = position-Some p xs i 0 found in
    ap (λ n. take n xs) (sym (position_or_len_is p xs i 0 (omega (arith, within)) before (λ inside. passes)))

-- if no element passes, all
pub before_first-all : (p : ℕ → Bool) (xs : List ℕ) → position p xs ≡ None → xs ≡ before_first p xs
before_first-all p xs none =
    ⊎_elim (λ (within : position_or_len p xs < length xs). absurd (grind (arith, nat_tests, within, none)))
    (λ (least : length xs ≤ position_or_len p xs). sym (take_all (position_or_len p xs) xs least))
    (cases_lt (position_or_len p xs) (length xs))

-- the elements after the last that passes
pub after_last-at : (p : ℕ → Bool) (xs : List ℕ) (i : ℕ) → i < length xs → p (get_or xs i 0) ≡ true
    → ((k : ℕ) → i + 1 ≤ k → k < length xs → p (get_or xs k 0) ≡ false) → drop (i + 1) xs ≡ after_last p xs
after_last-at p xs i within passes after =
    let tail : suffix_len (λ x. not (p x)) xs ≡ length xs - (i + 1) =
    suffix_len_is (λ x. not (p x)) xs (i + 1) 0 (omega (arith, within)) (λ k from inside. ap not (after k from inside))
    (λ some. let same : i + 1 - 1 ≡ i = omega arith in ap (λ n. not (p (get_or xs n 0))) same ∙ ap not passes) in
    let same : i + 1 ≡ length xs - suffix_len (λ x. not (p x)) xs = omega (arith, within, tail) in
    ap (λ n. drop n xs) same

-- if no element passes, all
pub after_last-all : (p : ℕ → Bool) (xs : List ℕ) → ((k : ℕ) → k < length xs → p (get_or xs k 0) ≡ false) → xs ≡ after_last p xs
after_last-all p xs none =
    let tail : suffix_len (λ x. not (p x)) xs ≡ length xs - 0 =
    suffix_len_is (λ x. not (p x)) xs 0 0 (omega arith) (λ k from inside. ap not (none k inside)) (λ some. absurd (omega (arith, some))) in
    let same : 0 ≡ length xs - suffix_len (λ x. not (p x)) xs = omega (arith, tail) in
    ap (λ n. drop n xs) same

-- if the first element that passes is behind the end, all precede it
pub whole_before : (p : ℕ → Bool) (xs : List ℕ) → position_or_len p xs ≡ length xs → xs ≡ before_first p xs
whole_before p xs none = sym (take_all (position_or_len p xs) xs (omega (arith, none)))

-- and none follows it
pub nothing_after : (p : ℕ → Bool) (xs : List ℕ) → position_or_len p xs ≡ length xs → [] ≡ after_first p xs
nothing_after p xs none = sym (drop_all (position_or_len p xs + 1) xs (omega (arith, none)))
