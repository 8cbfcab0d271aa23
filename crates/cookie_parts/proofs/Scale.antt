-- Times as nanoseconds from the epoch.
use Rattle.std.proofs.Common.{◌≡◌, Bool, true, false, cond, ℤ, ◌<ℤ◌, ◌≤ℤ◌, refl, sym, ap, ◌∙◌, arith, int_lt, int_cmp, T, Less, Equal, Greater}
use Rattle.std.specs.Int.{int_min}
use Rattle.std.specs.Ordering.{is_le, is_lt, on, ord_min}
use Rattle.std.proofs.lemmas.Int.{ints}
use Rattle.jiff_core.specs.declared.civil.datetime.DateTime.{DateTime}
use Rattle.jiff_core.specs.DateTime.{civil_nanos}
use Rattle.cookie_words.specs.Moments.{Moment, moment_at, moment_of, nanoseconds}
use Rattle.cookie_parts.specs.Expiry.{Expiry, AtUtc, SessionEnd, capped_at_latest, has_passed, latest}

-- a `DateTime` is the time at its nanoseconds from the epoch
abbrev pub IsScale : Type 0
IsScale = (moment : DateTime) → moment_at (nanoseconds (moment_of moment)) ≡ moment_of moment

-- `is_lt` of a three-way comparison
lt_test : (below above : Bool) → is_lt (cond below Less (cond above Greater Equal)) ≡ below
lt_test true above = refl
lt_test false true = refl
lt_test false false = refl

-- the nanoseconds of one of two times
either : (first : Bool) (a b : DateTime) → civil_nanos (cond first b a) ≡ cond first (civil_nanos b) (civil_nanos a)
either true a b = refl
either false a b = refl

-- the nanoseconds of the earlier of two times
min_nanos : (a b : DateTime) → civil_nanos (ord_min (on civil_nanos int_cmp) a b) ≡ int_min (civil_nanos a) (civil_nanos b)
min_nanos a b =
    ap (λ first. civil_nanos (cond first b a)) (lt_test (int_lt (civil_nanos b) (civil_nanos a)) (int_lt (civil_nanos a) (civil_nanos b)))
    ∙ either (int_lt (civil_nanos b) (civil_nanos a)) a b

-- `civil_nanos` of jiff is `nanoseconds` of cookie_words
pub same_nanos : (d : DateTime) → civil_nanos d ≡ nanoseconds (moment_of d)
unfolding civil_nanos nanoseconds
same_nanos d = refl

-- the earlier of a time and `latest` is `capped_at_latest`
pub no_later_moment : IsScale → (moment most : DateTime) → moment_of most ≡ latest
    → moment_of (ord_min (on civil_nanos int_cmp) moment most) ≡ capped_at_latest (nanoseconds (moment_of moment))
no_later_moment scale moment most e =
    let less : DateTime = ord_min (on civil_nanos int_cmp) moment most in
    sym (scale less)
    ∙ ap moment_at (sym (same_nanos less) ∙ min_nanos moment most ∙ ap (λ n. int_min n (civil_nanos most)) (same_nanos moment)
    ∙ ap (int_min (nanoseconds (moment_of moment))) (same_nanos most ∙ ap nanoseconds e))

-- a conditional whose test holds
chosen_by : (test : Bool) (x y : ℤ) → test ≡ true → cond test x y ≡ x
chosen_by test x y e = ap (λ t. cond t x y) e

-- a test that holds is true
holds : (test : Bool) → T test → test ≡ true
holds true t = refl
holds false t = absurd t

-- beyond the last time of the library, `capped_at_latest` is `latest`
pub beyond_all : IsScale → (most : DateTime) (n : ℤ) → moment_of most ≡ latest → civil_nanos most <ℤ n → latest ≡ capped_at_latest n
unfolding civil_nanos nanoseconds
beyond_all scale most n e h =
    let chosen = chosen_by (int_lt (nanoseconds (moment_of most)) n) (nanoseconds (moment_of most)) n (holds (int_lt (civil_nanos most) n) h.lt) in
    sym e ∙ sym (scale most) ∙ ap moment_at (sym chosen ∙ ap (int_min n) (ap nanoseconds e))

-- the order of integers is transitive, as a test
le_later : (a b c : ℤ) → b ≤ℤ c → is_le (int_cmp a b) ≡ true → is_le (int_cmp a c) ≡ true
le_later a b c h k = grind (arith, ints)

-- what has expired at a time has expired at every later time
pub is_by_later : (end : Expiry) (moment later : Moment) → nanoseconds moment ≤ℤ nanoseconds later → has_passed moment end ≡ true → has_passed later end ≡ true
is_by_later (AtUtc end) moment later h k = le_later (nanoseconds end) (nanoseconds moment) (nanoseconds later) h k
is_by_later SessionEnd moment later h k = k
