use Rattle.std.proofs.Common.{◌≡◌, ◌≢◌, ℕ, true, false, ltb, ◌∷◌, ◌<◌, ◌≤◌, [], List, String, None, arith, length, map, refl, string_bytes}
use Rattle.std.proofs.lemmas.Bool.Decides.{nat_tests}
use Rattle.cookie_script.specs.Arguments.{options_of}
use Rattle.cookie_script.proofs.arguments.options.Goals.{in_default-via-then-words-lt4, in_default-via-else-words-lt4+else-words-lt5}
use Rattle.cookie_script.proofs.arguments.options.Goals as goal

-- a comparison that returns true
below_test : (n m : ℕ) → ltb n m ≡ true → n < m
below_test n m t = grind (arith, nat_tests, t)

from_test : (n m : ℕ) → ltb n m ≡ false → m ≤ n
from_test n m t = grind (arith, nat_tests, t)

-- any other number of arguments is invalid
other_words : {A : Type 0} (ws : List (String A)) → 3 ≤ length ws → length ws ≢ 4 → None ≡ options_of (map string_bytes ws)
other_words [] more four = absurd (omega arith)
other_words (a ∷ []) more four = absurd (omega arith)
other_words (a ∷ b ∷ []) more four = absurd (omega arith)
other_words (a ∷ b ∷ c ∷ []) more four = refl
other_words (a ∷ b ∷ c ∷ d ∷ []) more four = absurd (four refl)
other_words (a ∷ b ∷ c ∷ d ∷ e ∷ ws) more four = refl

pub returns-in_default-clause-value : goal.returns-in_default-clause-value
returns-in_default-clause-value c =
    let ws = c.args.words.now in
    let more : 3 ≤ length ws = from_test (length ws) 3 c.if-words-lt3-1.false in
    elim c.in_default.branch [
      | in_default-via-then-words-lt4 w ↦
          let few : length ws < 4 = below_test (length ws) 4 w.if-words-lt4-1.true in
          other_words ws more (λ e. omega (arith, e, few))
      | in_default-via-else-words-lt4+else-words-lt5 w ↦
          let many : 5 ≤ length ws = from_test (length ws) 5 w.if-words-lt5-1.false in
          other_words ws more (λ e. omega (arith, e, many))
    ]
