use Rattle.std.proofs.Common.{◌≢◌, List, ◌∷◌, ℕ, Some, None, sym, ap, ◌∙◌, pos, ◌*ℤ◌, w64, lit<}
use Rattle.std.proofs.lemmas.Int.{to_z-of_z}
use Rattle.std.proofs.lemmas.Str.Pattern.{strip_prefix_char}
use Rattle.cookie_raw.proofs.Ages.{age_after_minus, age_without_minus}
use Rattle.cookie_raw.proofs.attributes.age.Goals as goal
use Rattle.cookie_raw.proofs.attributes.age.Goals.{else-not-is_empty-via-then-not-is_empty+else-is_digits-2, else-not-is_empty-via-else-not-is_empty}

pub returns-then-is_digits : goal.returns-then-is_digits
returns-then-is_digits c =
    let text = strip_prefix_char 45 c.args.value.now (Some c.in-Some.digits) c.in-Some.ensures.cases (lit< tt) in
    rw (text, age_after_minus c.in-Some.digits.now, ← c.if-is_digits.ensures)

pub returns-else-is_digits : goal.returns-else-is_digits
returns-else-is_digits c =
    let text = strip_prefix_char 45 c.args.value.now (Some c.in-Some.digits) c.in-Some.ensures.cases (lit< tt) in
    rw (text, age_after_minus c.in-Some.digits.now, ← c.if-is_digits.ensures)

pub returns-then-is_digits-2 : goal.returns-then-is_digits-2
returns-then-is_digits-2 c =
    let other : (rest : List ℕ) → c.args.value.now ≢ 45 ∷ rest = strip_prefix_char 45 c.args.value.now None c.in-None.ensures.cases (lit< tt) in
    let seconds = to_z-of_z w64 c.seconds.result (record { sfits = c.seconds.type_inv }) ∙ c.seconds.ensures in
    ap Some (c.from_secs.ensures ∙ ap (λ s. s *ℤ pos 1_000_000_000) seconds)
    ∙ sym (rw (age_without_minus c.args.value.now other, ← c.if-is_digits-2.ensures, ← c.if-not-is_empty.ensures))

pub returns-else-not-is_empty : goal.returns-else-not-is_empty
returns-else-not-is_empty c =
    let other : (rest : List ℕ) → c.args.value.now ≢ 45 ∷ rest = strip_prefix_char 45 c.args.value.now None c.in-None.ensures.cases (lit< tt) in
    elim c.else-not-is_empty.branch [
      | else-not-is_empty-via-then-not-is_empty+else-is_digits-2 w ↦ rw (age_without_minus c.args.value.now other, ← w.if-is_digits-2.ensures, ← w.if-not-is_empty.ensures)
      | else-not-is_empty-via-else-not-is_empty w ↦ rw (age_without_minus c.args.value.now other, ← w.if-not-is_empty.ensures)
    ]
