use Rattle.std.proofs.Common.{◌≡◌, ◌<◌, ◌+◌, ◌/◌, ◌%◌, ◌∷◌, ◌∙◌, [], List, ℕ, ap, arith, get_or, refl, rules}
use Rattle.std.proofs.lemmas.List.Elements.{All-from_recursion}
use Rattle.std.proofs.lemmas.Str.{IsUtf8-from_ascii}
use Rattle.std.proofs.lemmas.Str.Ascii.{IsAscii-from_all}
use Rattle.std.specs.List.{AllByRecursion}
use Rattle.std.specs.Prelude.{IsUtf8}
use Rattle.cookie_forms.specs.MomentText.{two_digits}
use Rattle.cookie_forms.proofs.moment.moment_bytes.Goals as goal

-- the digits of each number, with the separators between them
text_of_digits : (c y m d h n s : List ℕ) (century year month day hour minute second : ℕ) →
    c ≡ two_digits century → y ≡ two_digits year → m ≡ two_digits month → d ≡ two_digits day →
    h ≡ two_digits hour → n ≡ two_digits minute → s ≡ two_digits second →
    (get_or c 0 0 ∷ get_or c 1 0 ∷ get_or y 0 0 ∷ get_or y 1 0 ∷ 45 ∷ get_or m 0 0 ∷ get_or m 1 0 ∷ 45 ∷
    get_or d 0 0 ∷ get_or d 1 0 ∷ 84 ∷ get_or h 0 0 ∷ get_or h 1 0 ∷ 58 ∷ get_or n 0 0 ∷ get_or n 1 0 ∷ 58 ∷
    get_or s 0 0 ∷ get_or s 1 0 ∷ 90 ∷ [])
    ≡ ((48 + century / 10) ∷ (48 + century % 10) ∷ (48 + year / 10) ∷ (48 + year % 10) ∷ 45 ∷
    (48 + month / 10) ∷ (48 + month % 10) ∷ 45 ∷ (48 + day / 10) ∷ (48 + day % 10) ∷ 84 ∷
    (48 + hour / 10) ∷ (48 + hour % 10) ∷ 58 ∷ (48 + minute / 10) ∷ (48 + minute % 10) ∷ 58 ∷
    (48 + second / 10) ∷ (48 + second % 10) ∷ 90 ∷ [])
text_of_digits c y m d h n s century year month day hour minute second of_c of_y of_m of_d of_h of_n of_s =
    rw (of_c, of_y, of_m, of_d, of_h, of_n, of_s) refl

pub returns-clause-text : goal.returns-clause-text
returns-clause-text c =
    text_of_digits _ _ _ _ _ _ _ _ _ _ _ _ _ _
    (c.two_digits.ensures.digits ∙ ap two_digits (ap (λ (n : ℕ). n / 100) (search rules)))
    (c.two_digits-2.ensures.digits ∙ ap two_digits (ap (λ (n : ℕ). n % 100) (search rules)))
    (c.two_digits-3.ensures.digits ∙ ap two_digits (search rules))
    (c.two_digits-4.ensures.digits ∙ ap two_digits (search rules))
    (c.two_digits-5.ensures.digits ∙ ap two_digits (search rules))
    (c.two_digits-6.ensures.digits ∙ ap two_digits (search rules))
    (c.two_digits-7.ensures.digits ∙ ap two_digits (search rules))

utf8_from_ascii : (bs : List ℕ) → AllByRecursion (λ b. b < 128) bs → IsUtf8 bs
utf8_from_ascii bs h = IsUtf8-from_ascii bs (IsAscii-from_all bs (All-from_recursion (λ b. b < 128) bs h))

pub returns-clause-utf8 : goal.returns-clause-utf8
returns-clause-utf8 c =
    let century = c.two_digits.ensures.ascii in
    let year = c.two_digits-2.ensures.ascii in
    let month = c.two_digits-3.ensures.ascii in
    let day = c.two_digits-4.ensures.ascii in
    let hour = c.two_digits-5.ensures.ascii in
    let minute = c.two_digits-6.ensures.ascii in
    let second = c.two_digits-7.ensures.ascii in
    utf8_from_ascii _ (search (arith, century 0, century 1, year 0, year 1, month 0, month 1, day 0, day 1, hour 0, hour 1, minute 0, minute 1, second 0, second 1))
