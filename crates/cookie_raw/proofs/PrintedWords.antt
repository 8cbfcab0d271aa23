-- The words of a printed date are its tokens.
use Rattle.std.proofs.Common.{◌≡◌, ℕ, ◌/◌, ◌%◌, ◌<◌, Bool, true, not, ◌&&◌, List, [], ◌∷◌, ◌++◌, length, get_or, filter, codes, refl, ap, ◌∙◌, arith, append_assoc}
use Rattle.std.specs.Prelude.{◌==◌}
use Rattle.std.specs.List.{list_all, slice_split, onto_first}
use Rattle.std.proofs.lemmas.Bool.{agree_below_at, not-true, cond-true, and_parts}
use Rattle.std.proofs.lemmas.List.Splits.{slice_split-cons_no, slice_split-cons_yes}
use Rattle.cookie_raw.specs.CookieDate.{is_delimiter, tokens, month_names}
use Rattle.cookie_raw.specs.CookieText.{day_names, two_digits, four_digits}
use Rattle.cookie_raw.proofs.AsciiTexts.{all_of_both}
use Rattle.cookie_raw.proofs.PrintedTokens.{clock_text}

-- a nonempty string without delimiters
abbrev pub is_word : List ℕ → Bool
is_word token = not (length token == 0) && list_all (λ b. not (is_delimiter b)) token

-- splitting after bytes that are not delimiters
cut_behind : (word : List ℕ) (cut : ℕ) (rest : List ℕ) → list_all (λ b. not (is_delimiter b)) word ≡ true → is_delimiter cut ≡ true
    → slice_split is_delimiter (word ++ cut ∷ rest) ≡ word ∷ slice_split is_delimiter rest
cut_behind [] cut rest h k = slice_split-cons_yes is_delimiter cut rest k
cut_behind (b ∷ word) cut rest h k =
    let parts = and_parts (not (is_delimiter b)) (list_all (λ c. not (is_delimiter c)) word) h in
    slice_split-cons_no is_delimiter b (word ++ cut ∷ rest) (not-true (is_delimiter b) parts.0) ∙ ap (onto_first b) (cut_behind word cut rest parts.1 k)

-- the first token of a word followed by a delimiter is the word
word_first : (word : List ℕ) (cut : ℕ) (rest : List ℕ) → is_word word ≡ true → is_delimiter cut ≡ true → tokens (word ++ cut ∷ rest) ≡ word ∷ tokens rest
word_first word cut rest h k =
    let parts = and_parts (not (length word == 0)) (list_all (λ b. not (is_delimiter b)) word) h in
    ap (filter (λ (token : List ℕ). not (length token == 0))) (cut_behind word cut rest parts.1 k)
    ∙ cond-true (not (length word == 0)) (word ∷ tokens rest) (tokens rest) parts.0

-- the words of a printed date, joined by delimiters
abbrev pub date_of_words : List ℕ → List ℕ → List ℕ → List ℕ → List ℕ → List ℕ
date_of_words weekday day month year clock =
    weekday ++ 44 ∷ 32 ∷ (day ++ 32 ∷ (month ++ 32 ∷ (year ++ 32 ∷ (clock ++ 32 ∷ codes "GMT"))))

-- its tokens are its words
pub date_tokens : (weekday day month year clock : List ℕ)
    → is_word weekday ≡ true → is_word day ≡ true → is_word month ≡ true → is_word year ≡ true → is_word clock ≡ true
    → tokens (date_of_words weekday day month year clock) ≡ weekday ∷ day ∷ month ∷ year ∷ clock ∷ codes "GMT" ∷ []
date_tokens weekday day month year clock a b c d e =
    word_first weekday 44 (32 ∷ (day ++ 32 ∷ (month ++ 32 ∷ (year ++ 32 ∷ (clock ++ 32 ∷ codes "GMT"))))) a refl
    ∙ ap (λ ts. weekday ∷ ts) (word_first day 32 (month ++ 32 ∷ (year ++ 32 ∷ (clock ++ 32 ∷ codes "GMT"))) b refl)
    ∙ ap (λ ts. weekday ∷ day ∷ ts) (word_first month 32 (year ++ 32 ∷ (clock ++ 32 ∷ codes "GMT")) c refl)
    ∙ ap (λ ts. weekday ∷ day ∷ month ∷ ts) (word_first year 32 (clock ++ 32 ∷ codes "GMT") d refl)
    ∙ ap (λ ts. weekday ∷ day ∷ month ∷ year ∷ ts) (word_first clock 32 (codes "GMT") e refl)

-- the name of a weekday is a word
pub day_name_is_word : (n : ℕ) → n < 7 → is_word (get_or day_names n []) ≡ true
day_name_is_word n small = agree_below_at (λ m. is_word (get_or day_names m [])) (λ m. true) 7 n refl small

-- so is the name of a month
pub month_name_is_word : (n : ℕ) → n < 12 → is_word (get_or month_names n []) ≡ true
month_name_is_word n small = agree_below_at (λ m. is_word (get_or month_names m [])) (λ m. true) 12 n refl small

-- so are two digits
pub two_digits_are_word : (n : ℕ) → n < 100 → is_word (two_digits n) ≡ true
two_digits_are_word n small = agree_below_at (λ m. is_word (two_digits m)) (λ m. true) 100 n refl small

-- so are four digits
pub four_digits_are_word : (n : ℕ) → n < 10000 → is_word (four_digits n) ≡ true
four_digits_are_word n small =
    all_of_both (λ b. not (is_delimiter b)) (two_digits (n / 100)) (two_digits (n % 100))
    (two_digits_are_word (n / 100) (omega arith)) (two_digits_are_word (n % 100) (omega arith))

-- so is a time of day
pub clock_is_word : (hour minute second : ℕ) → hour < 100 → minute < 100 → second < 100 → is_word (clock_text hour minute second) ≡ true
clock_is_word hour minute second h m s =
    all_of_both (λ b. not (is_delimiter b)) (two_digits hour) (58 ∷ (two_digits minute ++ 58 ∷ two_digits second))
    (two_digits_are_word hour h)
    (all_of_both (λ b. not (is_delimiter b)) (two_digits minute) (58 ∷ two_digits second) (two_digits_are_word minute m) (two_digits_are_word second s))

-- a printed date is its words, joined
pub as_words : (weekday day month year hour minute second : List ℕ)
    → weekday ++ codes ", " ++ day ++ codes " " ++ month ++ codes " " ++ year ++ codes " " ++ hour ++ codes ":" ++ minute ++ codes ":" ++ second ++ codes " GMT"
    ≡ date_of_words weekday day month year (hour ++ 58 ∷ (minute ++ 58 ∷ second))
as_words weekday day month year hour minute second = simp append_assoc
