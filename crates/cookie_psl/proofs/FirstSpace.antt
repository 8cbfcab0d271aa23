-- A line up to its first white space, as `split_once` splits it.
use Rattle.std.proofs.Common.{◌≡◌, ℕ, Bool, true, false, not, List, [], ◌∷◌, ◌++◌, take, drop, refl, ap, sym, ◌∙◌, Some, None}
use Rattle.std.specs.Char.{encode_utf8, is_whitespace}
use Rattle.std.specs.List.{before_first}
use Rattle.std.specs.Str.{chars, encode_utf8_all, IsUtf8, NonePass}
use Rattle.std.specs.Str.Pattern.{FindsBy}
use Rattle.std.proofs.lemmas.List.{append_assoc, take-append-drop}
use Rattle.std.proofs.lemmas.List.Sums.{take_while-cons}
use Rattle.std.proofs.lemmas.Str.{chars_from_encodes, cons_from_encodes, encodes-chars}
use Rattle.cookie_psl.specs.ListFormat.{read_part}

-- nothing precedes a first element that passes
before_first-cons_yes : (p : ℕ → Bool) (c : ℕ) (cs : List ℕ) → p c ≡ true → before_first p (c ∷ cs) ≡ []
before_first-cons_yes p c cs passes = take_while-cons (λ d. not (p d)) c cs ∙ rw passes

-- a first element that does not pass precedes the first that does
before_first-cons_no : (p : ℕ → Bool) (c : ℕ) (cs : List ℕ) → p c ≡ false → before_first p (c ∷ cs) ≡ c ∷ before_first p cs
before_first-cons_no p c cs fails = take_while-cons (λ d. not (p d)) c cs ∙ rw fails

-- if no character passes, all precede the first that does
before_first-none : (p : ℕ → Bool) (cs : List ℕ) → NonePass p cs → before_first p cs ≡ cs
before_first-none p [] none = refl
before_first-none p (c ∷ cs) none = before_first-cons_no p c cs none.0 ∙ ap (λ l. c ∷ l) (before_first-none p cs none.1)

-- the characters before the first that passes, from the bytes before it
before_first-encoded : (p : ℕ → Bool) (prefix : List ℕ) (c : ℕ) (rest cs : List ℕ) → NonePass p prefix → p c ≡ true
    → encode_utf8_all cs ≡ encode_utf8_all prefix ++ (encode_utf8 c ++ rest) → before_first p cs ≡ prefix
before_first-encoded p [] c rest cs none passes same =
    let found = cons_from_encodes cs rest c same in
    ap (before_first p) found.1 ∙ before_first-cons_yes p c found.0 passes
before_first-encoded p (d ∷ prefix) c rest cs none passes same =
    let found = cons_from_encodes cs (encode_utf8_all prefix ++ (encode_utf8 c ++ rest)) d
    (same ∙ append_assoc (encode_utf8 d) (encode_utf8_all prefix) (encode_utf8 c ++ rest)) in
    ap (before_first p) found.1 ∙ before_first-cons_no p d found.0 none.0
    ∙ ap (λ l. d ∷ l) (before_first-encoded p prefix c rest found.0 none.1 passes found.2)

-- a line without white space is read to its end
pub read_part-none : (line : List ℕ) → IsUtf8 line → FindsBy is_whitespace line None → line ≡ read_part line
read_part-none line text found =
    sym found.1 ∙ ap encode_utf8_all (sym (before_first-none is_whitespace found.0 found.2)
    ∙ ap (before_first is_whitespace) (chars_from_encodes found.0 line text found.1))

-- a line is read up to its first white space
pub read_part-some : (line : List ℕ) (i j : ℕ) → IsUtf8 line → FindsBy is_whitespace line (Some (i, j)) → take i line ≡ read_part line
read_part-some line i j text found =
    let same : encode_utf8_all (chars line) ≡ encode_utf8_all found.0.0 ++ (encode_utf8 found.1.0 ++ drop j line) =
    encodes-chars line text ∙ sym (take-append-drop i line) ∙ ap (λ l. l ++ drop i line) (sym found.0.1)
    ∙ ap (λ l. encode_utf8_all found.0.0 ++ l) found.1.2.split in
    sym found.0.1 ∙ ap encode_utf8_all (sym (before_first-encoded is_whitespace found.0.0 found.1.0 (drop j line) (chars line) found.0.2 found.1.1 same))
