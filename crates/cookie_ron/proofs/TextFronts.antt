-- Quoted strings.
use Rattle.std.proofs.Common.{◌≡◌, ℕ, zero, suc, ◌<◌, List, [], ◌∷◌, ◌++◌, length, flat_map, Option, Some, None, option_and_then, false, ◌||◌, ◌==◌, codes, length-append, refl, sym, ap, subst, ◌∙◌, arith}
use Rattle.std.specs.Char.{encode_utf8}
use Rattle.std.specs.List.{AllZip}
use Rattle.std.specs.Str.{encode_utf8_all, NonePass}
use Rattle.std.proofs.lemmas.Bool.{or_parts}
use Rattle.std.proofs.lemmas.Option.{option_and_then_some}
use Rattle.std.proofs.lemmas.List.{append_assoc, append-nil}
use Rattle.cookie_ron.specs.Grammar.{◌▸◌, Exactly, CharForm, CharForms, Text}
use Rattle.cookie_ron.specs.RonInput.{behind, token_at, char_at, onto, chars_behind, chars_at, text_at}
use Rattle.cookie_ron.proofs.Onto.{onto_both, onto_none}
use Rattle.cookie_ron.proofs.Fronts.{Front, Takes, joined, front_of, front_shorter, chain}
use Rattle.cookie_ron.proofs.SignFronts.{behind_front, sign_front, sign_takes}
use Rattle.cookie_ron.proofs.CharFronts.{map_some, char_front, char_takes}

-- a character of a string, escaped or not, is not empty
part_fits : (c : ℕ) (part : List ℕ) → CharForm c part → 0 < length part
part_fits c [] h = let none = (char_takes c).at [] [] h in cc
part_fits c (x ∷ xs) h = omega arith

-- the rest after a character is shorter
pub char_shorter : (s rest : List ℕ) (c : ℕ) → char_at s ≡ Some (c, rest) → length rest < length s
char_shorter s rest c e = let f = char_front s rest c e in front_shorter f (part_fits c f.front f.holds)

-- ---- the bound on the characters left is large enough

same_chars : (f g : List ℕ → Option (List ℕ × List ℕ)) (s : List ℕ) (o : Option (ℕ × List ℕ)) → char_at s ≡ o
    → ((t : List ℕ) → length t < length s → f t ≡ g t) → chars_behind f s o ≡ chars_behind g s o
same_chars f g s None e same = refl
same_chars f g s (Some (c, rest)) e same =
    ap (onto (encode_utf8 c)) (same rest (char_shorter s rest c e))

chars_fuel : (n m : ℕ) (s : List ℕ) → length s < n → length s < m → chars_at n s ≡ chars_at m s
chars_fuel zero m s below above = absurd (omega (arith, below))
chars_fuel (suc n) zero s below above = absurd (omega (arith, above))
chars_fuel (suc n) (suc m) s below above =
    same_chars (λ t. chars_at n t) (λ t. chars_at m t) s (char_at s) refl
    (λ t shorter. chars_fuel n m t (omega (arith, shorter, below)) (omega (arith, shorter, above)))

-- one more character has been read
pub chars_turn : (front text s rest : List ℕ) (c : ℕ) → char_at s ≡ Some (c, rest) → text ≡ front ++ encode_utf8 c
    → onto front (chars_at (suc (length s)) s) ≡ onto text (chars_at (suc (length rest)) rest)
chars_turn front text s rest c e is =
    ap (λ o. onto front (chars_behind (λ t. chars_at (length s) t) s o)) e
    ∙ ap (λ o. onto front (onto (encode_utf8 c) o)) (chars_fuel (length s) (suc (length rest)) rest (char_shorter s rest c e) (omega arith))
    ∙ onto_both front (encode_utf8 c) (chars_at (suc (length rest)) rest)
    ∙ ap (λ t. onto t (chars_at (suc (length rest)) rest)) (sym is)

plain_char : (c : ℕ) (s : List ℕ) → ((c == 34) || (c == 92)) ≡ false → char_at (c ∷ s) ≡ Some (c, s)
plain_char c s plain = let no = or_parts (c == 34) (c == 92) plain in rw (no.1, no.0) refl

-- a run without a quote or a backslash has been read
pub chars_run : (front run s text : List ℕ) → NonePass (λ c. (c == 34) || (c == 92)) run → text ≡ front ++ encode_utf8_all run
    → onto front (chars_at (suc (length (run ++ s))) (run ++ s)) ≡ onto text (chars_at (suc (length s)) s)
chars_run front [] s text plain is = ap (λ t. onto t (chars_at (suc (length s)) s)) (sym (is ∙ append-nil front))
chars_run front (c ∷ run) s text plain is =
    chars_turn front (front ++ encode_utf8 c) (c ∷ (run ++ s)) (run ++ s) c (plain_char c (run ++ s) plain.0) refl
    ∙ chars_run (front ++ encode_utf8 c) run s text plain.1 (is ∙ sym (append_assoc front (encode_utf8 c) (encode_utf8_all run)))

-- a string, when its first run has been read
pub text_begins : (input first s cs text : List ℕ) → token_at (codes "\"") input ≡ Some first → first ≡ cs ++ s
    → NonePass (λ c. (c == 34) || (c == 92)) cs → text ≡ encode_utf8_all cs → text_at input ≡ onto text (chars_at (suc (length s)) s)
unfolding text_at
text_begins input first s cs text quote is plain text_is =
    ap (option_and_then (λ t. chars_at (suc (length t)) t)) quote
    ∙ ap (λ t. chars_at (suc (length t)) t) is
    ∙ onto_none (chars_at (suc (length (cs ++ s))) (cs ++ s))
    ∙ chars_run [] cs s text plain text_is

-- one more character and the run behind it have been read
pub run_turn : (front between text s next rest cs : List ℕ) (c : ℕ) → char_at s ≡ Some (c, next) → between ≡ front ++ encode_utf8 c
    → next ≡ cs ++ rest → NonePass (λ c. (c == 34) || (c == 92)) cs → text ≡ between ++ encode_utf8_all cs
    → onto front (chars_at (suc (length s)) s) ≡ onto text (chars_at (suc (length rest)) rest)
run_turn front between text s next rest cs c e between_is is plain text_is =
    chars_turn front between s next c e between_is
    ∙ ap (λ t. onto between (chars_at (suc (length t)) t)) is
    ∙ chars_run between cs rest text plain text_is

-- ---- the characters

abbrev Chars : List ℕ → List ℕ → Type 0
Chars cs = CharForms cs ▸ Exactly (codes "\"")

chars_more : (c : ℕ) (cs : List ℕ) (s : List ℕ) → (CharForm c ▸ Chars cs) s → Chars (c ∷ cs) s
chars_more c cs s (x, y, e, this, (x', y', e', (parts, is, all), quote)) =
    (x ++ x', y', e ∙ ap (λ t. x ++ t) e' ∙ sym (append_assoc x x' y'), (x ∷ parts, ap (λ t. x ++ t) is, (this, all)), quote)

chars_cases : (n : ℕ) (s text rest : List ℕ) (o : Option (ℕ × List ℕ)) → char_at s ≡ o → chars_behind (λ t. chars_at n t) s o ≡ Some (text, rest)
    → ((t text rest : List ℕ) → chars_at n t ≡ Some (text, rest) → (cs : List ℕ) × (text ≡ encode_utf8_all cs) × Front (Chars cs) t rest)
    → (cs : List ℕ) × (text ≡ encode_utf8_all cs) × Front (Chars cs) s rest
chars_cases n s text rest None no_char e more =
    let h = map_some (λ r. ([], r)) (behind (codes "\"") s) (text, rest) e in (
      [],
      sym (ap (λ p. p.0) h.2),
      record {
        front = codes "\"";
        is = behind_front (codes "\"") s h.0 h.1 ∙ ap (λ p. 34 ∷ p.1) h.2;
        holds = ([], codes "\"", refl, ([], refl, tt), refl);
      },
    )
chars_cases n s text rest (Some (c, r)) a_char e more =
    let h = map_some (λ read. (encode_utf8 c ++ read.0, read.1)) (chars_at n r) (text, rest) e in
    let m = more r h.0.0 h.0.1 h.1 in
    let f : Front (Chars (c ∷ m.0)) s h.0.1 = front_of (chars_more c m.0) (joined (char_front s r c a_char) m.2) in
    (c ∷ m.0, sym (ap (λ p. p.0) h.2) ∙ ap (λ t. encode_utf8 c ++ t) m.1, subst (λ t. Front (Chars (c ∷ m.0)) s t) (ap (λ p. p.1) h.2) f)

chars_front : (n : ℕ) (s text rest : List ℕ) → chars_at n s ≡ Some (text, rest)
    → (cs : List ℕ) × (text ≡ encode_utf8_all cs) × Front (Chars cs) s rest
chars_front zero s text rest e = cc
chars_front (suc n) s text rest e = chars_cases n s text rest (char_at s) refl e (λ t text rest e. chars_front n t text rest e)

chars_over : (cs : List ℕ) (parts : List (List ℕ)) (n : ℕ) (rest : List ℕ) → AllZip CharForm cs parts
    → length (flat_map (λ part. part) parts ++ 34 ∷ rest) < n
    → chars_at n (flat_map (λ part. part) parts ++ 34 ∷ rest) ≡ Some (encode_utf8_all cs, rest)
chars_over cs parts zero rest all few = absurd (omega (arith, few))
chars_over [] [] (suc n) rest all few = refl
chars_over [] (part ∷ parts) (suc n) rest all few = absurd all
chars_over (c ∷ cs) [] (suc n) rest all few = absurd all
chars_over (c ∷ cs) (part ∷ parts) (suc n) rest all few =
    let more : List ℕ = flat_map (λ part. part) parts ++ 34 ∷ rest in
    let apart : (part ++ flat_map (λ part. part) parts) ++ 34 ∷ rest ≡ part ++ more =
    append_assoc part (flat_map (λ part. part) parts) (34 ∷ rest) in
    let fewer : length more < n = omega (arith, few, ap length apart, length-append part more, part_fits c part all.0) in
    ap (chars_at (suc n)) apart
    ∙ ap (chars_behind (λ t. chars_at n t) (part ++ more)) ((char_takes c).at part more all.0)
    ∙ ap (onto (encode_utf8 c)) (chars_over cs parts n rest all.1 fewer)

chars_takes : (cs : List ℕ) → Takes (Chars cs) (λ s. chars_at (suc (length s)) s) (λ rest. (encode_utf8_all cs, rest))
chars_takes cs = record {
  at = λ front rest (x, y, e, (parts, is, all), quote).
      let same : front ++ rest ≡ flat_map (λ part. part) parts ++ 34 ∷ rest =
      ap (λ f. f ++ rest) (e ∙ ap (λ t. x ++ t) quote ∙ ap (λ t. t ++ 34 ∷ []) is)
      ∙ append_assoc (flat_map (λ part. part) parts) (34 ∷ []) rest in
      ap (λ s. chars_at (suc (length s)) s) same ∙ chars_over cs parts (suc (length (flat_map (λ part. part) parts ++ 34 ∷ rest))) rest all (omega arith);
}

-- ---- a quoted string

pub text_front : {s text rest : List ℕ} → text_at s ≡ Some (text, rest) → Front (Text text) s rest
unfolding text_at
text_front {s} {text} {rest} e =
    option_and_then_some _ (token_at (codes "\"") s) (text, rest) e (λ r quote e1.
    let m = chars_front (suc (length r)) r text rest e1 in
    let f = joined (sign_front (codes "\"") quote) m.2 in
    record { front = f.front; is = f.is; holds = (m.0, m.1, f.holds) })

pub text_takes : (text : List ℕ) → Takes (Text text) text_at (λ rest. (text, rest))
unfolding text_at
text_takes text = record {
  at = λ front rest (cs, is, h).
      (chain (λ r. chars_at (suc (length r)) r) (sign_takes (codes "\"") refl) (chars_takes cs)).at front rest h
      ∙ ap (λ t. Some (t, rest)) (sym is);
}
