-- A line feed after a JSON text does not change what it is read as.
use Rattle.std.proofs.Common.{◌≡◌, ℕ, ◌+◌, ◌-◌, Bool, true, false, cond, ◌&&◌, ◌==◌, not, nat_eq}
use Rattle.std.proofs.Common.{List, [], ◌∷◌, ◌++◌, length, drop, Option, Some, None, option_map, option_and_then}
use Rattle.std.proofs.Common.{refl, ap, ◌∙◌, arith, length-append}
use Rattle.std.proofs.Math.Bool.{and-false}
use Rattle.std.proofs.lemmas.Bool.{false≢true, and_parts}
use Rattle.std.proofs.lemmas.List.{take-append-le, drop-append-le}
use Rattle.std.proofs.lemmas.List.Sums.{prefix_len-le-length}
use Rattle.std.specs.Char.{is_ascii_digit}
use Rattle.std.specs.List.{list_all, prefix_len, starts_with}
use Rattle.json.specs.Token.{Token, boolean, null}
use Rattle.json.specs.Ascii as ascii
use Rattle.json.specs.Lex.{Lexeme, Class, Mode, between, in_word, in_string, in_escape, lex, lex_byte}
use Rattle.json.specs.Lex.{quote, backslash, operator, space, other, class}
use Rattle.json.specs.Text.{content, plain, after_backslash, after_u, after_high, Within, code_unit, short_escape}
use Rattle.json.specs.Word.{after_digits, after_exponent, after_fraction, after_minus, after_number, after_sign, after_whole}
use Rattle.json.specs.Word.{ends_word, literal, number_before, word}
use Rattle.serde_json.specs.Read.{read}

-- the input with a line feed after it
abbrev fed : List ℕ → List ℕ
fed xs = xs ++ 10 ∷ []

-- ---- the content of a string

-- a line feed is not a hexadecimal digit
no_unit : (a b c : ℕ) → code_unit a b c 10 ≡ None
unfolding code_unit
no_unit a b c = simp and-false

-- a conditional with two equal branches
either_way : {A : Type 0} (b : Bool) (x : A) → cond b x x ≡ x
either_way true x = refl
either_way false x = refl

-- the content of a string is the same: a string still open at the line feed has none
content_fed : (w : Within) (xs : List ℕ) → content w (fed xs) ≡ content w xs
unfolding content short_escape
content_fed plain [] = refl
content_fed plain (x ∷ xs) = rw (content_fed plain xs, content_fed after_backslash xs) refl
content_fed after_backslash [] = refl
content_fed after_backslash (x ∷ xs) = rw (content_fed plain xs, content_fed after_u xs) refl
content_fed after_u [] = refl
content_fed after_u (a ∷ []) = refl
content_fed after_u (a ∷ b ∷ []) = refl
content_fed after_u (a ∷ b ∷ c ∷ []) = rw (no_unit a b c) refl
content_fed after_u (a ∷ b ∷ c ∷ d ∷ xs) =
    let behind : (w : Within) → content w (fed xs) ≡ content w xs = λ w. content_fed w xs in
    simp behind
content_fed (after_high h) [] = refl
content_fed (after_high h) (s ∷ []) = refl
content_fed (after_high h) (s ∷ u ∷ []) = refl
content_fed (after_high h) (s ∷ u ∷ a ∷ []) = refl
content_fed (after_high h) (s ∷ u ∷ a ∷ b ∷ []) = refl
content_fed (after_high h) (s ∷ u ∷ a ∷ b ∷ c ∷ []) = rw (no_unit a b c) (either_way _ None)
content_fed (after_high h) (s ∷ u ∷ a ∷ b ∷ c ∷ d ∷ xs) =
    let behind : content plain (fed xs) ≡ content plain xs = content_fed plain xs in
    simp behind

-- ---- a word

-- a word ends at a line feed as it does at the end of the input
ends_fed : (t : List ℕ) → ends_word (fed t) ≡ ends_word t
ends_fed [] = refl
ends_fed (x ∷ xs) = refl

-- a line feed is not a digit
digits_fed : (t : List ℕ) → prefix_len is_ascii_digit (fed t) ≡ prefix_len is_ascii_digit t
digits_fed [] = refl
digits_fed (x ∷ xs) = ap (λ n. cond (is_ascii_digit x) (1 + n) 0) (digits_fed xs)

-- the rest after a part of a number is the same, with the line feed after it
abbrev Leaves : Option (List ℕ) → Option (List ℕ) → Type 0
Leaves o p = p ≡ option_map fed o

-- the same for both branches of a conditional
leaves_either : (b : Bool) (o p q r : Option (List ℕ)) → Leaves o q → Leaves p r → Leaves (cond b o p) (cond b q r)
leaves_either true o p q r first second = first
leaves_either false o p q r first second = second

-- the same for one part after another
leaves_then : (f : List ℕ → Option (List ℕ)) (o : Option (List ℕ)) → ((t : List ℕ) → Leaves (f t) (f (fed t)))
    → Leaves (option_and_then f o) (option_and_then f (option_map fed o))
leaves_then f None part = refl
leaves_then f (Some t) part = part t

-- the same if a byte may be skipped or not
fed_either : (b : Bool) (s t : List ℕ) → cond b (fed s) (fed t) ≡ fed (cond b s t)
fed_either true s t = refl
fed_either false s t = refl

-- the digits, at least one
leaves_digits : (t : List ℕ) → Leaves (after_digits t) (after_digits (fed t))
leaves_digits t =
    rw (digits_fed t, drop-append-le (prefix_len is_ascii_digit t) t (10 ∷ []) (prefix_len-le-length is_ascii_digit t))
    (leaves_either (prefix_len is_ascii_digit t == 0) None (Some (drop (prefix_len is_ascii_digit t) t)) _ _ refl refl)

-- an optional minus
minus_fed : (t : List ℕ) → after_minus (fed t) ≡ fed (after_minus t)
minus_fed [] = refl
minus_fed (x ∷ xs) = fed_either (x == 45) xs (x ∷ xs)

-- a zero, or digits
leaves_whole : (t : List ℕ) → Leaves (after_whole t) (after_whole (fed t))
leaves_whole [] = refl
leaves_whole (x ∷ xs) = leaves_either (x == 48) (Some xs) _ _ _ refl (leaves_digits (x ∷ xs))

-- an optional fraction: a dot and digits
leaves_fraction : (t : List ℕ) → Leaves (after_fraction t) (after_fraction (fed t))
leaves_fraction [] = refl
leaves_fraction (x ∷ xs) = leaves_either (x == 46) _ (Some (x ∷ xs)) _ _ (leaves_digits xs) refl

-- an optional sign
sign_fed : (t : List ℕ) → after_sign (fed t) ≡ fed (after_sign t)
sign_fed [] = refl
sign_fed (x ∷ xs) = fed_either _ xs (x ∷ xs)

-- an optional exponent
leaves_exponent : (t : List ℕ) → Leaves (after_exponent t) (after_exponent (fed t))
leaves_exponent [] = refl
leaves_exponent (x ∷ xs) = leaves_either _ _ (Some (x ∷ xs)) _ _ (ap after_digits (sign_fed xs) ∙ leaves_digits (after_sign xs)) refl

-- a whole number
leaves_number : (t : List ℕ) → Leaves (after_number t) (after_number (fed t))
unfolding after_number
leaves_number t = rw (minus_fed t, leaves_whole (after_minus t), leaves_then after_fraction (after_whole (after_minus t)) leaves_fraction)
    (leaves_then after_exponent (option_and_then after_fraction (after_whole (after_minus t))) leaves_exponent)

-- the number read is the same
number_fed : (t : List ℕ) (o : Option (List ℕ)) → number_before (fed t) (option_map fed o) ≡ number_before t o
number_fed t None = refl
number_fed t (Some rest) =
    let size : length (fed t) - length (fed rest) ≡ length t - length rest =
    omega (arith, length-append t (10 ∷ []), length-append rest (10 ∷ [])) in
    rw (ends_fed rest, size, take-append-le (length t - length rest) t (10 ∷ []) (omega arith)) refl

-- no match if the first bytes differ
no_match : (same p q : Bool) → not same ≡ true → (same && p && q) ≡ false
no_match true p q differs = absurd (false≢true differs)
no_match false p q differs = refl

-- a match is the same whether the first bytes are equal or not
match_first : (same p q r s : Bool) → (p && q) ≡ (r && s) → (same && p && q) ≡ (same && r && s)
match_first true p q r s after = after
match_first false p q r s after = refl

-- whether an input begins with a name as a whole word is the same, if the name has no line feed
starts_fed : (name t : List ℕ) → list_all (λ x. not (x == 10)) name ≡ true
    → (starts_with nat_eq (fed t) name && ends_word (drop (length name) (fed t)))
    ≡ (starts_with nat_eq t name && ends_word (drop (length name) t))
starts_fed [] t clean = ends_fed t
starts_fed (x ∷ name) [] clean = no_match (x == 10) _ _ (and_parts _ _ clean).0
starts_fed (x ∷ name) (y ∷ t) clean = match_first (x == y) _ _ _ _ (starts_fed name t (and_parts _ _ clean).1)

-- `true`, `false` and `null`
literal_fed : (name : List ℕ) (token : Token) (t : List ℕ) → list_all (λ x. not (x == 10)) name ≡ true
    → literal name token (fed t) ≡ literal name token t
literal_fed name token t clean = rw (starts_fed name t clean) refl

-- a literal or a number
word_fed : (x : ℕ) (xs : List ℕ) → word (fed (x ∷ xs)) ≡ word (x ∷ xs)
unfolding word
word_fed x xs =
    let text = x ∷ xs in
    rw (
      literal_fed ascii.true_text (boolean true) text refl,
      literal_fed ascii.false_text (boolean false) text refl,
      literal_fed ascii.null_text null text refl,
      leaves_number text,
      number_fed text (after_number text),
    ) refl

-- ---- the lexer

-- the lexeme that begins with the byte x is the same
front : (m : Mode) (c : Class) (x : ℕ) (xs : List ℕ) (k : Mode → List Lexeme) → lex_byte m c x (fed xs) k ≡ lex_byte m c x xs k
front between quote x xs k = rw (content_fed plain xs) refl
front between backslash x xs k = refl
front between operator x xs k = refl
front between space x xs k = refl
front between other x xs k = rw (word_fed x xs) refl
front in_word quote x xs k = refl
front in_word backslash x xs k = refl
front in_word operator x xs k = refl
front in_word space x xs k = refl
front in_word other x xs k = refl
front in_string quote x xs k = refl
front in_string backslash x xs k = refl
front in_string operator x xs k = refl
front in_string space x xs k = refl
front in_string other x xs k = refl
front in_escape c x xs k = refl

-- the lexemes are the same, in each mode
lex_fed : (m : Mode) (xs : List ℕ) → lex m (fed xs) ≡ lex m xs
unfolding lex
lex_fed between [] = refl
lex_fed in_word [] = refl
lex_fed in_string [] = refl
lex_fed in_escape [] = refl
lex_fed m (x ∷ xs) =
    let behind : (next : Mode) → lex next (fed xs) ≡ lex next xs = λ next. lex_fed next xs in
    simp behind (front m (class x) x xs (λ next. lex next xs))

-- so the value read is the same
pub read_before_line_feed : (text : List ℕ) → read (text ++ 10 ∷ []) ≡ read text
read_before_line_feed text = rw (lex_fed between text) refl
