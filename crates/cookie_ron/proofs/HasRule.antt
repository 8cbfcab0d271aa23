-- UTF-8 whose characters are of a grammar rule, combined as the rules are.
use Rattle.std.proofs.Common.{◌≡◌, ◌<◌, ℕ, List, [], ◌∷◌, ◌++◌, true, codes, inl, inr, refl, arith}
use Rattle.std.proofs.lemmas.Bool.Decides.{nat_tests}
use Rattle.std.proofs.lemmas.Str.{IsUtf8-append, IsUtf8-from_ascii, chars-append, chars-IsAscii}
use Rattle.std.proofs.lemmas.Str.Ascii.{IsAscii-nil, IsAscii-cons}
use Rattle.std.specs.Char.{is_ascii}
use Rattle.std.specs.List.{list_all}
use Rattle.std.specs.Str.{IsAscii, IsUtf8, chars}
use Rattle.cookie_ron.proofs.Bools.{both_true}
use Rattle.cookie_ron.specs.Grammar.{◌▸◌, Exactly, Token, Close, is_blank}

-- the bytes are UTF-8, and their characters are of the rule
pub record HasRule (P : List ℕ → Type 0) (bs : List ℕ) : Type 0 where
  pub utf8 : IsUtf8 bs
  pub matches : P (chars bs)

-- a sequence of two rules
pub both : {P Q : List ℕ → Type 0} {xs ys : List ℕ} → HasRule P xs → HasRule Q ys → HasRule (P ▸ Q) (xs ++ ys)
both {xs = xs} {ys = ys} p q = record {
  utf8 = IsUtf8-append xs ys p.utf8 q.utf8;
  matches = (chars xs, chars ys, chars-append xs ys p.utf8, p.matches, q.matches);
}

below : (x : ℕ) → is_ascii x ≡ true → x < 128
below x h = grind (arith, nat_tests)

all_below : (bs : List ℕ) → list_all is_ascii bs ≡ true → IsAscii bs
all_below [] h = IsAscii-nil
all_below (x ∷ bs) h =
    let each = both_true (is_ascii x) (list_all is_ascii bs) h in
    IsAscii-cons x bs (below x each.0) (all_below bs each.1)

-- ASCII bytes are UTF-8, and are their characters
pub ascii_utf8 : (bs : List ℕ) → list_all is_ascii bs ≡ true → IsUtf8 bs
ascii_utf8 bs h = IsUtf8-from_ascii bs (all_below bs h)

pub ascii_chars : (bs : List ℕ) → list_all is_ascii bs ≡ true → chars bs ≡ bs
ascii_chars bs h = chars-IsAscii bs (all_below bs h)

pub just : (text : List ℕ) → list_all is_ascii text ≡ true → HasRule (Exactly text) text
just text h = record { utf8 = ascii_utf8 text h; matches = ascii_chars text h }

pub token : (blanks text : List ℕ) → list_all is_blank blanks ≡ true → list_all is_ascii (blanks ++ text) ≡ true
    → HasRule (Token text) (blanks ++ text)
token blanks text b h = record {
  utf8 = ascii_utf8 (blanks ++ text) h;
  matches = (blanks, text, ascii_chars (blanks ++ text) h, b, refl);
}

pub close : {text bs : List ℕ} → HasRule (Token text) bs → HasRule (Close text) bs
close s = record { utf8 = s.utf8; matches = inl s.matches }

-- a closing token with a comma before it
pub close_comma : {text bs : List ℕ} → HasRule (Token (codes ",") ▸ Token text) bs → HasRule (Close text) bs
close_comma s = record { utf8 = s.utf8; matches = inr s.matches }
