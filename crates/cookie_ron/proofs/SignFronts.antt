-- Tokens with blanks before them.
use Rattle.std.proofs.Common.{◌≡◌, ℕ, List, [], ◌∷◌, ◌++◌, Bool, true, false, not, Option, Some, None, codes, ◌==◌, ◌&&◌, if◌then◌else◌, refl, sym, ap, ◌∙◌, inl, inr, true≢false}
use Rattle.std.specs.List.{list_all}
use Rattle.std.proofs.lemmas.Bool.Decides.{Decides-eqb}
use Rattle.std.proofs.lemmas.List.{append_assoc}
use Rattle.cookie_ron.specs.Grammar.{is_blank, Blanks, Token, Close}
use Rattle.cookie_ron.specs.RonInput.{drop_blanks, behind, token_at, either, close_at}
use Rattle.cookie_ron.proofs.Fronts.{Front, Takes, Misses, joined, front_here, here, there}

-- the token is not empty and does not begin with a blank
abbrev pub is_solid : List ℕ → Bool
is_solid [] = false
is_solid (c ∷ cs) = not (is_blank c)

-- two tokens differ at some position
abbrev pub is_apart : List ℕ → List ℕ → Bool
is_apart [] bs = false
is_apart (a ∷ cs) [] = false
is_apart (a ∷ cs) (b ∷ bs) = if b == a then is_apart cs bs else true

-- ---- blanks

blanks_one : (b : Bool) (c : ℕ) (cs : List ℕ) → is_blank c ≡ b → Front Blanks cs (drop_blanks cs) → Front Blanks (c ∷ cs) (if b then drop_blanks cs else c ∷ cs)
blanks_one true c cs e more = record {
  front = c ∷ more.front;
  is = ap (λ s. c ∷ s) more.is;
  holds = rw e more.holds;
}
blanks_one false c cs e more = record { front = []; is = refl; holds = refl }

pub blanks_front : (s : List ℕ) → Front Blanks s (drop_blanks s)
blanks_front [] = record { front = []; is = refl; holds = refl }
blanks_front (c ∷ cs) = blanks_one (is_blank c) c cs refl (blanks_front cs)

over_one : (b more : Bool) (this rest s : List ℕ) → (b && more) ≡ true → (more ≡ true → rest ≡ s) → (if b then rest else this) ≡ s
over_one true more this rest s h e = e h
over_one false more this rest s h e = absurd (true≢false (sym h))

pub blanks_over : (x s : List ℕ) → Blanks x → drop_blanks s ≡ s → drop_blanks (x ++ s) ≡ s
blanks_over [] s h e = e
blanks_over (c ∷ cs) s h e = over_one (is_blank c) (list_all is_blank cs) _ _ s h (λ hs. blanks_over cs s hs e)

-- ---- the characters of a token

same_if : {A : Type 0} (b : Bool) (o : Option A) (r : A) → (if b then o else None) ≡ Some r → (b ≡ true) × (o ≡ Some r)
same_if true o r e = (refl, e)
same_if false o r e = cc

pub behind_front : (token s rest : List ℕ) → behind token s ≡ Some rest → s ≡ token ++ rest
behind_front [] s rest e = cc
behind_front (c ∷ cs) [] rest e = cc
behind_front (c ∷ cs) (d ∷ s) rest e =
    let h = same_if (d == c) (behind cs s) rest e in
    ap (λ x. x ∷ s) ((Decides-eqb d c).0 h.0) ∙ ap (λ x. c ∷ x) (behind_front cs s rest h.1)

eq_self : (c : ℕ) → (c == c) ≡ true
eq_self c = (Decides-eqb c c).1 refl

pub behind_over : (token rest : List ℕ) → behind token (token ++ rest) ≡ Some rest
behind_over [] rest = refl
behind_over (c ∷ cs) rest = rw (eq_self c) (behind_over cs rest)

apart_one : (b more : Bool) (o : Option (List ℕ)) → (if b then more else true) ≡ true → (more ≡ true → o ≡ None) → (if b then o else None) ≡ None
apart_one true more o h e = e h
apart_one false more o h e = refl

behind_apart : (a b rest : List ℕ) → is_apart a b ≡ true → behind a (b ++ rest) ≡ None
behind_apart [] b rest h = cc
behind_apart (a ∷ cs) [] rest h = cc
behind_apart (a ∷ cs) (b ∷ bs) rest h = apart_one (b == a) (is_apart cs bs) (behind cs (bs ++ rest)) h (λ h. behind_apart cs bs rest h)

-- ---- a token

pub sign_front : {s rest : List ℕ} (token : List ℕ) → token_at token s ≡ Some rest → Front (Token token) s rest
sign_front {s} {rest} token e = joined (blanks_front s) (front_here token rest (behind_front token (drop_blanks s) rest e) refl refl)

stays : (b : Bool) (this rest : List ℕ) → not b ≡ true → (if b then rest else this) ≡ this
stays true this rest h = absurd (true≢false (sym h))
stays false this rest h = refl

solid_stays : (token rest : List ℕ) → is_solid token ≡ true → drop_blanks (token ++ rest) ≡ token ++ rest
solid_stays [] rest h = cc
solid_stays (c ∷ cs) rest h = stays (is_blank c) (c ∷ (cs ++ rest)) _ h

sign_over : (token x y front rest : List ℕ) → is_solid token ≡ true → front ≡ x ++ y → Blanks x → y ≡ token → drop_blanks (front ++ rest) ≡ token ++ rest
sign_over token x y front rest solid e blanks is =
    ap (λ f. drop_blanks (f ++ rest)) (e ∙ ap (λ t. x ++ t) is)
    ∙ ap drop_blanks (append_assoc x token rest)
    ∙ blanks_over x (token ++ rest) blanks (solid_stays token rest solid)

pub sign_takes : (token : List ℕ) → is_solid token ≡ true → Takes (Token token) (λ s. token_at token s) (λ r. r)
sign_takes token solid = record {
  at = λ front rest (x, y, e, blanks, is).
      ap (behind token) (sign_over token x y front rest solid e blanks is) ∙ behind_over token rest;
}

-- another token is there
pub sign_misses : (a b : List ℕ) → is_solid b ≡ true → is_apart a b ≡ true → Misses (Token b) (λ s. token_at a s)
sign_misses a b solid apart = record {
  at = λ front rest (x, y, e, blanks, is).
      ap (behind a) (sign_over b x y front rest solid e blanks is) ∙ behind_apart a b rest apart;
}

-- ---- a closing token

close_cases : {s rest : List ℕ} (token : List ℕ) (o : Option (List ℕ)) → token_at (codes ",") s ≡ o
    → either o (λ r. token_at token r) (token_at token s) ≡ Some rest → Front (Close token) s rest
close_cases token None there e =
    let f = sign_front token e in record { front = f.front; is = f.is; holds = inl f.holds }
close_cases token (Some r) comma e =
    let f = joined (sign_front (codes ",") comma) (sign_front token e) in record { front = f.front; is = f.is; holds = inr f.holds }

pub close_front : {s rest : List ℕ} (token : List ℕ) → close_at token s ≡ Some rest → Front (Close token) s rest
close_front {s} token e = close_cases token (token_at (codes ",") s) refl e

pub close_takes : (token : List ℕ) → is_solid token ≡ true → is_apart (codes ",") token ≡ true → Takes (Close token) (λ s. close_at token s) (λ r. r)
close_takes token solid apart = record {
  at = λ front rest closes.
      elim closes [
        | inl alone ↦ (there (λ r. token_at token r) (λ s. token_at token s) (sign_misses (codes ",") token solid apart) (sign_takes token solid)).at front rest alone
        | inr behind_comma ↦ (here (λ r. token_at token r) (λ s. token_at token s) (sign_takes (codes ",") refl) (sign_takes token solid)).at front rest behind_comma
      ];
}
