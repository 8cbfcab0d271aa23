-- The cookies of a list, and the list, as the grammar has them.
use Rattle.std.proofs.Common.{◌≡◌, ℕ, zero, suc, ◌<◌, ◌≤◌, List, [], ◌∷◌, ◌++◌, length, Option, Some, None, option_and_then, codes, length-append, inl, inr, refl, sym, ap, subst, ◌∙◌, arith}
use Rattle.std.proofs.lemmas.Option.{option_and_then_some, same_Some}
use Rattle.std.proofs.lemmas.List.{append_assoc, append-nil}
use Rattle.cookie_forms.specs.Saved.{Parts}
use Rattle.cookie_ron.specs.Grammar.{Token, Close, Cookie, Cookies, IsList}
use Rattle.cookie_ron.specs.RonInput.{drop_blanks, token_at, either, onto, behind_cookie, cookie_at, cookies_at, if_empty, list_at}
use Rattle.cookie_ron.proofs.Onto.{onto_both}
use Rattle.cookie_ron.proofs.Fronts.{Front, joined, front_of, front_shorter, front_no_longer}
use Rattle.cookie_ron.proofs.SignFronts.{blanks_front, blanks_over, sign_front, sign_takes, sign_misses}
use Rattle.cookie_ron.proofs.CharFronts.{map_some}
use Rattle.cookie_ron.proofs.FieldFronts.{either_cases, cookie_front, cookie_takes, cookie_misses}

-- a token is not empty
sign_fits : (c : ℕ) (s : List ℕ) → Token (c ∷ []) s → 0 < length s
sign_fits c s (x, y, e, blanks, is) = omega (arith, ap length e, length-append x y, ap length is)

sign_shorter : (c : ℕ) (s rest : List ℕ) → token_at (c ∷ []) s ≡ Some rest → length rest < length s
sign_shorter c s rest e = let f = sign_front {s = s} {rest = rest} (c ∷ []) e in front_shorter f (sign_fits c f.front f.holds)

cookie_no_longer : (s rest : List ℕ) (p : Parts (List ℕ)) → cookie_at s ≡ Some (p, rest) → length rest ≤ length s
cookie_no_longer s rest p e = front_no_longer (cookie_front {s = s} {rest = rest} {p = p} e)

-- the rest after a cookie and a comma is shorter
pub turn_shorter : (s r t : List ℕ) (p : Parts (List ℕ)) → cookie_at s ≡ Some (p, r) → token_at (codes ",") r ≡ Some t → length t < length s
turn_shorter s r t p cookie_is comma_is = omega (arith, sign_shorter 44 r t comma_is, cookie_no_longer s r p cookie_is)

-- ---- the bound on the characters left is large enough

abbrev Read : Type 0
Read = Option (List (Parts (List ℕ)) × List ℕ)

same_either : (f g : List ℕ → Read) (o : Option (List ℕ)) (other : Read) → ((t : List ℕ) → o ≡ Some t → f t ≡ g t) → either o f other ≡ either o g other
same_either f g None other same = refl
same_either f g (Some t) other same = same t refl

same_cookies : (f g : List ℕ → Read) (s : List ℕ) (o : Option (Parts (List ℕ) × List ℕ)) → cookie_at s ≡ o
    → ((t : List ℕ) → length t < length s → f t ≡ g t)
    → option_and_then (λ first. onto (first.0 ∷ []) (behind_cookie f first.1)) o
    ≡ option_and_then (λ first. onto (first.0 ∷ []) (behind_cookie g first.1)) o
same_cookies f g s None e same = refl
same_cookies f g s (Some (p, r)) e same =
    ap (onto (p ∷ []))
    (same_either f g (token_at (codes ",") r) _ (λ t comma_is. same t (turn_shorter s r t p e comma_is)))

cookies_fuel : (n m : ℕ) (s : List ℕ) → length s < n → length s < m → cookies_at n s ≡ cookies_at m s
cookies_fuel zero m s below above = absurd (omega (arith, below))
cookies_fuel (suc n) zero s below above = absurd (omega (arith, above))
cookies_fuel (suc n) (suc m) s below above =
    ap (either (token_at (codes "]") s) (λ rest. Some ([], rest)))
    (same_cookies (λ t. cookies_at n t) (λ t. cookies_at m t) s (cookie_at s) refl
    (λ t shorter. cookies_fuel n m t (omega (arith, shorter, below)) (omega (arith, shorter, above))))

-- what is read from a cookie, a comma and what follows
one_more : (s r t : List ℕ) (p : Parts (List ℕ)) (more : List ℕ → Read) → token_at (codes "]") s ≡ None → cookie_at s ≡ Some (p, r) → token_at (codes ",") r ≡ Some t
    → either (token_at (codes "]") s) (λ rest. Some ([], rest)) (option_and_then (λ first. onto (first.0 ∷ []) (behind_cookie more first.1)) (cookie_at s))
    ≡ onto (p ∷ []) (more t)
one_more s r t p more no_bracket cookie_is comma_is = rw (no_bracket, cookie_is, comma_is) refl

-- one more cookie has been read
pub cookies_turn : (front entries : List (Parts (List ℕ))) (s r t : List ℕ) (p : Parts (List ℕ))
    → token_at (codes "]") s ≡ None → cookie_at s ≡ Some (p, r) → token_at (codes ",") r ≡ Some t → entries ≡ front ++ p ∷ []
    → onto front (cookies_at (suc (length s)) s) ≡ onto entries (cookies_at (suc (length t)) t)
cookies_turn front entries s r t p no_bracket cookie_is comma_is is =
    ap (onto front) (one_more s r t p (λ rest. cookies_at (length s) rest) no_bracket cookie_is comma_is)
    ∙ ap (λ o. onto front (onto (p ∷ []) o)) (cookies_fuel (length s) (suc (length t)) t (turn_shorter s r t p cookie_is comma_is) (omega arith))
    ∙ onto_both front (p ∷ []) (cookies_at (suc (length t)) t)
    ∙ ap (λ es. onto es (cookies_at (suc (length t)) t)) (sym is)

with_one : (front : List (Parts (List ℕ))) (p : Parts (List ℕ)) (o : Read) (rest : List ℕ) → onto front (onto (p ∷ []) o) ≡ Some ([], rest) → ⊥
with_one front p None rest e = cc
with_one [] p (Some read) rest e = let none : p ∷ read.0 ≡ [] = ap (λ q. q.0) (same_Some _ _ e) in cc
with_one (q ∷ front) p (Some read) rest e = let none : q ∷ (front ++ p ∷ read.0) ≡ [] = ap (λ q. q.0) (same_Some _ _ e) in cc

-- without a closing bracket, the list is not empty
pub some_cookie : (front : List (Parts (List ℕ))) (closing : Option (List ℕ)) (first : Option (Parts (List ℕ) × List ℕ))
    (more : Parts (List ℕ) × List ℕ → Read) (rest : List ℕ) → closing ≡ None
    → onto front (either closing (λ t. Some ([], t)) (option_and_then (λ p. onto (p.0 ∷ []) (more p)) first)) ≡ Some ([], rest) → ⊥
some_cookie front (Some t) first more rest none e = cc
some_cookie front None None more rest none e = cc
some_cookie front None (Some p) more rest none e = with_one front p.0 (more p) rest e

-- ---- cookies

more_front : {s r t rest : List ℕ} (p : Parts (List ℕ)) (ps : List (Parts (List ℕ))) → Front (Cookie p) s r → Front (Token (codes ",")) r t → Front (Cookies ps) t rest
    → Front (Cookies (p ∷ ps)) s rest
more_front p [] first comma more =
    let closing : Front (Close (codes "]")) _ _ = front_of (λ x h. inr h) (joined comma more) in joined first closing
more_front p (q ∷ ps) first comma more = joined first (joined comma more)

cookies_front : (n : ℕ) (s rest : List ℕ) (ps : List (Parts (List ℕ))) → cookies_at n s ≡ Some (ps, rest) → Front (Cookies ps) s rest
cookies_front zero s rest ps e = cc
cookies_front (suc n) s rest ps e =
    either_cases (token_at (codes "]") s) _ _ (ps, rest) e
    (λ t is e1. subst (λ q. Front (Cookies q.0) s q.1) (same_Some ([], t) (ps, rest) e1) (sign_front (codes "]") is)) (λ e1.
    option_and_then_some _ (cookie_at s) (ps, rest) e1 (λ first cookie_is e2.
    let h = map_some (λ read. (first.0 ∷ read.0, read.1)) (behind_cookie (λ t. cookies_at n t) first.1) (ps, rest) e2 in
    subst (λ q. Front (Cookies q.0) s q.1) h.2
    (either_cases (token_at (codes ",") first.1) _ _ h.0 h.1
    (λ t comma_is e3. more_front first.0 h.0.0 (cookie_front cookie_is) (sign_front (codes ",") comma_is) (cookies_front n t h.0.1 h.0.0 e3))
    (λ e3.
    let end = map_some (λ t. ([], t)) (token_at (codes "]") first.1) h.0 e3 in
    subst (λ q. Front (Cookies (first.0 ∷ q.0)) s q.1) end.2
    (joined (cookie_front cookie_is) (front_of (λ x h. inl h) (sign_front (codes "]") end.1)))))))

-- a cookie and the closing bracket, without a comma
alone_over : (p : Parts (List ℕ)) (n : ℕ) (x y rest : List ℕ) → Cookie p x → Token (codes "]") y
    → cookies_at (suc n) (x ++ (y ++ rest)) ≡ Some (p ∷ [], rest)
alone_over p n x y rest cookie bracket =
    rw (
      (cookie_misses p).at x (y ++ rest) cookie,
      (cookie_takes p).at x (y ++ rest) cookie,
      (sign_misses (codes ",") (codes "]") refl refl).at y rest bracket,
      (sign_takes (codes "]") refl).at y rest bracket,
    ) refl

-- a cookie, a comma and what follows
comma_over : (p : Parts (List ℕ)) (ps : List (Parts (List ℕ))) (n : ℕ) (x y behind rest : List ℕ) → Cookie p x → Token (codes ",") y
    → cookies_at n behind ≡ Some (ps, rest) → cookies_at (suc n) (x ++ (y ++ behind)) ≡ Some (p ∷ ps, rest)
comma_over p ps n x y behind rest cookie comma more =
    one_more (x ++ (y ++ behind)) (y ++ behind) behind p (λ t. cookies_at n t)
    ((cookie_misses p).at x (y ++ behind) cookie) ((cookie_takes p).at x (y ++ behind) cookie) ((sign_takes (codes ",") refl).at y behind comma)
    ∙ ap (onto (p ∷ [])) more

-- three parts before the rest
three : (x y z front tail rest : List ℕ) → front ≡ x ++ tail → tail ≡ y ++ z → front ++ rest ≡ x ++ (y ++ (z ++ rest))
three x y z front tail rest e e' =
    ap (λ f. f ++ rest) e ∙ append_assoc x tail rest ∙ ap (λ t. x ++ (t ++ rest)) e' ∙ ap (λ t. x ++ t) (append_assoc y z rest)

fewer : (x y z whole : List ℕ) (n : ℕ) → whole ≡ x ++ (y ++ z) → 0 < length y → length whole < suc n → length z < n
fewer x y z whole n e one few = omega (arith, few, one, ap length e, length-append x (y ++ z), length-append y z)

cookies_over : (ps : List (Parts (List ℕ))) (n : ℕ) (front rest : List ℕ) → Cookies ps front → length (front ++ rest) < n
    → cookies_at n (front ++ rest) ≡ Some (ps, rest)
cookies_over ps zero front rest h few = absurd (omega (arith, few))
cookies_over [] (suc n) front rest h few = rw ((sign_takes (codes "]") refl).at front rest h) refl
cookies_over (p ∷ []) (suc n) front rest (x, tail, e, cookie, closing) few =
    elim closing [
      | inl bracket ↦
          ap (λ s. cookies_at (suc n) s) (ap (λ f. f ++ rest) e ∙ append_assoc x tail rest) ∙ alone_over p n x tail rest cookie bracket
      | inr (y, z, e', comma, bracket) ↦
          let same = three x y z front tail rest e e' in
          ap (λ s. cookies_at (suc n) s) same
          ∙ comma_over p [] n x y (z ++ rest) rest cookie comma
          (cookies_over [] n z rest bracket (fewer x y (z ++ rest) (front ++ rest) n same (sign_fits 44 y comma) few))
    ]
cookies_over (p ∷ q ∷ ps) (suc n) front rest (x, tail, e, cookie, (y, z, e', comma, more)) few =
    let same = three x y z front tail rest e e' in
    ap (λ s. cookies_at (suc n) s) same
    ∙ comma_over p (q ∷ ps) n x y (z ++ rest) rest cookie comma
    (cookies_over (q ∷ ps) n z rest more (fewer x y (z ++ rest) (front ++ rest) n same (sign_fits 44 y comma) few))

-- ---- a list

all_read : {A : Type 0} (a b : A) (left : List ℕ) → if_empty a left ≡ Some b → (a ≡ b) × (left ≡ [])
all_read a b [] e = (same_Some a b e, refl)
all_read a b (c ∷ cs) e = cc

pub list_front : (s : List ℕ) (ps : List (Parts (List ℕ))) → list_at s ≡ Some ps → IsList ps s
unfolding list_at
list_front s ps e =
    option_and_then_some _ (token_at (codes "[") s) ps e (λ cookies open_is e1.
    option_and_then_some _ (cookies_at (suc (length cookies)) cookies) ps e1 (λ read cookies_are e2.
    let end = all_read read.0 ps (drop_blanks read.1) e2 in
    let blanks = blanks_front read.1 in
    let inside = cookies_front (suc (length cookies)) cookies read.1 read.0 cookies_are in
    let opening = sign_front {s = s} (codes "[") open_is in
    let left : read.1 ≡ blanks.front = blanks.is ∙ ap (λ t. blanks.front ++ t) end.1 ∙ append-nil blanks.front in (
      opening.front,
      cookies,
      opening.is,
      opening.holds,
      (inside.front, blanks.front, inside.is ∙ ap (λ t. inside.front ++ t) left, subst (λ qs. Cookies qs inside.front) end.0 inside.holds, blanks.holds),
    )))

pub list_read : (s : List ℕ) (ps : List (Parts (List ℕ))) → IsList ps s → list_at s ≡ Some ps
unfolding list_at
list_read s ps (x, y, e, opening, (x', y', e', inside, blanks)) =
    let bracket : token_at (codes "[") s ≡ Some y = ap (λ t. token_at (codes "[") t) e ∙ (sign_takes (codes "[") refl).at x y opening in
    let cookies : cookies_at (suc (length y)) y ≡ Some (ps, y') =
    ap (λ t. cookies_at (suc (length t)) t) e' ∙ cookies_over ps (suc (length (x' ++ y'))) x' y' inside (omega arith) in
    let nothing : drop_blanks y' ≡ [] = ap drop_blanks (sym (append-nil y')) ∙ blanks_over y' [] blanks refl in
    rw (bracket, cookies, nothing) refl

-- an input is the RON of at most one list
pub one_list : (ps qs : List (Parts (List ℕ))) (s : List ℕ) → IsList ps s → IsList qs s → ps ≡ qs
one_list ps qs s p q = same_Some ps qs (sym (list_read s ps p) ∙ list_read s qs q)
