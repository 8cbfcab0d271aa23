-- A domain without its trailing dot.
use Rattle.std.proofs.Common.{◌≡◌, ◌≢◌, ℕ, ◌-◌, ◌≤◌, Bool, true, false, nat_eq, List, [], ◌∷◌, ◌++◌, length, take, drop, Option, Some, None, MatchOption, unwrap_or, Bor, refl, sym, ap, ◌∙◌, arith}
use Rattle.std.specs.Prelude.{if◌then◌else◌}
use Rattle.std.specs.Cmp.Lexicographic.{pointwise}
use Rattle.std.proofs.Math.Seq.{take-append_seam, drop-append_seam, drop-length}
use Rattle.std.proofs.lemmas.Bool.{eqb-true, and_parts}
use Rattle.std.proofs.lemmas.List.{append-nil, drop-append-le, length-append, length-take-le, take-append-drop}
use Rattle.cookie_psl.specs.Rules.{without_final_dot}

-- what equals a single dot is a single dot
dot_alone : (xs : List ℕ) → pointwise nat_eq (46 ∷ []) xs ≡ true → xs ≡ 46 ∷ []
dot_alone [] h = cc
dot_alone (b ∷ []) h = ap (λ x. x ∷ []) (sym (eqb-true 46 b (and_parts (nat_eq 46 b) true h).0))
dot_alone (b ∷ c ∷ xs) h = let differs = (and_parts (nat_eq 46 b) false h).1 in cc

-- a trailing dot is removed
pub without_final_dot-behind : (prefix : List ℕ) → without_final_dot (prefix ++ 46 ∷ []) ≡ prefix
without_final_dot-behind prefix =
    let one : length (prefix ++ 46 ∷ []) - 1 ≡ length prefix = omega (arith, length-append prefix (46 ∷ [])) in
    simp (one, drop-append_seam, take-append_seam)

-- if the rest is not a dot, nothing is removed
kept_under : (domain : List ℕ) (n : ℕ) (ends : Bool) → pointwise nat_eq (46 ∷ []) (drop n domain) ≡ ends
    → ((prefix : List ℕ) → domain ≢ prefix ++ 46 ∷ []) → (if ends then take n domain else domain) ≡ domain
kept_under domain n true e other =
    absurd (other (take n domain) (sym (take-append-drop n domain) ∙ ap (λ rest. take n domain ++ rest) (dot_alone (drop n domain) e)))
kept_under domain n false e other = refl

-- a domain without a trailing dot is unchanged
pub without_final_dot-other : (domain : List ℕ) → ((prefix : List ℕ) → domain ≢ prefix ++ 46 ∷ []) → without_final_dot domain ≡ domain
without_final_dot-other domain other = kept_under domain (length domain - 1) _ refl other

-- what `strip_suffix` returns, or else the domain
pub without_final_dot-stripped : (domain : Bor (List ℕ)) (stripped : Option (Bor (List ℕ)))
    → MatchOption stripped ((prefix : List ℕ) → domain.now ≢ prefix ++ 46 ∷ []) (λ prefix. domain.now ≡ prefix.now ++ 46 ∷ [])
    → (unwrap_or stripped domain).now ≡ without_final_dot domain.now
without_final_dot-stripped domain None h = sym (without_final_dot-other domain.now h)
without_final_dot-stripped domain (Some prefix) h = sym (ap without_final_dot h ∙ without_final_dot-behind prefix.now)

-- a prefix and what follows it
joined_under : (domain : List ℕ) (n : ℕ) (ends : Bool) → n ≤ length domain
    → (if ends then take n domain else domain) ++ drop (length (if ends then take n domain else domain)) domain ≡ domain
joined_under domain n true h =
    ap (λ k. take n domain ++ drop k domain) (length-take-le n domain h) ∙ take-append-drop n domain
joined_under domain n false h = ap (λ rest. domain ++ rest) (drop-length domain) ∙ append-nil domain

-- the domain without its trailing dot, and what follows it
pub without_final_dot-joined : (domain : List ℕ) → without_final_dot domain ++ drop (length (without_final_dot domain)) domain ≡ domain
without_final_dot-joined domain = joined_under domain (length domain - 1) _ (omega arith)

-- a suffix of the domain is one of the domain without its trailing dot, and what follows it
pub drop-without_final_dot : (domain : List ℕ) (n : ℕ) → n ≤ length (without_final_dot domain)
    → drop n domain ≡ drop n (without_final_dot domain) ++ drop (length (without_final_dot domain)) domain
drop-without_final_dot domain n h =
    let bare = without_final_dot domain in
    ap (drop n) (sym (without_final_dot-joined domain)) ∙ drop-append-le n bare (drop (length bare) domain) h
