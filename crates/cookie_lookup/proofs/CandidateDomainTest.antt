-- The test of a candidate domain, and where the host is cut for it.
use Rattle.std.proofs.Common.{◌≡◌, ℕ, suc, ◌+◌, ◌-◌, ◌<◌, ◌⊎◌, Bool, true, false, ◌&&◌, ◌||◌, List, [], ◌∷◌, ◌++◌, length, take, drop, get_or, refl, sym, ◌∙◌, ap, subst, inl, inr, eqb, bytes_eq, arith, lit<, length-append, append_assoc}
use Rattle.std.specs.Prelude.{nat_eq, nat_lt}
use Rattle.std.specs.Str.{IsUtf8, IsCharBoundary}
use Rattle.std.specs.List.{ends_with, list_any}
use Rattle.std.proofs.Math.Seq.{get_or-append_seam}
use Rattle.std.proofs.lemmas.Bool.{and_parts, or_cases}
use Rattle.std.proofs.lemmas.Bool.Decides.{nat_tests, Decides-eqb}
use Rattle.std.proofs.lemmas.Slice.Eq.{ends_is}
use Rattle.cookie_lookup.specs.Candidates.{is_candidate_domain, candidate_domains, IsCandidateDomain}
use Rattle.cookie_lookup.proofs.CoveringPaths.{take_next}
use Rattle.cookie_lookup.proofs.CandidateCuts.{after_byte, bool_cases}
use Rattle.cookie_lookup.proofs.CandidateDomains.{related_texts_are}

one_of : (a b c d : Bool) → (a ≡ true) ⊎ ((b ≡ true) × (c ≡ true)) → d ≡ true → ((a || b && c) && d) ≡ true
one_of a b c d (inl p) q = rw (p, q) refl
one_of true b c d (inr p) q = q
one_of false b c d (inr p) q = rw (p.0, p.1, q) refl

with_dot : (host prefix text : List ℕ) → host ≡ prefix ++ 46 ∷ text → host ≡ (prefix ++ 46 ∷ []) ++ text
with_dot host prefix text e = e ∙ sym (append_assoc prefix (46 ∷ []) text)

ends : (host prefix text : List ℕ) → host ≡ prefix ++ text → ends_with nat_eq host text ≡ true
ends host prefix text e = (ends_is Decides-eqb host text (ends_with nat_eq host text) refl).1 prefix e

holds : (host text : List ℕ) → IsCandidateDomain host text → is_candidate_domain host text ≡ true
holds host text w = elim w [
  | inl same ↦
      let long : length text ≡ length host = ap length same in
      one_of (eqb (length text) (length host)) (nat_lt (length text) (length host)) (eqb (get_or host (length host - length text - 1) 0) 46) (ends_with nat_eq host text)
      (inl (grind (arith, nat_tests, long))) (ends host [] text (sym same))
  | inr f ↦
      let long : length host ≡ length f.0 + suc (length text) = ap length f.1 ∙ length-append f.0 (46 ∷ text) in
      let at : length host - length text - 1 ≡ length f.0 = omega (arith, long) in
      let dot : get_or host (length host - length text - 1) 0 ≡ 46 = ap (λ n. get_or host n 0) at ∙ ap (λ h. get_or h (length f.0) 0) f.1 ∙ get_or-append_seam f.0 46 text 0 in
      one_of (eqb (length text) (length host)) (nat_lt (length text) (length host)) (eqb (get_or host (length host - length text - 1) 0) 46) (ends_with nat_eq host text)
      (inr (grind (arith, nat_tests, long), grind (arith, nat_tests, dot))) (ends host (f.0 ++ 46 ∷ []) text (with_dot host f.0 text f.1))
]

related : (host text : List ℕ) → is_candidate_domain host text ≡ true → IsCandidateDomain host text
related host text t =
    let both : (((eqb (length text) (length host)) || nat_lt (length text) (length host) && eqb (get_or host (length host - length text - 1) 0) 46) ≡ true) × (ends_with nat_eq host text ≡ true) =
    and_parts ((eqb (length text) (length host)) || nat_lt (length text) (length host) && eqb (get_or host (length host - length text - 1) 0) 46) (ends_with nat_eq host text) t in
    let split : host ≡ take (length host - length text) host ++ text = (ends_is Decides-eqb host text (ends_with nat_eq host text) refl).0 both.1 in
    elim (or_cases (eqb (length text) (length host)) (nat_lt (length text) (length host) && eqb (get_or host (length host - length text - 1) 0) 46) both.0) [
      | inl e ↦
          let long : length text ≡ length host = grind (arith, nat_tests, e) in
          let none : length host - length text ≡ 0 = omega (arith, long) in
          inl (sym (split ∙ ap (λ n. take n host ++ text) none))
      | inr e ↦
          let parts : (nat_lt (length text) (length host) ≡ true) × (eqb (get_or host (length host - length text - 1) 0) 46 ≡ true) = and_parts (nat_lt (length text) (length host)) (eqb (get_or host (length host - length text - 1) 0) 46) e in
          let less : length text < length host = grind (arith, nat_tests, parts.0) in
          let dot : get_or host (length host - length text - 1) 0 ≡ 46 = grind (arith, nat_tests, parts.1) in
          let m : ℕ = length host - length text - 1 in
          let next : length host - length text ≡ suc m = omega (arith, less) in
          let prefix : take (length host - length text) host ≡ take m host ++ 46 ∷ [] = ap (λ n. take n host) next ∙ take_next host m (omega (arith, less)) ∙ ap (λ b. take m host ++ b ∷ []) dot in
          inr (take m host, split ∙ ap (λ f. f ++ text) prefix ∙ append_assoc (take m host) (46 ∷ []) text)
    ]

-- the test decides whether a domain is a candidate
pub domain_text_is : (host text : List ℕ) → is_candidate_domain host text ≡ list_any (bytes_eq text) (candidate_domains host)
domain_text_is host text = elim (bool_cases (list_any (bytes_eq text) (candidate_domains host))) [
  | inl e ↦ rw e (holds host text ((related_texts_are host text).0 e))
  | inr e ↦ elim (bool_cases (is_candidate_domain host text)) [
    | inl t ↦ let among = (related_texts_are host text).1 (related host text t) in absurd (cc)
    | inr t ↦ t ∙ sym e
  ]
]

pub domain_text_by : (host text bytes other : List ℕ) → bytes ≡ host → other ≡ text → is_candidate_domain bytes other ≡ list_any (bytes_eq text) (candidate_domains host)
domain_text_by host text bytes other b o = ap (λ x. is_candidate_domain x other) b ∙ ap (is_candidate_domain host) o ∙ domain_text_is host text

drop_front : (p rest : List ℕ) → drop (length p) (p ++ rest) ≡ rest
drop_front [] rest = refl
drop_front (b ∷ p) rest = drop_front p rest

-- the host ends with it
pub suffix_text : (host text : List ℕ) → IsCandidateDomain host text → drop (length host - length text) host ≡ text
suffix_text host text w = elim w [
  | inl same ↦ let none : length host - length text ≡ 0 = omega (arith, ap length same) in ap (λ n. drop n host) none ∙ sym same
  | inr f ↦
      let at : length host - length text ≡ length (f.0 ++ 46 ∷ []) = omega (arith, ap length f.1, length-append f.0 (46 ∷ text), length-append f.0 (46 ∷ [])) in
      ap (λ n. drop n host) at ∙ ap (drop (length (f.0 ++ 46 ∷ []))) (with_dot host f.0 text f.1) ∙ drop_front (f.0 ++ 46 ∷ []) text
]

-- and is cut before it
pub suffix_boundary : (host text : List ℕ) → IsUtf8 host → IsCandidateDomain host text → (0 < length host - length text) → IsCharBoundary host (length host - length text)
suffix_boundary host text u w more = elim w [
  | inl same ↦ absurd (omega (arith, more, ap length same))
  | inr f ↦
      let long : length host ≡ length f.0 + suc (length text) = ap length f.1 ∙ length-append f.0 (46 ∷ text) in
      let at : length f.0 + 1 ≡ length host - length text = omega (arith, long) in
      let dot : get_or host (length f.0) 0 ≡ 46 = ap (λ h. get_or h (length f.0) 0) f.1 ∙ get_or-append_seam f.0 46 text 0 in
      subst (IsCharBoundary host) at (after_byte host (length f.0) 46 u (omega (arith, long)) dot (lit< tt))
]
