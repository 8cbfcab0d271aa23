-- The candidate domains: which they are, that they differ, and how many there are.
use Rattle.std.proofs.Common.{◌≡◌, ℕ, ◌+◌, ◌<◌, ◌≤◌, Bool, true, false, ◌||◌, List, [], ◌∷◌, ◌++◌, length, refl, sym, ◌∙◌, ap, subst, inl, inr, eqb, bytes_eq, arith, cond}
use Rattle.std.specs.Prelude.{count_by}
use Rattle.std.specs.Bool.{Decides}
use Rattle.std.specs.List.{list_any}
use Rattle.std.proofs.lemmas.Bool.{or_cases, or_left, or_right, cond_both}
use Rattle.std.proofs.lemmas.Bool.Decides.{nat_tests}
use Rattle.std.proofs.lemmas.Slice.Eq.{bytes_eq-Decides}
use Rattle.std.proofs.lemmas.List.Sums.{sum_by-cons}
use Rattle.cookie_laws.specs.Related.{after_dots}
use Rattle.cookie_laws.specs.Rows.{differ}
use Rattle.cookie_lookup.specs.Candidates.{IsCandidateDomain, candidate_domains, dots}
use Rattle.cookie_lookup.proofs.CandidateCuts.{bool_cases}

-- a longer string is another
pub longer : (s t : List ℕ) → length s < length t → bytes_eq t s ≡ false
longer s t h = elim (bool_cases (bytes_eq t s)) [
  | inl e ↦ let same : t ≡ s = (bytes_eq-Decides t s).0 e in let m : length t ≡ length s = ap length same in absurd (omega arith)
  | inr e ↦ e
]

-- what follows a dot is shorter
dots_shorter : (bs t : List ℕ) → length bs ≤ length t → list_any (bytes_eq t) (after_dots bs) ≡ false
dots_shorter [] t h = refl
dots_shorter (b ∷ bs) t h = grind (arith, nat_tests, longer bs t (omega arith), dots_shorter bs t (omega arith))

dots_differ : (bs : List ℕ) → differ bytes_eq (after_dots bs) ≡ true
dots_differ [] = refl
dots_differ (b ∷ bs) = grind (arith, nat_tests, dots_differ bs, dots_shorter bs bs (omega arith))

-- so the candidates differ
pub related_differ : (host : List ℕ) → differ bytes_eq (candidate_domains host) ≡ true
related_differ host = grind (arith, nat_tests, dots_differ host, dots_shorter host host (omega arith))

pub count_cons : (p : ℕ → Bool) (b : ℕ) (bs : List ℕ) → count_by p (b ∷ bs) ≡ cond (p b) 1 0 + count_by p bs
count_cons p b bs = sum_by-cons (λ x. cond (p x) 1 0) b bs

pub length_dots : (bs : List ℕ) → length (after_dots bs) ≡ dots bs
length_dots [] = refl
length_dots (b ∷ bs) = grind (arith, nat_tests, length_dots bs, count_cons (λ x. eqb x 46) b bs)

-- there is one more than there are dots
pub length_related : (host : List ℕ) → length (candidate_domains host) ≡ 1 + dots host
length_related host = grind (arith, length_dots host)

-- what follows a dot of a string is among `after_dots` of it
after_dots-has : (domain prefix : List ℕ) → list_any (bytes_eq domain) (after_dots (prefix ++ 46 ∷ domain)) ≡ true
after_dots-has domain [] = or_left _ _ ((bytes_eq-Decides domain domain).1 refl)
after_dots-has domain (b ∷ prefix) =
    let rest = prefix ++ 46 ∷ domain in
    cond_both (eqb b 46) (rest ∷ after_dots rest) (after_dots rest) (λ texts. list_any (bytes_eq domain) texts ≡ true)
    (λ _. or_right _ _ (after_dots-has domain prefix))
    (λ _. after_dots-has domain prefix)

-- and what is among them follows one
after_dots_are : (text host : List ℕ) → list_any (bytes_eq text) (after_dots host) ≡ true → (prefix : List ℕ) × (host ≡ prefix ++ 46 ∷ text)
after_dots_are text [] h = absurd (cc)
after_dots_are text (b ∷ bs) h = elim (bool_cases (eqb b 46)) [
  | inl e ↦
      let dot : b ≡ 46 = grind (arith, nat_tests, e) in
      let h' : (bytes_eq text bs || list_any (bytes_eq text) (after_dots bs)) ≡ true = rw e at h in
      elim (or_cases (bytes_eq text bs) (list_any (bytes_eq text) (after_dots bs)) h') [
        | inl s ↦ ([], ap (λ c. c ∷ bs) dot ∙ ap (λ t. 46 ∷ t) (sym ((bytes_eq-Decides text bs).0 s)))
        | inr l ↦ let w = after_dots_are text bs l in (b ∷ w.0, ap (λ t. b ∷ t) w.1)
      ]
  | inr e ↦
      let h' = rw e at h in
      let w = after_dots_are text bs h' in (b ∷ w.0, ap (λ t. b ∷ t) w.1)
]

-- the candidates are those of the definition
pub related_texts_are : (host text : List ℕ) → Decides (list_any (bytes_eq text) (candidate_domains host)) (IsCandidateDomain host text)
related_texts_are host text = (there host text, back host text)
  where
    there : (host text : List ℕ) → list_any (bytes_eq text) (candidate_domains host) ≡ true → IsCandidateDomain host text
    there host text h = elim (or_cases (bytes_eq text host) (list_any (bytes_eq text) (after_dots host)) h) [
      | inl s ↦ inl ((bytes_eq-Decides text host).0 s)
      | inr l ↦ inr (after_dots_are text host l)
    ]

    back : (host text : List ℕ) → IsCandidateDomain host text → list_any (bytes_eq text) (candidate_domains host) ≡ true
    back host text w = elim w [
      | inl s ↦ or_left (bytes_eq text host) (list_any (bytes_eq text) (after_dots host)) ((bytes_eq-Decides text host).1 s)
      | inr l ↦ or_right (bytes_eq text host) (list_any (bytes_eq text) (after_dots host)) (subst (λ h. list_any (bytes_eq text) (after_dots h) ≡ true) (sym l.1) (after_dots-has text l.0))
    ]
