-- Where a host and a path are cut, and the resulting parts.
use Rattle.std.proofs.Common.{◌≡◌, ℕ, suc, ◌+◌, ◌<◌, ◌≤◌, ◌⊎◌, Bool, true, false, ◌||◌, List, [], ◌∷◌, ◌++◌, length, take, drop, get_or, refl, sym, ◌∙◌, ap, subst, inl, inr, eqb, arith, lit<, add-one, append-nil, append_assoc, zero}
use Rattle.std.specs.Prelude.{if◌then◌else◌}
use Rattle.std.specs.Str.{IsUtf8, IsCharBoundary}
use Rattle.std.proofs.lemmas.Str.{IsCharBoundary-after_ascii, IsCharBoundary-end}
use Rattle.std.proofs.lemmas.Bool.Decides.{nat_tests}
use Rattle.std.proofs.lemmas.List.{drop_more}
use Rattle.cookie_laws.specs.Related.{after_dots}
use Rattle.cookie_lookup.specs.Candidates.{ends_candidate, front_texts}

pub bool_cases : (b : Bool) → (b ≡ true) ⊎ (b ≡ false)
bool_cases true = inl refl
bool_cases false = inr refl

-- a string may be cut after an ASCII byte
pub after_byte : (bs : List ℕ) (i b : ℕ) → IsUtf8 bs → i < length bs → get_or bs i 0 ≡ b → b < 128 → IsCharBoundary bs (i + 1)
after_byte bs i b u l e s = IsCharBoundary-after_ascii bs i u l (omega (arith, e, s))

three : (a b c : Bool) → (a || b || c) ≡ true → ((a ≡ true) ⊎ (b ≡ true)) ⊎ (c ≡ true)
three true b c h = inl (inl refl)
three false true c h = inl (inr refl)
three false false c h = inr h

-- a path may be cut where a candidate ends
pub cut_boundary : (bs : List ℕ) (i : ℕ) → IsUtf8 bs → i < length bs → ends_candidate bs i ≡ true → IsCharBoundary bs (i + 1)
cut_boundary bs i u l h = elim (three (eqb (i + 1) (length bs)) (eqb (get_or bs i 0) 47) (eqb (get_or bs (i + 1) 0) 47) h) [
  | inl o ↦ elim o [
    | inl e ↦ let m : length bs ≡ i + 1 = grind (arith, nat_tests, e) in subst (IsCharBoundary bs) m (IsCharBoundary-end bs)
    | inr e ↦ let m : get_or bs i 0 ≡ 47 = grind (arith, nat_tests, e) in after_byte bs i 47 u l m (lit< tt)
  ]
  | inr e ↦ let m : get_or bs (i + 1) 0 ≡ 47 = grind (arith, nat_tests, e) in before_byte bs (i + 1) u (omega arith) m
]
  where
    before_byte : (bs : List ℕ) (j : ℕ) → IsUtf8 bs → j ≤ length bs → get_or bs j 0 ≡ 47 → IsCharBoundary bs j
    before_byte bs j u l e = (l, λ k h. absurd (omega (arith, e, h)))

-- where a candidate ends there is one prefix more
pub front_more : (bs : List ℕ) (i : ℕ) → ends_candidate bs i ≡ true → front_texts bs (i + 1) ≡ front_texts bs i ++ take (i + 1) bs ∷ []
front_more bs i h = rw (add-one, h) refl

pub front_same : (bs : List ℕ) (i : ℕ) → ends_candidate bs i ≡ false → front_texts bs (i + 1) ≡ front_texts bs i
front_same bs i h = rw (add-one, h) (append-nil (front_texts bs i))

-- the candidates of the first bytes are the first candidates
pub front_prefix : (bs : List ℕ) (i m : ℕ) → i ≤ m → (more : List (List ℕ)) × (front_texts bs m ≡ front_texts bs i ++ more)
front_prefix bs i zero h = let same : zero ≡ i = omega (arith, h) in ([], ap (front_texts bs) same ∙ sym (append-nil (front_texts bs i)))
front_prefix bs i (suc m) h = elim (bool_cases (eqb i (suc m))) [
  | inl e ↦ let same : suc m ≡ i = grind (arith, nat_tests, e) in ([], ap (front_texts bs) same ∙ sym (append-nil (front_texts bs i)))
  | inr e ↦
      let less : i ≤ m = grind (arith, nat_tests, e, h) in
      let w = front_prefix bs i m less in
      let next : List (List ℕ) = if ends_candidate bs m then take (suc m) bs ∷ [] else [] in
      (w.0 ++ next, ap (λ ts. ts ++ next) w.1 ∙ append_assoc (front_texts bs i) w.0 next)
]

-- at a dot, the remaining candidates begin with what follows it
pub at_dot : (bs : List ℕ) (i : ℕ) → i < length bs → get_or bs i 0 ≡ 46 → after_dots (drop i bs) ≡ drop (i + 1) bs ∷ after_dots (drop (i + 1) bs)
at_dot bs i l e = ap after_dots (drop_more bs i 0 l) ∙ rw e refl

pub at_no_dot : (bs : List ℕ) (i : ℕ) → i < length bs → eqb (get_or bs i 0) 46 ≡ false → after_dots (drop i bs) ≡ after_dots (drop (i + 1) bs)
at_no_dot bs i l e = ap after_dots (drop_more bs i 0 l) ∙ rw e refl

-- the candidates after a position are the last ones
pub dots_suffix : (bs : List ℕ) (i : ℕ) → (done : List (List ℕ)) × (after_dots bs ≡ done ++ after_dots (drop i bs))
dots_suffix bs zero = ([], refl)
dots_suffix [] (suc i) = ([], refl)
dots_suffix (b ∷ bs) (suc i) =
    let w = dots_suffix bs i in
    elim (bool_cases (eqb b 46)) [
      | inl e ↦ (bs ∷ w.0, rw e (ap (λ ts. bs ∷ ts) w.1))
      | inr e ↦ (w.0, rw e w.1)
    ]
