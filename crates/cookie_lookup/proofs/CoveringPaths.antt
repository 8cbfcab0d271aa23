-- The candidate paths are those of the definition, and a path that path-matches is among them.
use Rattle.std.proofs.Common.{◌≡◌, ℕ, zero, suc, ◌+◌, ◌-◌, ◌<◌, ◌⊎◌, Bool, true, false, ◌&&◌, ◌||◌, List, [], ◌∷◌, ◌++◌, length, take, drop, get_or, refl, sym, ◌∙◌, ap, subst, inl, inr, eqb, bytes_eq, arith, length-append, append_assoc, append-nil}
use Rattle.std.specs.Prelude.{nat_eq, nat_le}
use Rattle.std.specs.Str.{IsUtf8, IsCharBoundary}
use Rattle.std.specs.Bool.{Decides}
use Rattle.std.specs.List.{list_any, starts_with}
use Rattle.std.proofs.Math.ListN.{get_or-append}
use Rattle.std.proofs.Math.Seq.{get_or-append_seam, take-length}
use Rattle.std.proofs.lemmas.Bool.{or_cases, or_left, or_right}
use Rattle.std.proofs.lemmas.Bool.Decides.{nat_tests, Decides-eqb}
use Rattle.std.proofs.lemmas.Slice.Eq.{bytes_eq-Decides, starts_is}
use Rattle.cookie_parts.specs.Path.{CoversPath}
use Rattle.cookie_lookup.specs.Candidates.{ends_candidate, front_texts, is_candidate_path, candidate_paths, IsCandidatePath, IsCandidateDomain}
use Rattle.cookie_lookup.proofs.CandidateCuts.{bool_cases, cut_boundary}
use Rattle.cookie_lookup.proofs.CandidatePaths.{any_append}

any_single : {X : Type 0} (p : X → Bool) (x : X) → p x ≡ true → list_any p (x ∷ []) ≡ true
any_single p x h = grind (arith, nat_tests, h)

among_fronts : (r : List ℕ) (at m : ℕ) → at < m → ends_candidate r at ≡ true → list_any (bytes_eq (take (suc at) r)) (front_texts r m) ≡ true
among_fronts r at zero h e = absurd (omega arith)
among_fronts r at (suc m) h e = elim (bool_cases (eqb at m)) [
  | inl s ↦ let same : at ≡ m = grind (arith, nat_tests, s) in
      let e' : ends_candidate r m ≡ true = subst (λ n. ends_candidate r n ≡ true) same e in
      let it : bytes_eq (take (suc at) r) (take (suc m) r) ≡ true = (bytes_eq-Decides (take (suc at) r) (take (suc m) r)).1 (ap (λ n. take (suc n) r) same) in
      rw (e', any_append (bytes_eq (take (suc at) r)) (front_texts r m) (take (suc m) r ∷ [])) (or_right _ _ (any_single (bytes_eq (take (suc at) r)) (take (suc m) r) it))
  | inr s ↦ let less : at < m = grind (arith, nat_tests, s) in
      rw any_append (or_left _ _ (among_fronts r at m less e))
]

ends_there : (p r rest : List ℕ) (at : ℕ) → length p ≡ suc at → r ≡ p ++ rest
    → (rest ≡ []) ⊎ (((prefix : List ℕ) × (p ≡ prefix ++ 47 ∷ [])) ⊎ ((more : List ℕ) × (rest ≡ 47 ∷ more))) → ends_candidate r at ≡ true
ends_there p r rest at l split o = elim o [
  | inl e ↦ let long : length r ≡ length p + length rest = ap length split ∙ length-append p rest in
      let none : length rest ≡ 0 = ap length e in
      let m : eqb (at + 1) (length r) ≡ true = grind (arith, nat_tests, long, none, l) in rw m refl
  | inr o ↦ elim o [
    | inl f ↦
        let long : length p ≡ length f.0 + 1 = ap length f.1 ∙ length-append f.0 (47 ∷ []) in
        let here : get_or r at 0 ≡ 47 = ap (λ t. get_or t at 0) split ∙ get_or-append p rest 0 at (omega arith) ∙ ap (λ t. get_or t at 0) f.1 ∙ ap (λ n. get_or (f.0 ++ 47 ∷ []) n 0) (omega (arith, long, l)) ∙ get_or-append_seam f.0 47 [] 0 in
        let m : eqb (get_or r at 0) 47 ≡ true = grind (arith, nat_tests, here) in
        grind (arith, nat_tests, m)
    | inr g ↦
        let next : get_or r (at + 1) 0 ≡ 47 = ap (λ t. get_or t (at + 1) 0) (split ∙ ap (λ t. p ++ t) g.1) ∙ ap (λ n. get_or (p ++ 47 ∷ g.0) n 0) (omega (arith, l)) ∙ get_or-append_seam p 47 g.0 0 in
        let m : eqb (get_or r (at + 1) 0) 47 ≡ true = grind (arith, nat_tests, next) in
        grind (arith, nat_tests, m)
  ]
]

take_front : (p rest : List ℕ) → take (length p) (p ++ rest) ≡ p
take_front [] rest = refl
take_front (b ∷ p) rest = ap (λ t. b ∷ t) (take_front p rest)

-- a path that path-matches is a candidate
pub covering_among : (p r : List ℕ) → CoversPath p r → starts_with eqb p (47 ∷ []) ≡ true → list_any (bytes_eq p) (candidate_paths r) ≡ true
covering_among [] r o s = absurd (cc)
covering_among (b ∷ p) r o s =
    let begins : starts_with eqb r (47 ∷ []) ≡ true = subst (λ t. starts_with eqb t (47 ∷ []) ≡ true) (sym o.1) (grind (arith, nat_tests, s)) in
    let ends = ends_there (b ∷ p) r o.0 (length p) refl o.1 o.2 in
    let there : length p < length r = omega (arith, ap length o.1, length-append (b ∷ p) o.0) in
    let it : take (suc (length p)) r ≡ b ∷ p = ap (take (suc (length p))) o.1 ∙ take_front (b ∷ p) o.0 in
    rw begins (subst (λ t. list_any (bytes_eq t) (front_texts r (length r)) ≡ true) it (among_fronts r (length p) (length r) there ends))

split_at : (r : List ℕ) (i : ℕ) → i < length r → r ≡ take i r ++ get_or r i 0 ∷ drop (suc i) r
split_at [] i h = absurd (omega arith)
split_at (b ∷ r) zero h = refl
split_at (b ∷ r) (suc i) h = ap (λ t. b ∷ t) (split_at r i (omega arith))

pub take_next : (r : List ℕ) (i : ℕ) → i < length r → take (suc i) r ≡ take i r ++ get_or r i 0 ∷ []
take_next [] i h = absurd (omega arith)
take_next (b ∷ r) zero h = refl
take_next (b ∷ r) (suc i) h = ap (λ t. b ∷ t) (take_next r i (omega arith))

front_of : (r text : List ℕ) (m : ℕ) → list_any (bytes_eq text) (front_texts r m) ≡ true → (at : ℕ) × (at < m) × (ends_candidate r at ≡ true) × (text ≡ take (suc at) r)
front_of r text zero h = absurd (cc)
front_of r text (suc m) h = elim (bool_cases (ends_candidate r m)) [
  | inl e ↦
      let h' : list_any (bytes_eq text) (front_texts r m ++ take (suc m) r ∷ []) ≡ true = rw e at h in
      elim (or_cases (list_any (bytes_eq text) (front_texts r m)) (list_any (bytes_eq text) (take (suc m) r ∷ [])) (sym (any_append (bytes_eq text) (front_texts r m) (take (suc m) r ∷ [])) ∙ h')) [
        | inl l ↦ let w = front_of r text m l in (w.0, omega (arith, w.1), w.2, w.3)
        | inr s ↦ (m, omega arith, e, (bytes_eq-Decides text (take (suc m) r)).0 (grind (arith, nat_tests, s)))
      ]
  | inr e ↦
      let h' : list_any (bytes_eq text) (front_texts r m ++ []) ≡ true = rw e at h in
      let w = front_of r text m (ap (list_any (bytes_eq text)) (sym (append-nil (front_texts r m))) ∙ h') in (w.0, omega (arith, w.1), w.2, w.3)
]

-- a prefix that ends at a slash, before one, or with the path
front_is : (r : List ℕ) (at : ℕ) → at < length r → ends_candidate r at ≡ true
    → (take (suc at) r ≡ r) ⊎ ((prefix : List ℕ) × (rest : List ℕ) × (r ≡ prefix ++ 47 ∷ rest) × ((take (suc at) r ≡ prefix) ⊎ (take (suc at) r ≡ prefix ++ 47 ∷ [])))
front_is r at l e = elim (or_cases (eqb (at + 1) (length r) || eqb (get_or r at 0) 47) (eqb (get_or r (at + 1) 0) 47) e) [
  | inl o ↦ elim (or_cases (eqb (at + 1) (length r)) (eqb (get_or r at 0) 47) o) [
    | inl w ↦ let whole : suc at ≡ length r = grind (arith, nat_tests, w) in inl (ap (λ n. take n r) whole ∙ take-length r)
    | inr s ↦
        let slash : get_or r at 0 ≡ 47 = grind (arith, nat_tests, s) in
        inr (take at r, drop (suc at) r, split_at r at l ∙ ap (λ b. take at r ++ b ∷ drop (suc at) r) slash, inr (take_next r at l ∙ ap (λ b. take at r ++ b ∷ []) slash))
  ]
  | inr s ↦
      let step : at + 1 ≡ suc at = omega arith in
      let slash : get_or r (suc at) 0 ≡ 47 = ap (λ n. get_or r n 0) (sym step) ∙ grind (arith, nat_tests, s) in
      elim (bool_cases (eqb (at + 1) (length r))) [
        | inl w ↦ let whole : suc at ≡ length r = grind (arith, nat_tests, w) in inl (ap (λ n. take n r) whole ∙ take-length r)
        | inr n ↦
            let more : suc at < length r = grind (arith, nat_tests, n, l) in
            inr (take (suc at) r, drop (suc (suc at)) r, split_at r (suc at) more ∙ ap (λ b. take (suc at) r ++ b ∷ drop (suc (suc at)) r) slash, inl refl)
      ]
]

-- the fronts of a path that begins with a slash do so too
front_begins : (r : List ℕ) (at : ℕ) → starts_with nat_eq r (47 ∷ []) ≡ true → starts_with nat_eq (take (suc at) r) (47 ∷ []) ≡ true
front_begins [] at h = absurd (cc)
front_begins (b ∷ r) at h = grind (arith, nat_tests, h)

-- a candidate path begins with a slash and covers the path
pub covers_it : (path text : List ℕ) → IsCandidatePath path text → CoversPath text path
covers_it path text w = elim w.1 [
  | inl s ↦ ([], sym s ∙ sym (append-nil text), inl refl)
  | inr f ↦ elim f.3 [
    | inl s ↦ (47 ∷ f.1, f.2 ∙ ap (λ t. t ++ 47 ∷ f.1) (sym s), inr (inr (f.1, refl)))
    | inr s ↦ (f.1, f.2 ∙ sym (append_assoc f.0 (47 ∷ []) f.1) ∙ ap (λ t. t ++ f.1) (sym s), inr (inl (f.0, s)))
  ]
]

-- the candidates are those of the definition
pub path_texts_are : (path text : List ℕ) → Decides (list_any (bytes_eq text) (candidate_paths path)) (IsCandidatePath path text)
path_texts_are path text = (there path text, λ w. covering_among text path (covers_it path text w) w.0)
  where
    there : (path text : List ℕ) → list_any (bytes_eq text) (candidate_paths path) ≡ true → IsCandidatePath path text
    there path text h = elim (bool_cases (starts_with nat_eq path (47 ∷ []))) [
      | inl e ↦
          let h' : list_any (bytes_eq text) (front_texts path (length path)) ≡ true = rw e at h in
          let w = front_of path text (length path) h' in (
            ap (λ t. starts_with nat_eq t (47 ∷ [])) w.3 ∙ front_begins path w.0 e,
            subst (λ t. (t ≡ path) ⊎ ((prefix : List ℕ) × (rest : List ℕ) × (path ≡ prefix ++ 47 ∷ rest) × ((t ≡ prefix) ⊎ (t ≡ prefix ++ 47 ∷ [])))) (sym w.3) (front_is path w.0 w.1 w.2),
          )
      | inr e ↦ let h' = rw e at h in absurd (cc)
    ]

-- a prefix that begins with a slash and ends where `ends_candidate` holds is a candidate
front_among : (b : ℕ) (p r rest : List ℕ) → starts_with nat_eq (b ∷ p) (47 ∷ []) ≡ true → ends_candidate r (length p) ≡ true → r ≡ (b ∷ p) ++ rest → list_any (bytes_eq (b ∷ p)) (candidate_paths r) ≡ true
front_among b p r rest s ends split =
    let begins : starts_with eqb r (47 ∷ []) ≡ true = subst (λ t. starts_with eqb t (47 ∷ []) ≡ true) (sym split) (grind (arith, nat_tests, s)) in
    let there : length p < length r = omega (arith, ap length split, length-append (b ∷ p) rest) in
    let it : take (suc (length p)) r ≡ b ∷ p = ap (take (suc (length p))) split ∙ take_front (b ∷ p) rest in
    rw begins (subst (λ t. list_any (bytes_eq t) (front_texts r (length r)) ≡ true) it (among_fronts r (length p) (length r) there ends))

four_hold : (a b c d : Bool) → a ≡ true → b ≡ true → c ≡ true → d ≡ true → (a && b && c && d) ≡ true
four_hold a b c d p q r s = rw (p, q, r, s) refl

each_holds : (a b c d : Bool) → (a && b && c && d) ≡ true → (a ≡ true) × (b ≡ true) × (c ≡ true) × (d ≡ true)
each_holds false b c d h = absurd (cc)
each_holds true false c d h = absurd (cc)
each_holds true true false d h = absurd (cc)
each_holds true true true false h = absurd (cc)
each_holds true true true true h = (refl, refl, refl, refl)

-- the test decides whether a path is a candidate
pub path_text_is : (path text : List ℕ) → is_candidate_path path text ≡ list_any (bytes_eq text) (candidate_paths path)
path_text_is path text = elim (bool_cases (list_any (bytes_eq text) (candidate_paths path))) [
  | inl e ↦ rw e (holds text ((path_texts_are path text).0 e))
  | inr e ↦ elim (bool_cases (is_candidate_path path text)) [
    | inl t ↦ let among = among text t in absurd (cc)
    | inr t ↦ t ∙ sym e
  ]
]
  where
    holds : (text : List ℕ) → IsCandidatePath path text → is_candidate_path path text ≡ true
    holds [] is = absurd (cc)
    holds (b ∷ p) is =
        let o = covers_it path (b ∷ p) is in
        let last : suc (length p) - 1 ≡ length p = omega arith in
        let ends : ends_candidate path (suc (length p) - 1) ≡ true = ap (ends_candidate path) last ∙ ends_there (b ∷ p) path o.0 (length p) refl o.1 o.2 in
        let there : length p < length path = omega (arith, ap length o.1, length-append (b ∷ p) o.0) in
        four_hold (starts_with nat_eq (b ∷ p) (47 ∷ [])) (nat_le (suc (length p)) (length path)) (ends_candidate path (suc (length p) - 1)) (starts_with nat_eq path (b ∷ p))
        is.0 (grind (arith, nat_tests, there)) ends ((starts_is Decides-eqb path (b ∷ p) (starts_with nat_eq path (b ∷ p)) refl).1 o.0 o.1)

    among : (text : List ℕ) → is_candidate_path path text ≡ true → list_any (bytes_eq text) (candidate_paths path) ≡ true
    among [] t = absurd (cc)
    among (b ∷ p) t =
        let all = each_holds (starts_with nat_eq (b ∷ p) (47 ∷ [])) (nat_le (suc (length p)) (length path)) (ends_candidate path (suc (length p) - 1)) (starts_with nat_eq path (b ∷ p)) t in
        let last : suc (length p) - 1 ≡ length p = omega arith in
        front_among b p path (drop (suc (length p)) path) all.0 (ap (ends_candidate path) (sym last) ∙ all.2) ((starts_is Decides-eqb path (b ∷ p) (starts_with nat_eq path (b ∷ p)) refl).0 all.3)

pub path_text_by : (path text bytes other : List ℕ) → bytes ≡ path → other ≡ text → is_candidate_path bytes other ≡ list_any (bytes_eq text) (candidate_paths path)
path_text_by path text bytes other b o = ap (λ x. is_candidate_path x other) b ∙ ap (is_candidate_path path) o ∙ path_text_is path text

-- it is a prefix of the path, which is cut there
pub front_text : (path text : List ℕ) → list_any (bytes_eq text) (candidate_paths path) ≡ true → take (length text) path ≡ text
front_text path text h =
    let o = covers_it path text ((path_texts_are path text).0 h) in
    ap (take (length text)) o.1 ∙ take_front text o.0

pub front_boundary : (path text : List ℕ) → IsUtf8 path → list_any (bytes_eq text) (candidate_paths path) ≡ true → IsCharBoundary path (length text)
front_boundary path [] u h = let is = (path_texts_are path []).0 h in absurd (cc)
front_boundary path (b ∷ p) u h =
    let o = covers_it path (b ∷ p) ((path_texts_are path (b ∷ p)).0 h) in
    let ends = ends_there (b ∷ p) path o.0 (length p) refl o.1 o.2 in
    let there : length p < length path = omega (arith, ap length o.1, length-append (b ∷ p) o.0) in
    let next : length p + 1 ≡ suc (length p) = omega arith in
    subst (IsCharBoundary path) next (cut_boundary path (length p) u there ends)

-- what follows a dot of a host is related to it
pub behind_dot : (host : List ℕ) (at : ℕ) → at < length host → get_or host at 0 ≡ 46 → IsCandidateDomain host (drop (at + 1) host)
behind_dot host at below dot =
    let next : suc at ≡ at + 1 = omega arith in
    inr (take at host, split_at host at below ∙ ap (λ b. take at host ++ b ∷ drop (suc at) host) dot ∙ ap (λ n. take at host ++ 46 ∷ drop n host) next)
