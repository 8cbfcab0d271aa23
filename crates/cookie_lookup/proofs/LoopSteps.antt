-- The steps of the loops over the candidates of the URL.
use Rattle.std.proofs.Common.{◌≡◌, ℕ, ◌+◌, ◌*◌, ◌<◌, ◌≤◌, true, false, List, [], ◌∷◌, ◌++◌, length, take, drop, get_or, sym, ◌∙◌, ap, eqb, nat_eq, arith, append_assoc, append-nil, length-append}
use Rattle.std.specs.Prelude.{◌≢◌}
use Rattle.std.specs.List.{flat_map, starts_with, sum_by}
use Rattle.std.proofs.lemmas.Grind.{flat_map-append}
use Rattle.std.proofs.lemmas.List.Sums.{sum_by-append}
use Rattle.cookie_laws.specs.Related.{after_dots}
use Rattle.cookie_lookup.specs.SearchView.{RowPosition}
use Rattle.cookie_lookup.specs.Positions.{SamePositions}
use Rattle.cookie_lookup.specs.Candidates.{ends_candidate, front_texts, candidate_paths, candidate_domains, slashes}
use Rattle.cookie_lookup.proofs.CandidateCuts.{at_dot, at_no_dot, dots_suffix, front_more, front_prefix, front_same}
use Rattle.cookie_lookup.proofs.CandidatePaths.{length_paths}
use Rattle.cookie_lookup.proofs.LookupResults.{some_given}

-- the fronts of a path

pub one_front : (r : List ℕ) (at : ℕ) → ends_candidate r at ≡ true → length (front_texts r (at + 1)) ≡ length (front_texts r at) + 1
one_front r at ends = ap length (front_more r at ends) ∙ length-append (front_texts r at) (take (at + 1) r ∷ [])

-- the candidates before, this one, and those after it are all candidates
texts_split : (r : List ℕ) (at : ℕ) → starts_with nat_eq r (47 ∷ []) ≡ true → at < length r → ends_candidate r at ≡ true
    → (more : List (List ℕ)) × (candidate_paths r ≡ front_texts r at ++ take (at + 1) r ∷ more)
texts_split r at begins below ends =
    let w = front_prefix r (at + 1) (length r) (omega (arith, below)) in
    (w.0, rw (candidate_paths, begins) (w.1 ∙ ap (λ ts. ts ++ w.0) (front_more r at ends) ∙ append_assoc (front_texts r at) (take (at + 1) r ∷ []) w.0))

pub fronts_room : (r : List ℕ) (at : ℕ) → starts_with nat_eq r (47 ∷ []) ≡ true → at < length r → ends_candidate r at ≡ true
    → length (front_texts r at) + 1 ≤ 1 + 2 * slashes r
fronts_room r at begins below ends =
    let w = texts_split r at begins below ends in
    omega (arith, ap length w.1, length-append (front_texts r at) (take (at + 1) r ∷ w.0), length_paths r)

pub fronts_most : (r : List ℕ) (at : ℕ) → starts_with nat_eq r (47 ∷ []) ≡ true → at ≡ length r → length (front_texts r at) ≤ 1 + 2 * slashes r
fronts_most r at begins whole =
    let most = length_paths r in
    let most' : length (front_texts r (length r)) ≤ 1 + 2 * slashes r = rw begins at most in
    omega (arith, ap (λ n. length (front_texts r n)) whole, most')

module _ {A : Type 0} (f : List ℕ → List A) (r : List ℕ) (at : ℕ) where
  pub front_pushed : (before positions new : List A) → positions ≡ before ++ flat_map f (front_texts r at) → ends_candidate r at ≡ true → new ≡ positions ++ f (take (at + 1) r)
      → new ≡ before ++ flat_map f (front_texts r (at + 1))
  front_pushed before positions new so_far ends e =
      e ∙ ap (λ s. s ++ f (take (at + 1) r)) so_far ∙ append_assoc before (flat_map f (front_texts r at)) (f (take (at + 1) r))
      ∙ ap (λ s. before ++ s) (sym (ap (flat_map f) (front_more r at ends) ∙ flat_map-append f (front_texts r at) (take (at + 1) r ∷ [])
      ∙ ap (λ s. flat_map f (front_texts r at) ++ s) (append-nil (f (take (at + 1) r)))))

  pub front_kept : (before positions new : List A) → positions ≡ before ++ flat_map f (front_texts r at) → ends_candidate r at ≡ false → new ≡ positions
      → new ≡ before ++ flat_map f (front_texts r (at + 1))
  front_kept before positions new so_far ends e = e ∙ so_far ∙ ap (λ ts. before ++ flat_map f ts) (sym (front_same r at ends))

  pub front_gives : starts_with nat_eq r (47 ∷ []) ≡ true → at < length r → ends_candidate r at ≡ true → f (take (at + 1) r) ≢ [] → flat_map f (candidate_paths r) ≢ []
  front_gives begins below ends some none =
      let w = texts_split r at begins below ends in
      some_given f (front_texts r at) (take (at + 1) r) w.0 some (ap (flat_map f) (sym w.1) ∙ none)

-- what follows the dots of a host

module _ (f : List ℕ → List RowPosition) (h : List ℕ) (at : ℕ) (below : at < length h) where
  pub dot_pushed : (all positions new : List RowPosition) → SamePositions (positions ++ flat_map f (after_dots (drop at h))) all → get_or h at 0 ≡ 46 → SamePositions new (positions ++ f (drop (at + 1) h))
      → SamePositions (new ++ flat_map f (after_dots (drop (at + 1) h))) all
  dot_pushed all positions new so_far dot e = λ s.
      let left = flat_map f (after_dots (drop at h)) in
      let more = flat_map f (after_dots (drop (at + 1) h)) in
      let here = f (drop (at + 1) h) in
      let split : sum_by s left ≡ sum_by s here + sum_by s more = ap (λ ts. sum_by s (flat_map f ts)) (at_dot h at below dot) ∙ sum_by-append s here more in
      omega (arith, e s, so_far s, split, sum_by-append s new more, sum_by-append s positions here, sum_by-append s positions left)

  pub dot_kept : (all positions new : List RowPosition) → SamePositions (positions ++ flat_map f (after_dots (drop at h))) all → eqb (get_or h at 0) 46 ≡ false → new ≡ positions
      → SamePositions (new ++ flat_map f (after_dots (drop (at + 1) h))) all
  dot_kept all positions new so_far dot e = λ s.
      ap (λ ss. sum_by s (ss ++ flat_map f (after_dots (drop (at + 1) h)))) e ∙ ap (λ ts. sum_by s (positions ++ flat_map f ts)) (sym (at_no_dot h at below dot)) ∙ so_far s

  pub dot_gives : get_or h at 0 ≡ 46 → f (drop (at + 1) h) ≢ [] → flat_map f (candidate_domains h) ≢ []
  dot_gives dot some none =
      let w = dots_suffix h at in
      let split : candidate_domains h ≡ (h ∷ w.0) ++ drop (at + 1) h ∷ after_dots (drop (at + 1) h) = ap (λ ts. h ∷ ts) (w.1 ∙ ap (λ ts. w.0 ++ ts) (at_dot h at below dot)) in
      some_given f (h ∷ w.0) (drop (at + 1) h) (after_dots (drop (at + 1) h)) some (ap (flat_map f) (sym split) ∙ none)

-- no candidates are left
pub none_left : (f : List ℕ → List RowPosition) (left : List (List ℕ)) → left ≡ [] → (all positions : List RowPosition)
    → SamePositions (positions ++ flat_map f left) all → SamePositions positions all
none_left f left none all positions so_far = λ s.
    ap (sum_by s) (sym (append-nil positions) ∙ ap (λ ts. positions ++ flat_map f ts) (sym none)) ∙ so_far s
