-- Looking up the stored domains or paths that are candidates finds what lookups of all the candidates find.
use Rattle.std.proofs.Common.{◌≡◌, ℕ, zero, suc, ◌+◌, ◌*◌, ◌<◌, ◌≤◌, Bool, true, false, cond, List, [], ◌∷◌, ◌++◌, length, drop, map, Some, None, refl, sym, ◌∙◌, ap, subst, inl, inr, bytes_eq, arith, append_assoc}
use Rattle.std.specs.Prelude.{◌≢◌, filter, is_some, slice_get}
use Rattle.std.specs.List.{AllByRecursion, sum_by, list_any, flat_map}
use Rattle.std.proofs.lemmas.List.Sums.{sum_by-cons, sum_by-append}
use Rattle.std.proofs.lemmas.Bool.Decides.{nat_tests}
use Rattle.std.proofs.lemmas.Slice.Eq.{bytes_eq-Decides}
use Rattle.std.proofs.lemmas.Option.{slice_get_cases}
use Rattle.cookie_parts.specs.Cookie.{Row}
use Rattle.cookie_laws.specs.Rows.{differ}
use Rattle.cookie_lookup.specs.Groups.{PathGroups, DomainGroups, ArePaths, AreGroups}
use Rattle.cookie_lookup.specs.SearchView.{RowPosition, group_position, under, at_domain, at_path, how_many_found}
use Rattle.cookie_lookup.specs.Positions.{SamePositions}
use Rattle.cookie_lookup.proofs.LookupsAgree.{sum_flat, sum_alike}
use Rattle.cookie_lookup.specs.Candidates.{candidate_paths, slashes}
use Rattle.cookie_lookup.proofs.CandidateCuts.{bool_cases}
use Rattle.cookie_lookup.proofs.CandidatePaths.{length_paths, path_differ}
use Rattle.cookie_lookup.proofs.LookupResults.{drop_at, some_given}

no_sum : (ts : List (List ℕ)) → sum_by (λ _. 0) ts ≡ 0
no_sum [] = refl
no_sum (t ∷ ts) = omega (arith, sum_by-cons (λ (_ : List ℕ). 0) t ts, no_sum ts)

module _ (h : List ℕ → ℕ) where
  sum_both : (f g both : List ℕ → ℕ) → ((t : List ℕ) → both t ≡ f t + g t) → (ts : List (List ℕ)) → sum_by both ts ≡ sum_by f ts + sum_by g ts
  sum_both f g both e [] = refl
  sum_both f g both e (t ∷ ts) =
      omega (arith, sum_by-cons both t ts, sum_by-cons f t ts, sum_by-cons g t ts, e t, sum_both f g both e ts)

  -- of distinct candidates at most one is the name
  one_is : (k : List ℕ) (cs : List (List ℕ)) → differ bytes_eq cs ≡ true → sum_by (λ t. cond (bytes_eq t k) (h t) 0) cs ≡ cond (list_any (bytes_eq k) cs) (h k) 0
  one_is k [] d = refl
  one_is k (c ∷ cs) d =
      let after : differ bytes_eq cs ≡ true = grind (arith, nat_tests, d) in
      let here : list_any (bytes_eq c) cs ≡ false = grind (arith, nat_tests, d) in
      let all = sum_by-cons (λ t. cond (bytes_eq t k) (h t) 0) c cs in
      let next = one_is k cs after in
      elim (bool_cases (bytes_eq c k)) [
        | inl e ↦
            let same : c ≡ k = (bytes_eq-Decides c k).0 e in
            let none : list_any (bytes_eq k) cs ≡ false = subst (λ x. list_any (bytes_eq x) cs ≡ false) same here in
            let self : bytes_eq k c ≡ true = (bytes_eq-Decides k c).1 (sym same) in
            let any : list_any (bytes_eq k) (c ∷ cs) ≡ true = grind (arith, nat_tests, self) in
            let it : cond (bytes_eq c k) (h c) 0 ≡ h k = rw e (ap h same) in
            let next' = rw none at next in
            rw any (omega (arith, all, it, next'))
        | inr e ↦
            let other : bytes_eq k c ≡ false = grind (arith, nat_tests, bytes_eq-Decides k c, bytes_eq-Decides c k, e) in
            let any : list_any (bytes_eq k) (c ∷ cs) ≡ list_any (bytes_eq k) cs = grind (arith, nat_tests, other) in
            let it : cond (bytes_eq c k) (h c) 0 ≡ 0 = rw e refl in
            rw any (omega (arith, all, it, next))
      ]

  -- a name that is not among others is one of them at most once
  one_more : (k : List ℕ) (ks : List (List ℕ)) → list_any (bytes_eq k) ks ≡ false → (t : List ℕ)
      → cond (list_any (bytes_eq t) (k ∷ ks)) (h t) 0 ≡ cond (bytes_eq t k) (h t) 0 + cond (list_any (bytes_eq t) ks) (h t) 0
  one_more k ks apart t = elim (bool_cases (bytes_eq t k)) [
    | inl e ↦
        let same : k ≡ t = sym ((bytes_eq-Decides t k).0 e) in
        let none : list_any (bytes_eq t) ks ≡ false = subst (λ x. list_any (bytes_eq x) ks ≡ false) same apart in
        rw (e, none) (omega arith)
    | inr e ↦ rw e (omega arith)
  ]

  -- candidates among the stored names add what stored names among the candidates do
  pub shared : (cs ks : List (List ℕ)) → differ bytes_eq cs ≡ true → differ bytes_eq ks ≡ true
      → sum_by (λ t. cond (list_any (bytes_eq t) ks) (h t) 0) cs ≡ sum_by h (filter (λ k. list_any (bytes_eq k) cs) ks)
  shared cs [] c d = no_sum cs
  shared cs (k ∷ ks) c d =
      let after : differ bytes_eq ks ≡ true = grind (arith, nat_tests, d) in
      let apart : list_any (bytes_eq k) ks ≡ false = grind (arith, nat_tests, d) in
      let both = sum_both (λ t. cond (bytes_eq t k) (h t) 0) (λ t. cond (list_any (bytes_eq t) ks) (h t) 0) (λ t. cond (list_any (bytes_eq t) (k ∷ ks)) (h t) 0) (one_more k ks apart) cs in
      let one = one_is k cs c in
      let next = shared cs ks c after in
      elim (bool_cases (list_any (bytes_eq k) cs)) [
        | inl e ↦
            let one' = rw e at one in
            let more = sum_by-cons h k (filter (λ k. list_any (bytes_eq k) cs) ks) in
            rw e (both ∙ omega (arith, one', next, more))
        | inr e ↦ let one' = rw e at one in rw e (both ∙ omega (arith, one', next))
      ]

  -- if nothing else adds anything, that is what all the candidates add
  pub shared_all : (cs ks : List (List ℕ)) → differ bytes_eq cs ≡ true → differ bytes_eq ks ≡ true → ((t : List ℕ) → list_any (bytes_eq t) ks ≡ false → h t ≡ 0)
      → sum_by h (filter (λ k. list_any (bytes_eq k) cs) ks) ≡ sum_by h cs
  shared_all cs ks c d none = sym (sum_alike h (λ t. cond (list_any (bytes_eq t) ks) (h t) 0) within cs ∙ shared cs ks c d)
    where
      within : (t : List ℕ) → h t ≡ cond (list_any (bytes_eq t) ks) (h t) 0
      within t = elim (bool_cases (list_any (bytes_eq t) ks)) [
        | inl e ↦ rw e refl
        | inr e ↦ none t e ∙ rw e refl
      ]

-- there are at most as many stored names among the candidates as candidates
pub shared_most : (cs ks : List (List ℕ)) → differ bytes_eq cs ≡ true → differ bytes_eq ks ≡ true → length (filter (λ k. list_any (bytes_eq k) cs) ks) ≤ length cs
shared_most cs ks c d =
    omega (arith, shared (λ _. 1) cs ks c d, ones (filter (λ k. list_any (bytes_eq k) cs) ks), at_most (λ t. list_any (bytes_eq t) ks) cs)
  where
    ones : (ts : List (List ℕ)) → sum_by (λ _. 1) ts ≡ length ts
    ones [] = refl
    ones (t ∷ ts) = omega (arith, sum_by-cons (λ (_ : List ℕ). 1) t ts, ones ts)

    below : (b : Bool) → cond {A = ℕ} b 1 0 ≤ 1
    below true = omega arith
    below false = omega arith

    at_most : (p : List ℕ → Bool) (ts : List (List ℕ)) → sum_by (λ t. cond (p t) 1 0) ts ≤ length ts
    at_most p [] = omega arith
    at_most p (t ∷ ts) = omega (arith, sum_by-cons (λ t. cond (p t) 1 0) t ts, below (p t), at_most p ts)

-- a name without a group has no position
pub no_place : {X : Type 0} (text : List ℕ) (gs : List (List ℕ × X)) → list_any (bytes_eq text) (map (λ g. g.0) gs) ≡ false → group_position text gs ≡ None
no_place text [] h = refl
no_place text (g ∷ gs) h =
    let other : bytes_eq text g.0 ≡ false = grind (arith, nat_tests, h) in
    let later : list_any (bytes_eq text) (map (λ g. g.0) gs) ≡ false = grind (arith, nat_tests, h) in
    rw (other, no_place text gs later) refl

-- the paths of a domain differ
pub paths_differ : (groups : DomainGroups) → AreGroups groups → (d : ℕ) → differ bytes_eq (map (λ p. p.0) (under d groups)) ≡ true
paths_differ groups are d = walk groups are.1 d
  where
    walk : (groups : DomainGroups) → AllByRecursion (λ g. (0 < length g.1) × ArePaths g.0 g.1) groups → (d : ℕ) → differ bytes_eq (map (λ p. p.0) (under d groups)) ≡ true
    walk [] all d = refl
    walk (g ∷ gs) all zero = all.0.1.0
    walk (g ∷ gs) all (suc d) = walk gs all.1 d

module _ (test : Row → Bool) (d : ℕ) (paths : PathGroups) (cs : List (List ℕ)) (c : differ bytes_eq cs ≡ true) (k : differ bytes_eq (map (λ p. p.0) paths) ≡ true) where
  -- lookups of the stored candidates find what lookups of all the candidates do
  pub listed_positions : SamePositions (flat_map (at_path test d paths) (filter (λ t. list_any (bytes_eq t) cs) (map (λ p. p.0) paths))) (flat_map (at_path test d paths) cs)
  listed_positions f =
      sum_flat f (at_path test d paths) (filter (λ t. list_any (bytes_eq t) cs) (map (λ p. p.0) paths))
      ∙ shared_all (λ t. sum_by f (at_path test d paths t)) cs (map (λ p. p.0) paths) c k (λ t none. ap (sum_by f) (nothing t (no_place t paths none)))
      ∙ sym (sum_flat f (at_path test d paths) cs)
    where
      nothing : (t : List ℕ) → group_position t paths ≡ None → at_path test d paths t ≡ []
      nothing t e = rw (at_path, e) refl

-- the same of domains
module _ (test : Row → Bool) (groups : DomainGroups) (texts cs : List (List ℕ)) (c : differ bytes_eq cs ≡ true) (k : differ bytes_eq (map (λ g. g.0) groups) ≡ true) where
  pub listed_domain_positions : SamePositions (flat_map (at_domain test groups texts) (filter (λ t. list_any (bytes_eq t) cs) (map (λ g. g.0) groups))) (flat_map (at_domain test groups texts) cs)
  listed_domain_positions f =
      sum_flat f (at_domain test groups texts) (filter (λ t. list_any (bytes_eq t) cs) (map (λ g. g.0) groups))
      ∙ shared_all (λ t. sum_by f (at_domain test groups texts t)) cs (map (λ g. g.0) groups) c k (λ t none. ap (sum_by f) (nothing t (no_place t groups none)))
      ∙ sym (sum_flat f (at_domain test groups texts) cs)
    where
      nothing : (t : List ℕ) → group_position t groups ≡ None → at_domain test groups texts t ≡ []
      nothing t e = rw (at_domain, e) refl

-- as many of them are found as of the candidates
pub listed_found : (groups : DomainGroups) (cs : List (List ℕ)) → differ bytes_eq cs ≡ true → differ bytes_eq (map (λ g. g.0) groups) ≡ true
    → how_many_found groups (filter (λ t. list_any (bytes_eq t) cs) (map (λ g. g.0) groups)) ≡ how_many_found groups cs
listed_found groups cs c k =
    shared_all (λ t. cond (is_some (group_position t groups)) 1 0) cs (map (λ g. g.0) groups) c k (λ t none. ap (λ o. cond (is_some o) 1 0) (no_place t groups none))

-- the steps of a walk over names that skips those that fail a test

module _ (p : List ℕ → Bool) (ks : List (List ℕ)) where
  filter_suffix : (n : ℕ) → (done : List (List ℕ)) × (filter p ks ≡ done ++ filter p (drop n ks))
  filter_suffix n = go ks n
    where
      go : (ks : List (List ℕ)) (n : ℕ) → (done : List (List ℕ)) × (filter p ks ≡ done ++ filter p (drop n ks))
      go ks zero = ([], refl)
      go [] (suc n) = ([], refl)
      go (k ∷ ks) (suc n) =
          let w = go ks n in
          elim (bool_cases (p k)) [
            | inl e ↦ (k ∷ w.0, rw e (ap (λ ts. k ∷ ts) w.1))
            | inr e ↦ (w.0, rw e w.1)
          ]

  module _ (n : ℕ) (t : List ℕ) (here : Some t ≡ slice_get ks n) where
    pub filter_at : p t ≡ true → filter p (drop n ks) ≡ t ∷ filter p (drop (n + 1) ks)
    filter_at e = ap (filter p) (drop_at ks n t here) ∙ rw e refl

    filter_past : p t ≡ false → filter p (drop n ks) ≡ filter p (drop (n + 1) ks)
    filter_past e = ap (filter p) (drop_at ks n t here) ∙ rw e refl

    module _ (f : List ℕ → List RowPosition) (passes : p t ≡ true) where
      pub same_pushed : (all positions new : List RowPosition) → SamePositions (positions ++ flat_map f (filter p (drop n ks))) all → SamePositions new (positions ++ f t)
          → SamePositions (new ++ flat_map f (filter p (drop (n + 1) ks))) all
      same_pushed all positions new so_far e = λ s.
          let left = flat_map f (filter p (drop n ks)) in
          let more = flat_map f (filter p (drop (n + 1) ks)) in
          let split : sum_by s left ≡ sum_by s (f t) + sum_by s more = ap (λ ts. sum_by s (flat_map f ts)) (filter_at passes) ∙ sum_by-append s (f t) more in
          omega (arith, e s, so_far s, split, sum_by-append s new more, sum_by-append s positions (f t), sum_by-append s positions left)

      pub text_pushed : (all positions new : List RowPosition) → positions ++ flat_map f (filter p (drop n ks)) ≡ all → new ≡ positions ++ f t
          → new ++ flat_map f (filter p (drop (n + 1) ks)) ≡ all
      text_pushed all positions new so_far e =
          ap (λ s. s ++ flat_map f (filter p (drop (n + 1) ks))) e ∙ append_assoc positions (f t) (flat_map f (filter p (drop (n + 1) ks)))
          ∙ ap (λ ts. positions ++ flat_map f ts) (sym (filter_at passes)) ∙ so_far

      pub text_gives : f t ≢ [] → flat_map f (filter p ks) ≢ []
      text_gives some none =
          let w = filter_suffix n in
          let split : filter p ks ≡ w.0 ++ t ∷ filter p (drop (n + 1) ks) = w.1 ∙ ap (λ ts. w.0 ++ ts) (filter_at passes) in
          some_given f w.0 t (filter p (drop (n + 1) ks)) some (ap (flat_map f) (sym split) ∙ none)

  pub filter_passed : (n : ℕ) → n < length ks → ((t : List ℕ) → Some t ≡ slice_get ks n → p t ≡ false) → filter p (drop n ks) ≡ filter p (drop (n + 1) ks)
  filter_passed n below fails = elim (slice_get_cases ks n).1 [
    | inl x ↦ filter_past n x.0 (sym x.2) (fails x.0 (sym x.2))
    | inr x ↦ absurd (omega (arith, x.0, below))
  ]

pub length_texts : {X : Type 0} (gs : List (List ℕ × X)) → length (map (λ g. g.0) gs) ≡ length gs
length_texts [] = refl
length_texts (g ∷ gs) = omega (arith, length_texts gs)

-- at most as many of them are looked up as the bound says
pub listed_most : (path : List ℕ) (ks : List (List ℕ)) → differ bytes_eq ks ≡ true → length (filter (λ t. list_any (bytes_eq t) (candidate_paths path)) ks) ≤ 1 + 2 * slashes path
listed_most path ks k = omega (arith, shared_most (candidate_paths path) ks (path_differ path) k, length_paths path)

-- positions in any order

pub same_after : (new old xs ys : List RowPosition) → new ≡ old ++ xs → SamePositions xs ys → SamePositions new (old ++ ys)
same_after new old xs ys e same = λ f. ap (sum_by f) e ∙ sum_by-append f old xs ∙ ap (λ n. sum_by f old + n) (same f) ∙ sym (sum_by-append f old ys)

-- if one has a position, so has the other
pub some_same : (xs ys : List RowPosition) → SamePositions xs ys → xs ≢ [] → ys ≢ []
some_same xs ys same some none = some (nothing xs (same (λ _. 1) ∙ ap (sum_by (λ _. 1)) none))
  where
    nothing : (xs : List RowPosition) → sum_by (λ _. 1) xs ≡ 0 → xs ≡ []
    nothing [] z = refl
    nothing (x ∷ xs) z = absurd (omega (arith, z, sum_by-cons (λ (_ : RowPosition). 1) x xs))

pub same_more : (new old xs ys : List RowPosition) → SamePositions new (old ++ xs) → SamePositions (new ++ ys) (old ++ (xs ++ ys))
same_more new old xs ys same = λ f.
    omega (arith, same f, sum_by-append f new ys, sum_by-append f old xs, sum_by-append f old (xs ++ ys), sum_by-append f xs ys)

pub same_added : (old xs ys : List RowPosition) → SamePositions xs ys → SamePositions (old ++ xs) (old ++ ys)
same_added old xs ys same = λ f. omega (arith, same f, sum_by-append f old xs, sum_by-append f old ys)
