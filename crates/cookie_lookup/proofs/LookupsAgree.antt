-- The lookups of the candidates of a URL find what a walk over all groups finds, in another order.
use Rattle.std.proofs.Common.{◌≡◌, ℕ, suc, ◌+◌, Bool, true, false, cond, List, [], ◌∷◌, map, Option, Some, None, refl, sym, ◌∙◌, ap, subst, inl, inr, bytes_eq, arith}
use Rattle.std.specs.Prelude.{option_map}
use Rattle.std.specs.List.{AllByRecursion, sum_by, list_any, flat_map}
use Rattle.std.proofs.lemmas.List.Sums.{sum_by-cons, sum_by-append}
use Rattle.std.proofs.lemmas.Bool.Decides.{nat_tests}
use Rattle.std.proofs.lemmas.Slice.Eq.{bytes_eq-Decides}
use Rattle.cookie_parts.specs.Cookie.{Row}
use Rattle.cookie_laws.specs.Rows.{differ}
use Rattle.cookie_lookup.specs.Groups.{PathGroups, DomainGroups}
use Rattle.cookie_lookup.specs.SearchView.{RowPosition, group_position, under, row_positions, path_positions, domain_positions, at_path, at_domain}
use Rattle.cookie_lookup.proofs.CandidateCuts.{bool_cases}

module _ {X : Type 0} (F : ℕ → List X → ℕ) where
  -- the value of F for the group of a name, if the first group is at n, and for all groups
  abbrev pub value : ℕ → List ℕ → List (List ℕ × List X) → ℕ
  value n text [] = 0
  value n text (g ∷ gs) = cond (bytes_eq text g.0) (F n g.1) (value (n + 1) text gs)

  abbrev pub total : ℕ → List (List ℕ × List X) → ℕ
  total n [] = 0
  total n (g ∷ gs) = F n g.1 + total (n + 1) gs

  abbrev pub value_at : ℕ → Option ℕ → List (List ℕ × List X) → ℕ
  value_at n None gs = 0
  value_at n (Some p) gs = F (n + p) (under p gs)

  not_there : (n : ℕ) (text : List ℕ) (gs : List (List ℕ × List X)) → list_any (bytes_eq text) (map (λ g. g.0) gs) ≡ false → value n text gs ≡ 0
  not_there n text [] h = refl
  not_there n text (g ∷ gs) h = grind (arith, nat_tests, h, not_there (n + 1) text gs)

  one_later : (n : ℕ) (o : Option ℕ) (g : List ℕ × List X) (gs : List (List ℕ × List X)) → value_at n (option_map suc o) (g ∷ gs) ≡ value_at (n + 1) o gs
  one_later n None g gs = refl
  one_later n (Some p) g gs = let e : n + suc p ≡ n + 1 + p = omega arith in ap (λ m. F m (under p gs)) e

  pub position_value : (n : ℕ) (text : List ℕ) (gs : List (List ℕ × List X)) → value_at n (group_position text gs) gs ≡ value n text gs
  position_value n text [] = refl
  position_value n text (g ∷ gs) = elim (bool_cases (bytes_eq text g.0)) [
    | inl e ↦ let z : n + 0 ≡ n = omega arith in rw e (ap (λ m. F m g.1) z)
    | inr e ↦ rw e (one_later n (group_position text gs) g gs ∙ position_value (n + 1) text gs)
  ]

  zeros : (h : List ℕ → ℕ) → ((t : List ℕ) → h t ≡ 0) → (ts : List (List ℕ)) → sum_by h ts ≡ 0
  zeros h z [] = refl
  zeros h z (t ∷ ts) = omega (arith, sum_by-cons h t ts, z t, zeros h z ts)

  -- the first group is found once, if a candidate is its name
  split_first : (n : ℕ) (ts : List (List ℕ)) (g : List ℕ × List X) (gs : List (List ℕ × List X)) → differ bytes_eq ts ≡ true → value (n + 1) g.0 gs ≡ 0
      → sum_by (λ t. value n t (g ∷ gs)) ts ≡ cond (list_any (bytes_eq g.0) ts) (F n g.1) 0 + sum_by (λ t. value (n + 1) t gs) ts
  split_first n [] g gs d z = refl
  split_first n (t ∷ ts) g gs d z =
      let all = sum_by-cons (λ t. value n t (g ∷ gs)) t ts in
      let rest = sum_by-cons (λ t. value (n + 1) t gs) t ts in
      let after : differ bytes_eq ts ≡ true = grind (arith, nat_tests, d) in
      let here : list_any (bytes_eq t) ts ≡ false = grind (arith, nat_tests, d) in
      let next = split_first n ts g gs after z in
      elim (bool_cases (bytes_eq t g.0)) [
        | inl e ↦
            let same : t ≡ g.0 = (bytes_eq-Decides t g.0).0 e in
            let none : list_any (bytes_eq g.0) ts ≡ false = subst (λ x. list_any (bytes_eq x) ts ≡ false) same here in
            let self : bytes_eq g.0 t ≡ true = (bytes_eq-Decides g.0 t).1 (sym same) in
            let any : list_any (bytes_eq g.0) (t ∷ ts) ≡ true = grind (arith, nat_tests, self) in
            let it : value n t (g ∷ gs) ≡ F n g.1 = rw e refl in
            let later : value (n + 1) t gs ≡ 0 = ap (λ x. value (n + 1) x gs) same ∙ z in
            let next' = rw none at next in
            rw any (omega (arith, all, rest, it, later, next'))
        | inr e ↦
            let other : bytes_eq g.0 t ≡ false = grind (arith, nat_tests, bytes_eq-Decides g.0 t, bytes_eq-Decides t g.0, e) in
            let any : list_any (bytes_eq g.0) (t ∷ ts) ≡ list_any (bytes_eq g.0) ts = grind (arith, nat_tests, other) in
            let it : value n t (g ∷ gs) ≡ value (n + 1) t gs = rw e refl in
            rw any (omega (arith, all, rest, it, next))
      ]

  -- a group that is no candidate adds nothing
  abbrev pub Missed : List (List ℕ) → List (List ℕ × List X) → Type 0
  Missed ts gs = AllByRecursion (λ g. list_any (bytes_eq g.0) ts ≡ false → (k : ℕ) → F k g.1 ≡ 0) gs

  pub sums_agree : (n : ℕ) (ts : List (List ℕ)) (gs : List (List ℕ × List X)) → differ bytes_eq ts ≡ true → differ bytes_eq (map (λ g. g.0) gs) ≡ true → Missed ts gs
      → sum_by (λ t. value n t gs) ts ≡ total n gs
  sums_agree n ts [] d k m = zeros (λ _. 0) (λ _. refl) ts
  sums_agree n ts (g ∷ gs) d k m =
      let apart : list_any (bytes_eq g.0) (map (λ g. g.0) gs) ≡ false = grind (arith, nat_tests, k) in
      let after : differ bytes_eq (map (λ g. g.0) gs) ≡ true = grind (arith, nat_tests, k) in
      let first = split_first n ts g gs d (not_there (n + 1) g.0 gs apart) in
      let next = sums_agree (n + 1) ts gs d after m.1 in
      elim (bool_cases (list_any (bytes_eq g.0) ts)) [
        | inl e ↦ let first' = rw e at first in omega (arith, first', next)
        | inr e ↦ let first' = rw e at first in omega (arith, first', next, m.0 e n)
      ]

-- sums over lookups

pub sum_flat : {T A : Type 0} (f : A → ℕ) (h : T → List A) (ts : List T) → sum_by f (flat_map h ts) ≡ sum_by (λ t. sum_by f (h t)) ts
sum_flat f h [] = refl
sum_flat f h (t ∷ ts) = omega (arith, sum_by-append f (h t) (flat_map h ts), sum_by-cons (λ t. sum_by f (h t)) t ts, sum_flat f h ts)

pub sum_alike : {T : Type 0} (f h : T → ℕ) → ((t : T) → f t ≡ h t) → (ts : List T) → sum_by f ts ≡ sum_by h ts
sum_alike f h e [] = refl
sum_alike f h e (t ∷ ts) = omega (arith, sum_by-cons f t ts, sum_by-cons h t ts, e t, sum_alike f h e ts)

module _ (test : Row → Bool) (f : RowPosition → ℕ) where
  -- what the rows of a path's group add
  abbrev pub rows_sum : ℕ → ℕ → List Row → ℕ
  rows_sum d p rows = sum_by f (row_positions test d p 0 rows)

  path_sum : (d : ℕ) (paths : PathGroups) (text : List ℕ) → sum_by f (at_path test d paths text) ≡ value (rows_sum d) 0 text paths
  path_sum d paths text = go d paths text (group_position text paths) refl ∙ position_value (rows_sum d) 0 text paths
    where
      go : (d : ℕ) (paths : PathGroups) (text : List ℕ) (o : Option ℕ) → group_position text paths ≡ o → sum_by f (at_path test d paths text) ≡ value_at (rows_sum d) 0 (group_position text paths) paths
      go d paths text None e = rw (at_path, e) refl
      go d paths text (Some p) e = let z : 0 + p ≡ p = omega arith in rw (at_path, e) (sym (ap (λ m. rows_sum d m (under p paths)) z))

  path_total : (d p : ℕ) (paths : PathGroups) → total (rows_sum d) p paths ≡ sum_by f (path_positions test d p paths)
  path_total d p [] = refl
  path_total d p (g ∷ gs) = omega (arith, sum_by-append f (row_positions test d p 0 g.1) (path_positions test d (p + 1) gs), path_total d (p + 1) gs)

  pub paths_agree : (d : ℕ) (texts : List (List ℕ)) (paths : PathGroups) → differ bytes_eq texts ≡ true → differ bytes_eq (map (λ g. g.0) paths) ≡ true → Missed (rows_sum d) texts paths
      → sum_by f (flat_map (at_path test d paths) texts) ≡ sum_by f (path_positions test d 0 paths)
  paths_agree d texts paths t k m =
      sum_flat f (at_path test d paths) texts ∙ sum_alike (λ t. sum_by f (at_path test d paths t)) (λ t. value (rows_sum d) 0 t paths) (path_sum d paths) texts
      ∙ sums_agree (rows_sum d) 0 texts paths t k m ∙ path_total d 0 paths

  -- what the paths of a domain's group add
  abbrev pub paths_sum : List (List ℕ) → ℕ → PathGroups → ℕ
  paths_sum texts d paths = sum_by f (flat_map (at_path test d paths) texts)

  domain_sum : (texts : List (List ℕ)) (groups : DomainGroups) (text : List ℕ) → sum_by f (at_domain test groups texts text) ≡ value (paths_sum texts) 0 text groups
  domain_sum texts groups text = go texts groups text (group_position text groups) refl ∙ position_value (paths_sum texts) 0 text groups
    where
      go : (texts : List (List ℕ)) (groups : DomainGroups) (text : List ℕ) (o : Option ℕ) → group_position text groups ≡ o → sum_by f (at_domain test groups texts text) ≡ value_at (paths_sum texts) 0 (group_position text groups) groups
      go texts groups text None e = rw (at_domain, e) refl
      go texts groups text (Some p) e = let z : 0 + p ≡ p = omega arith in rw (at_domain, e) (sym (ap (λ m. paths_sum texts m (under p groups)) z))

  -- in each domain the lookups of paths add what all its paths do
  abbrev pub Agree : List (List ℕ) → DomainGroups → Type 0
  Agree texts groups = AllByRecursion (λ g. (d : ℕ) → paths_sum texts d g.1 ≡ sum_by f (path_positions test d 0 g.1)) groups

  domain_total : (texts : List (List ℕ)) (d : ℕ) (groups : DomainGroups) → Agree texts groups → total (paths_sum texts) d groups ≡ sum_by f (domain_positions test d groups)
  domain_total texts d [] a = refl
  domain_total texts d (g ∷ gs) a = omega (arith, sum_by-append f (path_positions test d 0 g.1) (domain_positions test (d + 1) gs), a.0 d, domain_total texts (d + 1) gs a.1)

  pub domains_agree : (domains texts : List (List ℕ)) (groups : DomainGroups) → differ bytes_eq domains ≡ true → differ bytes_eq (map (λ g. g.0) groups) ≡ true → Missed (paths_sum texts) domains groups → Agree texts groups
      → sum_by f (flat_map (at_domain test groups texts) domains) ≡ sum_by f (domain_positions test 0 groups)
  domains_agree domains texts groups t k m a =
      sum_flat f (at_domain test groups texts) domains ∙ sum_alike (λ t. sum_by f (at_domain test groups texts t)) (λ t. value (paths_sum texts) 0 t groups) (domain_sum texts groups) domains
      ∙ sums_agree (paths_sum texts) 0 domains groups t k m ∙ domain_total texts 0 groups a
