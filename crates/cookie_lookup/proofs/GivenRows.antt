-- The rows at the positions that a walk gives are the rows that pass.
use Rattle.std.proofs.Common.{◌≡◌, ℕ, suc, ◌+◌, Bool, List, [], ◌∷◌, ◌++◌, length, refl, sym, ◌∙◌, ap, inl, inr, arith, length-append}
use Rattle.std.specs.Prelude.{slice_get, filter}
use Rattle.std.specs.List.{flat_map}
use Rattle.std.proofs.lemmas.Bool.Decides.{nat_tests}
use Rattle.std.proofs.lemmas.Grind.{flat_map-append}
use Rattle.cookie_parts.specs.Cookie.{Row}
use Rattle.cookie_lookup.specs.SearchView.{under, row_positions, path_positions, domain_positions, list_of, rows_at}
use Rattle.cookie_lookup.specs.Groups.{DomainGroups, PathGroups, flat, flat_paths}
use Rattle.cookie_lookup.proofs.CandidateCuts.{bool_cases}

pub filter_append : (t : Row → Bool) (xs ys : List Row) → filter t (xs ++ ys) ≡ filter t xs ++ filter t ys
filter_append t [] ys = refl
filter_append t (x ∷ xs) ys = grind (arith, nat_tests, filter_append t xs ys)

module _ (test : Row → Bool) (G : DomainGroups) where
  of_rows : (d p n : ℕ) (R rows : List Row) → under p (under d G) ≡ R → ((k : ℕ) → slice_get R (n + k) ≡ slice_get rows k) → flat_map (rows_at G) (row_positions test d p n rows) ≡ filter test rows
  of_rows d p n R [] at same = refl
  of_rows d p n R (row ∷ rows) at same =
      let next = of_rows d p (n + 1) R rows at (λ k. let e : n + 1 + k ≡ n + suc k = omega arith in ap (slice_get R) e ∙ same (suc k)) in
      let z : n ≡ n + 0 = omega arith in
      let here : rows_at G (d, p, n) ≡ row ∷ [] = ap (λ rs. list_of (slice_get rs n)) at ∙ ap (λ m. list_of (slice_get R m)) z ∙ ap list_of (same 0) in
      elim (bool_cases (test row)) [
        | inl e ↦ rw e (ap (λ xs. xs ++ flat_map (rows_at G) (row_positions test d p (n + 1) rows)) here ∙ ap (λ xs. row ∷ xs) next)
        | inr e ↦ rw e next
      ]

  of_paths : (d p : ℕ) (P ps : PathGroups) → under d G ≡ P → ((k : ℕ) → under (p + k) P ≡ under k ps) → flat_map (rows_at G) (path_positions test d p ps) ≡ filter test (flat_paths ps)
  of_paths d p P [] at same = refl
  of_paths d p P (g ∷ gs) at same =
      let z : p ≡ p + 0 = omega arith in
      let here : under p (under d G) ≡ g.1 = ap (under p) at ∙ ap (λ m. under m P) z ∙ same 0 in
      flat_map-append (rows_at G) (row_positions test d p 0 g.1) (path_positions test d (p + 1) gs)
      ∙ ap (λ xs. xs ++ flat_map (rows_at G) (path_positions test d (p + 1) gs)) (of_rows d p 0 g.1 g.1 here (λ k. let e : 0 + k ≡ k = omega arith in ap (slice_get g.1) e))
      ∙ ap (λ ys. filter test g.1 ++ ys) (of_paths d (p + 1) P gs at (λ k. let e : p + 1 + k ≡ p + suc k = omega arith in ap (λ m. under m P) e ∙ same (suc k)))
      ∙ sym (filter_append test g.1 (flat_paths gs))

  of_domain : (d : ℕ) (paths : PathGroups) → under d G ≡ paths → flat_map (rows_at G) (path_positions test d 0 paths) ≡ filter test (flat_paths paths)
  of_domain d paths at = of_paths d 0 paths paths at (λ k. let e : 0 + k ≡ k = omega arith in ap (λ m. under m paths) e)

  of_domains : (d : ℕ) (gs : DomainGroups) → ((k : ℕ) → under (d + k) G ≡ under k gs) → flat_map (rows_at G) (domain_positions test d gs) ≡ filter test (flat gs)
  of_domains d [] same = refl
  of_domains d (g ∷ gs) same =
      let z : d ≡ d + 0 = omega arith in
      let here : under d G ≡ g.1 = ap (λ m. under m G) z ∙ same 0 in
      flat_map-append (rows_at G) (path_positions test d 0 g.1) (domain_positions test (d + 1) gs)
      ∙ ap (λ xs. xs ++ flat_map (rows_at G) (domain_positions test (d + 1) gs)) (of_domain d g.1 here)
      ∙ ap (λ ys. filter test (flat_paths g.1) ++ ys) (of_domains (d + 1) gs (λ k. let e : d + 1 + k ≡ d + suc k = omega arith in ap (λ m. under m G) e ∙ same (suc k)))
      ∙ sym (filter_append test (flat_paths g.1) (flat gs))

pub rows_given : (test : Row → Bool) (groups : DomainGroups) → flat_map (rows_at groups) (domain_positions test 0 groups) ≡ filter test (flat groups)
rows_given test groups = of_domains test groups 0 groups (λ k. let e : 0 + k ≡ k = omega arith in ap (λ m. under m groups) e)

-- and there are as many of them

as_many_rows : (test : Row → Bool) (d p n : ℕ) (rows : List Row) → length (row_positions test d p n rows) ≡ length (filter test rows)
as_many_rows test d p n [] = refl
as_many_rows test d p n (row ∷ rows) = elim (bool_cases (test row)) [
  | inl e ↦ rw e (ap suc (as_many_rows test d p (n + 1) rows))
  | inr e ↦ rw e (as_many_rows test d p (n + 1) rows)
]

as_many_paths : (test : Row → Bool) (d p : ℕ) (paths : PathGroups) → length (path_positions test d p paths) ≡ length (filter test (flat_paths paths))
as_many_paths test d p [] = refl
as_many_paths test d p (g ∷ gs) =
    omega (
      arith,
      length-append (row_positions test d p 0 g.1) (path_positions test d (p + 1) gs),
      as_many_rows test d p 0 g.1,
      as_many_paths test d (p + 1) gs,
      ap length (filter_append test g.1 (flat_paths gs)),
      length-append (filter test g.1) (filter test (flat_paths gs)),
    )

as_many_domains : (test : Row → Bool) (d : ℕ) (groups : DomainGroups) → length (domain_positions test d groups) ≡ length (filter test (flat groups))
as_many_domains test d [] = refl
as_many_domains test d (g ∷ gs) =
    omega (
      arith,
      length-append (path_positions test d 0 g.1) (domain_positions test (d + 1) gs),
      as_many_paths test d 0 g.1,
      as_many_domains test (d + 1) gs,
      ap length (filter_append test (flat_paths g.1) (flat gs)),
      length-append (filter test (flat_paths g.1)) (filter test (flat gs)),
    )

pub as_many_given : (test : Row → Bool) (groups : DomainGroups) → length (domain_positions test 0 groups) ≡ length (filter test (flat groups))
as_many_given test groups = as_many_domains test 0 groups
