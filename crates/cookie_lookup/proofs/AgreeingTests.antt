-- Tests that agree on the rows of candidates find the same positions.
use Rattle.std.proofs.Common.{◌≡◌, ℕ, suc, ◌+◌, ◌<◌, length, Bool, true, List, [], ◌∷◌, Option, Some, None, refl, sym, ◌∙◌, ap, subst, inl, inr, bytes_eq}
use Rattle.std.specs.Prelude.{option_map}
use Rattle.std.specs.List.{flat_map, list_any, AllByRecursion}
use Rattle.std.proofs.lemmas.Bool.{or_right, or_left}
use Rattle.std.proofs.lemmas.Slice.Eq.{bytes_eq-Decides}
use Rattle.url.specs.Parts.{Parts}
use Rattle.jiff.specs.declared.civil.DateTime.{DateTime}
use Rattle.cookie_words.specs.Moments.{moment_of}
use Rattle.cookie_parts.specs.Cookie.{Row}
use Rattle.cookie_laws.specs.Given.{is_given}
use Rattle.cookie_lookup.specs.RowFilter.{is_given_under, AgreesUnder}
use Rattle.cookie_lookup.specs.Groups.{PathGroups, DomainGroups, Filled, ArePaths, AreGroups}
use Rattle.cookie_lookup.specs.SearchView.{RowPosition, group_position, under, row_positions, at_path, at_domain}
use Rattle.cookie_lookup.specs.Candidates.{candidate_paths, IsCandidatePath}
use Rattle.cookie_lookup.proofs.CoveringPaths.{path_texts_are}
use Rattle.cookie_lookup.proofs.CandidateCuts.{bool_cases}
use Rattle.cookie_lookup.proofs.LookupResults.{domain_some}

module _ (test other : Row → Bool) where
  same_rows : {P : Row → Type 0} → ((row : Row) → P row → test row ≡ other row) → (d p n : ℕ) (rows : List Row) → AllByRecursion P rows
      → row_positions test d p n rows ≡ row_positions other d p n rows
  same_rows same d p n [] all = refl
  same_rows same d p n (row ∷ rows) all =
      let next = same_rows same d p (n + 1) rows all.1 in
      let here = same row all.0 in
      elim (bool_cases (other row)) [
        | inl e ↦ rw (here, e) (ap (λ s. (d, p, n) ∷ s) next)
        | inr e ↦ rw (here, e) next
      ]

  module _ (domain path : List ℕ) (agrees : AgreesUnder domain test other path) (d : ℕ) where
    -- for one path
    same_group : (text : List ℕ) → IsCandidatePath path text → (paths : PathGroups) → Filled domain paths → (p : ℕ) → Some p ≡ group_position text paths → (m : ℕ)
        → row_positions test d m 0 (under p paths) ≡ row_positions other d m 0 (under p paths)
    same_group text is [] all p e m = absurd (cc)
    same_group text is (g ∷ gs) all p e m = elim (bool_cases (bytes_eq text g.0)) [
      | inl s ↦
          let e' = rw s at e in
          let z : p ≡ 0 = cc in
          let same : text ≡ g.0 = (bytes_eq-Decides text g.0).0 s in
          subst (λ q. row_positions test d m 0 (under q (g ∷ gs)) ≡ row_positions other d m 0 (under q (g ∷ gs))) (sym z)
          (same_rows (λ row of. agrees row of.0 (subst (IsCandidatePath path) (same ∙ sym of.1) is)) d m 0 g.1 all.0.1)
      | inr s ↦ let e' = rw s at e in later g gs m (group_position text gs) p e' (λ q k. same_group text is gs all.1 q k m)
    ]
      where
        later : (g : List ℕ × List Row) (gs : PathGroups) (m : ℕ) (o : Option ℕ) (p : ℕ) → Some p ≡ option_map suc o
            → ((q : ℕ) → Some q ≡ o → row_positions test d m 0 (under q gs) ≡ row_positions other d m 0 (under q gs))
            → row_positions test d m 0 (under p (g ∷ gs)) ≡ row_positions other d m 0 (under p (g ∷ gs))
        later g gs m None p h k = absurd (cc)
        later g gs m (Some q) p h k = let e : p ≡ suc q = cc in rw e (k q refl)

    same_path : (paths : PathGroups) → Filled domain paths → (text : List ℕ) → IsCandidatePath path text → at_path test d paths text ≡ at_path other d paths text
    same_path paths all text is = by_place (group_position text paths) refl
      where
        by_place : (o : Option ℕ) → o ≡ group_position text paths → at_path test d paths text ≡ at_path other d paths text
        by_place None e = rw (at_path, ← e) refl
        by_place (Some p) e = rw (at_path, ← e) (same_group text is paths all p e p)

    same_paths : (paths : PathGroups) → Filled domain paths → (texts : List (List ℕ)) → ((text : List ℕ) → list_any (bytes_eq text) texts ≡ true → IsCandidatePath path text)
        → flat_map (at_path test d paths) texts ≡ flat_map (at_path other d paths) texts
    same_paths paths all [] are = refl
    same_paths paths all (text ∷ texts) are =
        let here = same_path paths all text (are text (or_left _ _ ((bytes_eq-Decides text text).1 refl))) in
        let next = same_paths paths all texts (λ t in_texts. are t (or_right _ _ in_texts)) in
        rw (here, next) refl

  -- for one domain
  pub same_under : (domain path : List ℕ) → AgreesUnder domain test other path → (groups : DomainGroups) → AreGroups groups → (d : ℕ) → Some d ≡ group_position domain groups
      → flat_map (at_path test d (under d groups)) (candidate_paths path) ≡ flat_map (at_path other d (under d groups)) (candidate_paths path)
  same_under domain path agrees groups are d found =
      same_paths domain path agrees d (under d groups) (filled groups are.1 d found) (candidate_paths path) (λ text. (path_texts_are path text).0)
    where
      filled : (groups : DomainGroups) → AllByRecursion (λ g. (0 < length g.1) × ArePaths g.0 g.1) groups → (d : ℕ) → Some d ≡ group_position domain groups → Filled domain (under d groups)
      filled [] all d e = absurd (cc)
      filled (g ∷ gs) all d e = elim (bool_cases (bytes_eq domain g.0)) [
        | inl s ↦
            let e' = rw s at e in
            let z : d ≡ 0 = cc in
            let same : domain ≡ g.0 = (bytes_eq-Decides domain g.0).0 s in
            subst (λ q. Filled domain (under q (g ∷ gs))) (sym z) (subst (λ t. Filled t g.1) (sym same) all.0.1.1)
        | inr s ↦ let e' = rw s at e in later g gs (group_position domain gs) d e' (λ q k. filled gs all.1 q k)
      ]
        where
          later : (g : List ℕ × PathGroups) (gs : DomainGroups) (o : Option ℕ) (d : ℕ) → Some d ≡ option_map suc o
              → ((q : ℕ) → Some q ≡ o → Filled domain (under q gs)) → Filled domain (under d (g ∷ gs))
          later g gs None d h k = absurd (cc)
          later g gs (Some q) d h k = let e : d ≡ suc q = cc in rw e (k q refl)

  -- what a lookup of a domain finds
  pub known_domain : (domain path : List ℕ) → AgreesUnder domain test other path → (groups : DomainGroups) → AreGroups groups → (d : ℕ) → Some d ≡ group_position domain groups
      → flat_map (at_path test d (under d groups)) (candidate_paths path) ≡ at_domain other groups (candidate_paths path) domain
  known_domain domain path agrees groups are d found =
      same_under domain path agrees groups are d found ∙ sym (domain_some other groups (candidate_paths path) domain d found)

-- the tests left under a candidate domain find the given rows there
pub known_look_up : (host_only suffix : Bool) (text : List ℕ) (url candidates_url : Parts) (now candidates_now : DateTime) → candidates_url ≡ url → candidates_now ≡ now
    → AgreesUnder text (is_given_under host_only suffix url (moment_of now)) (is_given url (moment_of now)) url.path
    → (groups candidate_groups : DomainGroups) → AreGroups groups → candidate_groups ≡ groups → (d : ℕ) → Some d ≡ group_position text groups
    → flat_map (at_path (is_given_under host_only suffix candidates_url (moment_of candidates_now)) d (under d candidate_groups)) (candidate_paths candidates_url.path)
    ≡ at_domain (is_given url (moment_of now)) groups (candidate_paths url.path) text
known_look_up host_only suffix text url candidates_url now candidates_now same_url same_now agrees groups candidate_groups are same_groups d found =
    let look : Parts → DateTime → DomainGroups → List RowPosition =
    λ u m gs. flat_map (at_path (is_given_under host_only suffix u (moment_of m)) d (under d gs)) (candidate_paths u.path) in
    ap (λ u. look u candidates_now candidate_groups) same_url ∙ ap (λ m. look url m candidate_groups) same_now ∙ ap (λ gs. look url now gs) same_groups
    ∙ known_domain (is_given_under host_only suffix url (moment_of now)) (is_given url (moment_of now)) text url.path agrees groups are d found
