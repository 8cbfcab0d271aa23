-- How many paths are found, and that each of them is looked up.
use Rattle.std.proofs.Common.{◌≡◌, ℕ, ◌+◌, ◌<◌, ◌≤◌, Bool, true, false, ◌&&◌, ◌||◌, cond, List, [], ◌∷◌, length, map, Option, Some, None, refl, sym, ◌∙◌, ap, subst, inl, inr, bytes_eq, arith}
use Rattle.std.specs.Prelude.{count_by, filter, is_some}
use Rattle.std.specs.List.{AllByRecursion, list_any}
use Rattle.std.proofs.lemmas.List.Sums.{sum_by-cons}
use Rattle.std.proofs.lemmas.Bool.Decides.{nat_tests}
use Rattle.std.proofs.lemmas.Slice.Eq.{bytes_eq-Decides}
use Rattle.url.specs.Parts.{Parts}
use Rattle.cookie_parts.specs.Cookie.{Row}
use Rattle.cookie_parts.specs.Hosts.{host_of}
use Rattle.cookie_laws.specs.Rows.{differ}
use Rattle.cookie_lookup.specs.Groups.{PathGroups, DomainGroups, flat_paths, flat, HasDomainAndPath, Filled, ArePaths, AreGroups}
use Rattle.cookie_lookup.specs.SearchView.{group_position, under, how_many_found, how_many_paths, paths_at_domain, how_many_pairs_found, has_domain_and_path, of_host, paths_found}
use Rattle.cookie_lookup.specs.Candidates.{url_candidate_domains, candidate_paths, candidate_domains}
use Rattle.cookie_lookup.proofs.LookupsAgree.{value, value_at, position_value, sum_alike}
use Rattle.cookie_lookup.proofs.Bounds.{counted, counts_alike, some_later}
use Rattle.cookie_lookup.proofs.CandidateCuts.{bool_cases}
use Rattle.cookie_lookup.proofs.Listed.{no_place, shared_all}
use Rattle.cookie_lookup.proofs.CandidatePaths.{any_append}

-- no more are found than there are

pub found_counted : (groups : DomainGroups) (texts : List (List ℕ)) → how_many_found groups texts ≤ length texts
found_counted groups texts = counted (λ t. is_some (group_position t groups)) texts

-- the candidates of the host that are found are those of the URL
pub found_of_host : (groups : DomainGroups) (url : Parts) → of_host (λ host. how_many_found groups (candidate_domains host)) url ≡ how_many_found groups (url_candidate_domains url)
found_of_host groups url = go (host_of url) refl
  where
    go : (o : Option (List ℕ)) → host_of url ≡ o → of_host (λ host. how_many_found groups (candidate_domains host)) url ≡ how_many_found groups (url_candidate_domains url)
    go None e = rw (of_host, url_candidate_domains, e) refl
    go (Some host) e = rw (of_host, url_candidate_domains, e) refl

pub paths_counted : (paths : PathGroups) (texts : List (List ℕ)) → how_many_paths paths texts ≤ length texts
paths_counted paths texts = counted (λ t. is_some (group_position t paths)) texts

pub at_least : (old few many new : ℕ) → new ≡ old + many → few ≤ many → old + few ≤ new
at_least old few many new e h = omega (arith, e, h)

-- if no domain is found, no path is
pub none_at_domain : (groups : DomainGroups) (texts : List (List ℕ)) (text : List ℕ) → None ≡ group_position text groups → paths_at_domain groups texts text ≡ 0
none_at_domain groups texts text e = rw (paths_at_domain, ← e) refl

some_at_domain : (groups : DomainGroups) (texts : List (List ℕ)) (text : List ℕ) (d : ℕ) → Some d ≡ group_position text groups
    → paths_at_domain groups texts text ≡ how_many_paths (under d groups) texts
some_at_domain groups texts text d e = rw (paths_at_domain, ← e) refl

-- the paths of a domain that was found
pub domain_looked_up : (groups now : DomainGroups) (texts given : List (List ℕ)) (text : List ℕ) (d old before after : ℕ) → now ≡ groups → given ≡ texts → before ≡ old
    → Some d ≡ group_position text groups → before + how_many_paths (under d now) given ≤ after → old + paths_at_domain groups texts text ≤ after
domain_looked_up groups now texts given text d old before after g t o e h =
    omega (arith, h, o, some_at_domain groups texts text d e, ap (λ gs. how_many_paths (under d gs) texts) g, ap (how_many_paths (under d now)) t)

-- the paths of one more domain
pub pairs_next : (groups : DomainGroups) (texts : List (List ℕ)) (text : List ℕ) (more : List (List ℕ)) (all before after : ℕ)
    → all ≤ before + how_many_pairs_found groups texts (text ∷ more) → before + paths_at_domain groups texts text ≤ after
    → all ≤ after + how_many_pairs_found groups texts more
pairs_next groups texts text more all before after h e = omega (arith, h, e, sum_by-cons (paths_at_domain groups texts) text more)

-- and of the first
pub pairs_first : (groups : DomainGroups) (texts : List (List ℕ)) (text : List ℕ) (more : List (List ℕ)) (old after : ℕ)
    → old + paths_at_domain groups texts text ≤ after
    → old + how_many_pairs_found groups texts (text ∷ more) ≤ after + how_many_pairs_found groups texts more
pairs_first groups texts text more old after e = omega (arith, e, sum_by-cons (paths_at_domain groups texts) text more)

-- candidates that are stored

module _ (cs : List (List ℕ)) (c : differ bytes_eq cs ≡ true) where
  pub listed_paths : (paths : PathGroups) → differ bytes_eq (map (λ p. p.0) paths) ≡ true
      → how_many_paths paths cs ≤ length (filter (λ t. list_any (bytes_eq t) cs) (map (λ p. p.0) paths))
  listed_paths paths k =
      let listed : List (List ℕ) = filter (λ t. list_any (bytes_eq t) cs) (map (λ p. p.0) paths) in
      let same : how_many_paths paths listed ≡ how_many_paths paths cs =
      shared_all (λ t. cond (is_some (group_position t paths)) 1 0) cs (map (λ p. p.0) paths) c k (λ t none. ap (λ o. cond (is_some o) 1 0) (no_place t paths none)) in
      omega (arith, same, paths_counted paths listed)

  pub listed_pairs : (groups : DomainGroups) (texts : List (List ℕ)) → differ bytes_eq (map (λ g. g.0) groups) ≡ true
      → how_many_pairs_found groups texts (filter (λ t. list_any (bytes_eq t) cs) (map (λ g. g.0) groups)) ≡ how_many_pairs_found groups texts cs
  listed_pairs groups texts k =
      shared_all (paths_at_domain groups texts) cs (map (λ g. g.0) groups) c k (λ t none. none_at_domain groups texts t (sym (no_place t groups none)))

-- a pair has a group if and only if a row has that domain and path

-- the rows of one domain and path all have both, or none does
no_pair : (text path domain p : List ℕ) (rows : List Row) → AllByRecursion (HasDomainAndPath domain p) rows → (bytes_eq text domain && bytes_eq path p) ≡ false → list_any (has_domain_and_path text path) rows ≡ false
no_pair text path domain p [] a e = refl
no_pair text path domain p (row ∷ rows) a e =
    let same : has_domain_and_path text path row ≡ false = ap (λ d. bytes_eq text d && bytes_eq path row.path.text) a.0.0 ∙ ap (λ q. bytes_eq text domain && bytes_eq path q) a.0.1 ∙ e in
    rw same (no_pair text path domain p rows a.1 e)

some_pair : (text path domain p : List ℕ) (rows : List Row) → 0 < length rows → AllByRecursion (HasDomainAndPath domain p) rows → (bytes_eq text domain && bytes_eq path p) ≡ true → list_any (has_domain_and_path text path) rows ≡ true
some_pair text path domain p [] h a e = absurd (omega (arith, h))
some_pair text path domain p (row ∷ rows) h a e =
    let same : has_domain_and_path text path row ≡ true = ap (λ d. bytes_eq text d && bytes_eq path row.path.text) a.0.0 ∙ ap (λ q. bytes_eq text domain && bytes_eq path q) a.0.1 ∙ e in
    rw same refl

-- a path has a group in its domain if and only if a row has both
in_domain : (text domain path : List ℕ) (paths : PathGroups) → Filled domain paths → bytes_eq text domain ≡ true → is_some (group_position path paths) ≡ list_any (has_domain_and_path text path) (flat_paths paths)
in_domain text domain path [] a e = refl
in_domain text domain path (p ∷ ps) a e =
    let split = any_append (has_domain_and_path text path) p.1 (flat_paths ps) in
    elim (bool_cases (bytes_eq path p.0)) [
      | inl i ↦
          let both : (bytes_eq text domain && bytes_eq path p.0) ≡ true = rw (e, i) refl in
          rw i (sym (split ∙ rw (some_pair text path domain p.0 p.1 a.0.0 a.0.1 both) refl))
      | inr i ↦
          let other : (bytes_eq text domain && bytes_eq path p.0) ≡ false = rw (e, i) refl in
          rw i (some_later (group_position path ps) ∙ in_domain text domain path ps a.1 e ∙ sym (split ∙ rw (no_pair text path domain p.0 p.1 a.0.1 other) refl))
    ]

-- no row of another domain has this one
not_in_domain : (text domain path : List ℕ) (paths : PathGroups) → Filled domain paths → bytes_eq text domain ≡ false → list_any (has_domain_and_path text path) (flat_paths paths) ≡ false
not_in_domain text domain path [] a e = refl
not_in_domain text domain path (p ∷ ps) a e =
    let other : (bytes_eq text domain && bytes_eq path p.0) ≡ false = rw e refl in
    any_append (has_domain_and_path text path) p.1 (flat_paths ps)
    ∙ rw (no_pair text path domain p.0 p.1 a.0.1 other, not_in_domain text domain path ps a.1 e) refl

not_in_groups : (text path : List ℕ) (gs : DomainGroups) → AllByRecursion (λ g. (0 < length g.1) × ArePaths g.0 g.1) gs → list_any (bytes_eq text) (map (λ g. g.0) gs) ≡ false
    → list_any (has_domain_and_path text path) (flat gs) ≡ false
not_in_groups text path [] a e = refl
not_in_groups text path (g ∷ gs) a e =
    let other : bytes_eq text g.0 ≡ false = grind (arith, nat_tests, e) in
    let later : list_any (bytes_eq text) (map (λ g. g.0) gs) ≡ false = grind (arith, nat_tests, e) in
    any_append (has_domain_and_path text path) (flat_paths g.1) (flat gs)
    ∙ rw (not_in_domain text g.0 path g.1 a.0.1.1 other, not_in_groups text path gs a.1 later) refl

none_counted : (texts : List (List ℕ)) → count_by (λ _. false) texts ≡ 0
none_counted [] = refl
none_counted (t ∷ ts) = omega (arith, sum_by-cons (λ (_ : List ℕ). 0) t ts, none_counted ts)

or_none : (a b : Bool) → b ≡ false → (a || b) ≡ a
or_none true b e = refl
or_none false b e = e

module _ (texts : List (List ℕ)) where
  -- which of the candidates the group of a domain has
  abbrev texts_in : ℕ → PathGroups → ℕ
  texts_in n paths = how_many_paths paths texts

  at_value : (groups : DomainGroups) (text : List ℕ) → paths_at_domain groups texts text ≡ value texts_in 0 text groups
  at_value groups text = go (group_position text groups) refl ∙ position_value texts_in 0 text groups
    where
      go : (o : Option ℕ) → group_position text groups ≡ o → paths_at_domain groups texts text ≡ value_at texts_in 0 (group_position text groups) groups
      go None e = rw (paths_at_domain, e) refl
      go (Some p) e = rw (paths_at_domain, e) refl

  of_text : (text : List ℕ) (n : ℕ) (gs : DomainGroups) → differ bytes_eq (map (λ g. g.0) gs) ≡ true → AllByRecursion (λ g. (0 < length g.1) × ArePaths g.0 g.1) gs
      → value texts_in n text gs ≡ count_by (λ path. list_any (has_domain_and_path text path) (flat gs)) texts
  of_text text n [] d a = sym (none_counted texts)
  of_text text n (g ∷ gs) d a =
      let after : differ bytes_eq (map (λ g. g.0) gs) ≡ true = grind (arith, nat_tests, d) in
      let here : list_any (bytes_eq g.0) (map (λ g. g.0) gs) ≡ false = grind (arith, nat_tests, d) in
      let all : List ℕ → Bool = λ path. list_any (has_domain_and_path text path) (flat (g ∷ gs)) in
      let split : (path : List ℕ) → all path ≡ (list_any (has_domain_and_path text path) (flat_paths g.1) || list_any (has_domain_and_path text path) (flat gs)) =
      λ path. any_append (has_domain_and_path text path) (flat_paths g.1) (flat gs) in
      elim (bool_cases (bytes_eq text g.0)) [
        | inl e ↦
            let same : g.0 ≡ text = sym ((bytes_eq-Decides text g.0).0 e) in
            let apart : list_any (bytes_eq text) (map (λ g. g.0) gs) ≡ false = subst (λ x. list_any (bytes_eq x) (map (λ g. g.0) gs) ≡ false) same here in
            rw e (counts_alike (λ path. is_some (group_position path g.1)) all (λ path. in_domain text g.0 path g.1 a.0.1.1 e
            ∙ sym (split path ∙ or_none (list_any (has_domain_and_path text path) (flat_paths g.1)) (list_any (has_domain_and_path text path) (flat gs)) (not_in_groups text path gs a.1 apart))) texts)
        | inr e ↦
            rw e (of_text text (n + 1) gs after a.1
            ∙ counts_alike (λ path. list_any (has_domain_and_path text path) (flat gs)) all (λ path. sym (split path ∙ rw (not_in_domain text g.0 path g.1 a.0.1.1 e) refl)) texts)
      ]

pub pairs_are : (url : Parts) (gs : DomainGroups) → AreGroups gs → how_many_pairs_found gs (candidate_paths url.path) (url_candidate_domains url) ≡ paths_found url (flat gs)
pairs_are url gs a =
    let texts = candidate_paths url.path in
    sum_alike (paths_at_domain gs texts) (λ domain. count_by (λ path. list_any (has_domain_and_path domain path) (flat gs)) texts)
    (λ text. at_value texts gs text ∙ of_text texts text 0 gs a.0 a.1) (url_candidate_domains url)
