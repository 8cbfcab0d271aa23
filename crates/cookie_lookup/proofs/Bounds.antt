-- How many domains are found, and how many lookups of them there are.
use Rattle.std.proofs.Common.{◌≡◌, ℕ, suc, ◌+◌, ◌*◌, ◌^◌, ◌<◌, ◌≤◌, Bool, true, false, cond, List, [], ◌∷◌, length, Option, Some, None, refl, sym, ◌∙◌, ap, inl, inr, eqb, bytes_eq, arith}
use Rattle.std.specs.Prelude.{is_some, option_map, count_by}
use Rattle.std.specs.List.{AllByRecursion, list_any}
use Rattle.std.proofs.lemmas.List.Sums.{sum_by-cons}
use Rattle.std.proofs.Math.Nat.{mul-le-mul_left, mul-le-mul_right}
use Rattle.url.specs.Parts.{Parts}
use Rattle.cookie_parts.specs.Cookie.{Row}
use Rattle.cookie_parts.specs.Hosts.{host_of}
use Rattle.cookie_lookup.specs.Groups.{PathGroups, DomainGroups, flat_paths, flat, HasDomainAndPath, Filled, ArePaths, AreGroups}
use Rattle.cookie_lookup.specs.SearchView.{group_position, how_many_found, domains_found, has_domain}
use Rattle.cookie_lookup.specs.Candidates.{url_candidate_domains, dots, slashes, most_domains}
use Rattle.cookie_lookup.proofs.CandidateCuts.{bool_cases}
use Rattle.cookie_lookup.proofs.CandidatePaths.{any_append}

-- a count in a string is at most its length, so the numbers of lookups stay below 2 ^ 128
pub counted : {T : Type 0} (p : T → Bool) (text : List T) → count_by p text ≤ length text
counted p [] = omega arith
counted p (b ∷ bs) = omega (arith, sum_by-cons (λ x. cond (p x) 1 0) b bs, below (p b), counted p bs)
  where
    below : (b : Bool) → cond {A = ℕ} b 1 0 ≤ 1
    below true = omega arith
    below false = omega arith

pub paths_fit : (host path : List ℕ) (paths : ℕ) → paths ≡ 0 → length host < 2 ^ 63 → length path < 2 ^ 63
    → paths + (1 + dots host) * (1 + 2 * slashes path) < 2 ^ 128
paths_fit host path paths none h p =
    let d : 1 + dots host ≤ 2 ^ 63 = omega (arith, counted (λ b. eqb b 46) host, h) in
    let s : 1 + 2 * slashes path ≤ 2 ^ 64 = omega (arith, counted (λ b. eqb b 47) path, p) in
    let first : (1 + dots host) * (1 + 2 * slashes path) ≤ 2 ^ 63 * (1 + 2 * slashes path) = mul-le-mul_right (1 + 2 * slashes path) d in
    let most = mul-le-mul_left (2 ^ 63) s in
    omega (arith, none, first, most)

pub domains_most : (url : Parts) (host : List ℕ) (old new : ℕ) → Some host ≡ host_of url → old ≡ 0 → new ≤ old + (1 + dots host) → new ≤ most_domains url
domains_most url host old new e o h = rw (most_domains, ← e) (omega (arith, o, h))

-- rows of one domain have this one if and only if it is theirs
of_rows : (text domain path : List ℕ) (rows : List Row) → AllByRecursion (HasDomainAndPath domain path) rows → list_any (has_domain text) rows ≡ cond (bytes_eq text domain) (list_any (λ _. true) rows) false
of_rows text domain path [] a = elim (bool_cases (bytes_eq text domain)) [ inl e ↦ rw e refl | inr e ↦ rw e refl ]
of_rows text domain path (row ∷ rows) a =
    let same : has_domain text row ≡ bytes_eq text domain = ap (bytes_eq text) a.0.0 in
    elim (bool_cases (bytes_eq text domain)) [
      | inl e ↦ rw (same, e) refl
      | inr e ↦ rw (same, e) (of_rows text domain path rows a.1 ∙ rw e refl)
    ]

-- none of another domain's
not_of_paths : (text domain : List ℕ) (paths : PathGroups) → Filled domain paths → bytes_eq text domain ≡ false → list_any (has_domain text) (flat_paths paths) ≡ false
not_of_paths text domain [] a e = refl
not_of_paths text domain (p ∷ ps) a e =
    any_append (has_domain text) p.1 (flat_paths ps)
    ∙ rw (of_rows text domain p.0 p.1 a.0.1, e, not_of_paths text domain ps a.1 e) refl

-- one of its own
some_of_rows : (text domain path : List ℕ) (rows : List Row) → 0 < length rows → AllByRecursion (HasDomainAndPath domain path) rows → bytes_eq text domain ≡ true → list_any (has_domain text) rows ≡ true
some_of_rows text domain path [] h a e = absurd (omega (arith, h))
some_of_rows text domain path (row ∷ rows) h a e =
    let same : has_domain text row ≡ true = ap (bytes_eq text) a.0.0 ∙ e in
    rw same refl

some_of_paths : (text domain : List ℕ) (paths : PathGroups) → 0 < length paths → Filled domain paths → bytes_eq text domain ≡ true → list_any (has_domain text) (flat_paths paths) ≡ true
some_of_paths text domain [] h a e = absurd (omega (arith, h))
some_of_paths text domain (p ∷ ps) h a e =
    any_append (has_domain text) p.1 (flat_paths ps) ∙ rw (some_of_rows text domain p.0 p.1 a.0.0 a.0.1 e) refl

pub some_later : (o : Option ℕ) → is_some (option_map suc o) ≡ is_some o
some_later None = refl
some_later (Some n) = refl

-- a domain has a group if and only if a row has that domain
pub found_where : (text : List ℕ) (gs : DomainGroups) → AllByRecursion (λ g. (0 < length g.1) × ArePaths g.0 g.1) gs → is_some (group_position text gs) ≡ list_any (has_domain text) (flat gs)
found_where text [] a = refl
found_where text (g ∷ gs) a =
    let split = any_append (has_domain text) (flat_paths g.1) (flat gs) in
    elim (bool_cases (bytes_eq text g.0)) [
      | inl e ↦ rw e (sym (split ∙ rw (some_of_paths text g.0 g.1 a.0.0 a.0.1.1 e) refl))
      | inr e ↦ rw e (some_later (group_position text gs) ∙ found_where text gs a.1 ∙ sym (split ∙ rw (not_of_paths text g.0 g.1 a.0.1.1 e) refl))
    ]

pub counts_alike : {T : Type 0} (p q : T → Bool) → ((t : T) → p t ≡ q t) → (ts : List T) → count_by p ts ≡ count_by q ts
counts_alike p q e [] = refl
counts_alike p q e (t ∷ ts) =
    sum_by-cons (λ y. cond (p y) 1 0) t ts ∙ ap (λ b. cond b 1 0 + count_by p ts) (e t) ∙ ap (λ n. cond (q t) 1 0 + n) (counts_alike p q e ts) ∙ sym (sum_by-cons (λ y. cond (q y) 1 0) t ts)

pub found_are : (url : Parts) (gs : DomainGroups) → AreGroups gs → how_many_found gs (url_candidate_domains url) ≡ domains_found url (flat gs)
found_are url gs a = counts_alike (λ text. is_some (group_position text gs)) (λ text. list_any (has_domain text) (flat gs)) (λ text. found_where text gs a.1) (url_candidate_domains url)
