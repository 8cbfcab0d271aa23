-- The roots of hosts, and of the domains that cover them.
use Rattle.std.proofs.Common.{◌≡◌, ℕ, ◌-◌, true, false, not, ◌&&◌, ◌||◌, eqb, List, [], ◌∷◌, ◌++◌, append_assoc, length, nat_eq, take, ◌⊎◌, ⊎_elim, inl, inr, ◌∙◌, refl, sym, ap, subst}
use Rattle.std.specs.List.{ends_with, filter, list_any}
use Rattle.std.specs.Str.{bytes_eq}
use Rattle.std.proofs.lemmas.Bool.{and_from, and_left, and_parts, and_right, both_ways, cases_Bool, cond-false, cond-true, cond_both, eqb-true, not-true, not_from_false, or_cases, or_left, or_parts, or_right}
use Rattle.std.proofs.lemmas.Bool.Decides.{Decides-eqb}
use Rattle.std.proofs.lemmas.List.Elements.{filter-append}
use Rattle.std.proofs.lemmas.List.Folds.{list_any-append}
use Rattle.std.proofs.lemmas.Slice.Eq.{bytes_eq-Decides, ends_is}
use Rattle.cookie_psl.specs.Rules.{RuleList}
use Rattle.cookie_parts.specs.Hosts.{covers, is_host_name, is_ipv4, Covers}
use Rattle.cookie_laws.specs.Related.{after_dots}
use Rattle.cookie_core.specs.Overlaid.{are_related}
use Rattle.cookie_strict.specs.Roots.{is_registrable, last_or, root_of}
use Rattle.cookie_strict.specs.Shards.{is_below_ipv4, is_beside}

-- a domain that passes the test covers the host
front-ends_with : (text end : List ℕ) → ends_with nat_eq text end ≡ true → (prefix : List ℕ) × (text ≡ prefix ++ end)
front-ends_with text end is =
    (take (length text - length end) text, (ends_is Decides-eqb text end (ends_with nat_eq text end) refl).0 is)

pub Covers-covers : (domain host : List ℕ) → covers domain host ≡ true → Covers domain host
Covers-covers domain host is =
    ⊎_elim (λ same. inl ((bytes_eq-Decides domain host).0 same))
    (λ below.
    let parts = and_parts _ _ below in
    inr (parts.1, front-ends_with host (46 ∷ domain) parts.0))
    (or_cases (bytes_eq domain host) _ is)

-- what covers a domain covers the hosts that the domain covers
pub Covers-trans : (site domain host : List ℕ) → Covers site domain → Covers domain host → Covers site host
Covers-trans site domain host (inl same) below = subst (λ text. Covers text host) (sym same) below
Covers-trans site domain host (inr upper) (inl same) = subst (Covers site) same (inr upper)
Covers-trans site domain host (inr (named, (first, is))) (inr (own, (second, at))) =
    inr (own, (second ++ 46 ∷ first, at ∙ ap (λ text. second ++ 46 ∷ text) is ∙ sym (append_assoc second (46 ∷ first) (46 ∷ site))))

-- the domain follows a dot of the host
abbrev pub Follows : List ℕ → List ℕ → Type 0
Follows domain host = (prefix : List ℕ) × (host ≡ prefix ++ 46 ∷ domain)

-- two domains that follow dots of one host are equal, or one follows a dot of the other
follows-compare : (a b prefix other : List ℕ) → prefix ++ 46 ∷ a ≡ other ++ 46 ∷ b → (a ≡ b) ⊎ Follows a b ⊎ Follows b a
follows-compare a b [] [] same = inl (let tails : a ≡ b = cc in tails)
follows-compare a b [] (c ∷ other) same = inr (inr (other, let tails : a ≡ other ++ 46 ∷ b = cc in tails))
follows-compare a b (c ∷ prefix) [] same = inr (inl (prefix, let tails : b ≡ prefix ++ 46 ∷ a = cc in tails))
follows-compare a b (c ∷ prefix) (d ∷ other) same =
    follows-compare a b prefix other (let tails : prefix ++ 46 ∷ a ≡ other ++ 46 ∷ b = cc in tails)

-- what follows the dots of a host that ends with a domain: longer names, the domain, and what follows its own dots
after_dots-follows : (prefix domain : List ℕ)
    → (longer : List (List ℕ)) × (after_dots (prefix ++ 46 ∷ domain) ≡ longer ++ domain ∷ after_dots domain)
after_dots-follows [] domain = ([], refl)
after_dots-follows (b ∷ prefix) domain =
    let rest = prefix ++ 46 ∷ domain in
    let (longer, same) = after_dots-follows prefix domain in
    cond_both (eqb b 46) (rest ∷ after_dots rest) (after_dots rest)
    (λ texts. (longer : List (List ℕ)) × (texts ≡ longer ++ domain ∷ after_dots domain))
    (λ _. (rest ∷ longer, ap (λ texts. rest ∷ texts) same))
    (λ _. (longer, same))

-- what follows a dot of a host that does not lie below an IPv4 address is a host name, and does not either
follows-name : (domain host : List ℕ) → is_host_name host ≡ true → is_below_ipv4 host ≡ false → Follows domain host
    → (is_host_name domain ≡ true) × (is_below_ipv4 domain ≡ false)
unfolding is_host_name
follows-name domain host named above (prefix, at) =
    let (longer, same) = after_dots-follows prefix domain in
    let has_colon = list_any (λ b. eqb b 58) in
    let host_colon : has_colon host ≡ false = not-true (has_colon host) (and_parts (not (has_colon host)) (not (is_ipv4 host)) named).0 in
    let colon : has_colon domain ≡ false =
    (or_parts (has_colon prefix) (has_colon domain) (sym (list_any-append (λ b. eqb b 58) prefix (46 ∷ domain)) ∙ ap has_colon (sym at) ∙ host_colon)).1 in
    let later : (is_ipv4 domain || list_any is_ipv4 (after_dots domain)) ≡ false =
    (or_parts (list_any is_ipv4 longer) _ (sym (list_any-append is_ipv4 longer (domain ∷ after_dots domain)) ∙ ap (list_any is_ipv4) (sym same)
    ∙ ap is_below_ipv4 (sym at) ∙ above)).1 in
    let parts = or_parts (is_ipv4 domain) (list_any is_ipv4 (after_dots domain)) later in
    (and_from (not (has_colon domain)) (not (is_ipv4 domain)) (not_from_false _ colon) (not_from_false _ parts.0), parts.1)

-- `Covers` passes the test
pub covers-Covers : (domain host : List ℕ) → Covers domain host → covers domain host ≡ true
covers-Covers domain host (inl same) = or_left (bytes_eq domain host) _ ((bytes_eq-Decides domain host).1 same)
covers-Covers domain host (inr (named, (prefix, at))) =
    or_right (bytes_eq domain host) (ends_with nat_eq host (46 ∷ domain) && is_host_name host)
    (and_from _ _ ((ends_is Decides-eqb host (46 ∷ domain) (ends_with nat_eq host (46 ∷ domain)) refl).1 prefix at) named)

-- the last of two lists in a row
last_or-append : (other : List ℕ) (xs : List (List ℕ)) (x : List ℕ) (ys : List (List ℕ)) → last_or other (xs ++ x ∷ ys) ≡ last_or x ys
last_or-append other [] x ys = refl
last_or-append other (z ∷ xs) x ys = last_or-append z xs x ys

module _ (rules : RuleList) where
  -- the root of a host name
  root-name : (host : List ℕ) → is_host_name host ≡ true → root_of rules host ≡ last_or host (filter (is_registrable rules) (after_dots host))
  root-name host named = cond-true (is_host_name host) _ host named

  -- a host name that is no public suffix has the root of each host that it covers
  pub root-covers : (domain host : List ℕ) → is_host_name domain ≡ true → is_registrable rules domain ≡ true → Covers domain host
      → root_of rules domain ≡ root_of rules host
  root-covers domain host name known (inl same) = ap (root_of rules) same
  root-covers domain host name known (inr (named, (prefix, at))) =
      let test = is_registrable rules in
      let (longer, same) = after_dots-follows prefix domain in
      let kept : filter test (after_dots host) ≡ filter test longer ++ domain ∷ filter test (after_dots domain) =
      ap (λ text. filter test (after_dots text)) at ∙ ap (filter test) same ∙ filter-append test longer (domain ∷ after_dots domain)
      ∙ ap (λ texts. filter test longer ++ texts) (cond-true (test domain) (domain ∷ filter test (after_dots domain)) _ known) in
      root-name domain name
      ∙ sym (root-name host named ∙ ap (last_or host) kept ∙ last_or-append host (filter test longer) domain (filter test (after_dots domain)))

  -- the host, or what follows one of its dots and is no public suffix
  abbrev IsAbove : List ℕ → List ℕ → Type 0
  IsAbove domain host = (domain ≡ host) ⊎ (Follows domain host × (is_registrable rules domain ≡ true))

  last_or-above : (host found prefix rest : List ℕ) → host ≡ prefix ++ rest → IsAbove found host
      → IsAbove (last_or found (filter (is_registrable rules) (after_dots rest))) host
  last_or-above host found prefix [] at above = above
  last_or-above host found prefix (b ∷ rest) at above =
      let test = is_registrable rules in
      let next : host ≡ (prefix ++ b ∷ []) ++ rest = at ∙ sym (append_assoc prefix (b ∷ []) rest) in
      let later = filter test (after_dots rest) in
      let keep = λ (text : List ℕ) (is : IsAbove text host). last_or-above host text (prefix ++ b ∷ []) rest next is in
      cond_both (eqb b 46) (rest ∷ after_dots rest) (after_dots rest) (λ texts. IsAbove (last_or found (filter test texts)) host)
      (λ dot. cond_both (test rest) (rest ∷ later) later (λ texts. IsAbove (last_or found texts) host)
      (λ known. keep rest (inr ((prefix, at ∙ ap (λ c. prefix ++ c ∷ rest) (eqb-true b 46 dot)), known)))
      (λ _. keep found above))
      (λ _. keep found above)

  -- so is the root of a host name
  root-above : (host : List ℕ) → is_host_name host ≡ true → IsAbove (root_of rules host) host
  root-above host named =
      subst (λ root. IsAbove root host) (sym (root-name host named)) (last_or-above host host [] host refl (inl refl))

  -- the root of an IP address
  root-address : (host : List ℕ) → is_host_name host ≡ false → root_of rules host ≡ host
  root-address host address = cond-false (is_host_name host) _ host address

  -- the root of a host covers it
  pub root-Covers : (host : List ℕ) → Covers (root_of rules host) host
  root-Covers host =
      ⊎_elim
      (λ named. ⊎_elim (λ same. inl same) (λ follows. inr (named, follows.0)) (root-above host named))
      (λ address. inl (root-address host address))
      (cases_Bool (is_host_name host))

  -- the domain is the host, or covers it and is no public suffix
  abbrev pub IsOwnDomain : List ℕ → List ℕ → Type 0
  IsOwnDomain host domain = (domain ≡ host) ⊎ ((is_registrable rules domain ≡ true) × Covers domain host)

  -- such a domain has the root of the host
  pub own-root : (host domain : List ℕ) → is_below_ipv4 host ≡ false → IsOwnDomain host domain → root_of rules domain ≡ root_of rules host
  own-root host domain above (inl same) = ap (root_of rules) same
  own-root host domain above (inr (known, inl same)) = ap (root_of rules) same
  own-root host domain above (inr (known, inr (named, follows))) =
      root-covers domain host (follows-name domain host named above follows).0 known (inr (named, follows))

  pub own-above : (host domain : List ℕ) → is_below_ipv4 host ≡ false → IsOwnDomain host domain → is_below_ipv4 domain ≡ false
  own-above host domain above (inl same) = ap is_below_ipv4 same ∙ above
  own-above host domain above (inr (known, inl same)) = ap is_below_ipv4 same ∙ above
  own-above host domain above (inr (known, inr (named, follows))) = (follows-name domain host named above follows).1

  related : (a b : List ℕ) → Covers a b ⊎ Covers b a → are_related a b ≡ true
  related a b (inl first) = or_left (covers a b) (covers b a) (covers-Covers a b first)
  related a b (inr second) = or_right (covers a b) (covers b a) (covers-Covers b a second)

  -- what is related to a domain is related to the domain's root
  related-root : (domain other : List ℕ) → is_below_ipv4 domain ≡ false → Covers other domain ⊎ Covers domain other → Covers (root_of rules domain) domain
      → are_related other (root_of rules domain) ≡ true
  related-root domain other above is (inl same) =
      related other (root_of rules domain) (subst (λ text. Covers other text ⊎ Covers text other) (sym same) is)
  related-root domain other above (inr below) root = related other (root_of rules domain) (inr (Covers-trans (root_of rules domain) domain other root below))
  related-root domain other above (inl (inl same)) root = related other (root_of rules domain) (inr (subst (Covers (root_of rules domain)) (sym same) root))
  related-root domain other above (inl (inr (named, follows))) (inr (_, root_follows)) =
      let root = root_of rules domain in
      related other root
      (⊎_elim (λ same. inl (inl same))
      (⊎_elim (λ below. inl (inr ((follows-name root domain named above root_follows).0, below)))
      (λ above_it. inr (inr ((follows-name other domain named above follows).0, above_it))))
      (follows-compare other root follows.0 root_follows.0 (sym follows.1 ∙ root_follows.1)))

  -- a domain that is related to one of this root, and not beside the root, has the root
  pub related-same : (root domain other : List ℕ) → root_of rules domain ≡ root → is_below_ipv4 domain ≡ false → are_related other domain ≡ true
      → is_beside rules root other ≡ false → bytes_eq root (root_of rules other) ≡ true
  related-same root domain other is above are beside =
      let covering = ⊎_elim (λ c. inl (Covers-covers other domain c)) (λ c. inr (Covers-covers domain other c))
      (or_cases (covers other domain) (covers domain other) are) in
      let near : are_related other root ≡ true =
      ap (are_related other) (sym is) ∙ related-root domain other above covering (root-Covers domain) in
      ⊎_elim (λ same. same)
      (λ differs. absurd (both_ways (is_beside rules root other) beside
      (and_from (are_related other root) (not (bytes_eq root (root_of rules other))) near (not_from_false _ differs))))
      (cases_Bool (bytes_eq root (root_of rules other)))

  -- the domain of a cookie from a host that is not beside a root is not beside it either
  pub beside-own : (url_host host domain : List ℕ) → is_below_ipv4 host ≡ false → IsOwnDomain host domain
      → is_beside rules (root_of rules url_host) host ≡ false → is_beside rules (root_of rules url_host) domain ≡ false
  beside-own url_host host domain above (inl same) away = ap (is_beside rules (root_of rules url_host)) same ∙ away
  beside-own url_host host domain above (inr (known, inl same)) away = ap (is_beside rules (root_of rules url_host)) same ∙ away
  beside-own url_host host domain above (inr (known, inr (named, follows))) away =
      let root = root_of rules url_host in
      let own = root-covers domain host (follows-name domain host named above follows).0 known (inr (named, follows)) in
      let name = (follows-name domain host named above follows).0 in
      let differ = λ (d : List ℕ). not (bytes_eq root (root_of rules d)) in
      ⊎_elim
      (λ near. ⊎_elim
      (λ covered.
      let same : root_of rules domain ≡ root =
      root-covers domain url_host name known (Covers-trans domain root url_host (Covers-covers domain root covered) (root-Covers url_host)) in
      and_right (are_related domain root) (differ domain) (ap not ((bytes_eq-Decides root (root_of rules domain)).1 (sym same))))
      (λ below.
      let host_near : are_related host root ≡ true =
      related host root (inr (Covers-trans root domain host (Covers-covers root domain below) (inr (named, follows)))) in
      ap (λ b. b && differ domain) near ∙ ap (λ r. not (bytes_eq root r)) own ∙ ap (λ b. b && differ host) (sym host_near) ∙ away)
      (or_cases (covers domain root) (covers root domain) near))
      (λ apart. and_left (are_related domain root) (differ domain) apart)
      (cases_Bool (are_related domain root))

  -- a domain that covers a host has its root, if it is no public suffix or no host name
  covering-root : (domain host : List ℕ) → is_below_ipv4 host ≡ false → (is_host_name domain ≡ true → is_registrable rules domain ≡ true)
      → Covers domain host → root_of rules domain ≡ root_of rules host
  covering-root domain host above known (inl same) = ap (root_of rules) same
  covering-root domain host above known (inr (named, follows)) =
      let name = (follows-name domain host named above follows).0 in
      root-covers domain host name (known name) (inr (named, follows))

  -- a host that the root of another covers has this root, if neither is a public suffix
  covered-root : (host other : List ℕ) → is_below_ipv4 other ≡ false → (is_host_name host ≡ true → is_registrable rules host ≡ true)
      → is_host_name other ≡ true → Follows (root_of rules host) other → root_of rules other ≡ root_of rules host
  covered-root host other above known named follows =
      let root = root_of rules host in
      let name : is_host_name root ≡ true = (follows-name root other named above follows).0 in
      ⊎_elim
      (λ own. ⊎_elim
      (λ same.
      let own_known : is_registrable rules root ≡ true = ap (is_registrable rules) same ∙ known own in
      sym (root-covers root other name own_known (inr (named, follows))) ∙ ap (root_of rules) same)
      (λ found.
      sym (root-covers root other name found.1 (inr (named, follows))) ∙ root-covers root host name found.1 (inr (own, found.0)))
      (root-above host own))
      (λ address. absurd (both_ways (is_host_name host) address (ap is_host_name (sym (root-address host address)) ∙ name)))
      (cases_Bool (is_host_name host))

  -- so no host that is no public suffix is beside the root of one
  pub beside-none : (host other : List ℕ) → is_below_ipv4 host ≡ false → is_below_ipv4 other ≡ false
      → (is_host_name host ≡ true → is_registrable rules host ≡ true) → (is_host_name other ≡ true → is_registrable rules other ≡ true)
      → is_beside rules (root_of rules host) other ≡ false
  beside-none host other above other_above known other_known =
      let root = root_of rules host in
      let differs = not (bytes_eq root (root_of rules other)) in
      let by_root : root_of rules other ≡ root → is_beside rules root other ≡ false = λ same.
      and_right (are_related other root) differs (ap not ((bytes_eq-Decides root (root_of rules other)).1 (sym same))) in
      let covering : Covers other root → is_beside rules root other ≡ false = λ covers.
      by_root (covering-root other host above other_known (Covers-trans other root host covers (root-Covers host))) in
      ⊎_elim
      (λ near. ⊎_elim (λ first. covering (Covers-covers other root first))
      (λ second. ⊎_elim (λ same. covering (inl (sym same)))
      (λ below. by_root (covered-root host other other_above known below.0 below.1))
      (Covers-covers root other second))
      (or_cases (covers other root) (covers root other) near))
      (λ apart. and_left (are_related other root) differs apart)
      (cases_Bool (are_related other root))
