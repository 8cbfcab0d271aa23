-- Runs under the rules, and those of the calls of one root.
use Rattle.std.proofs.Common.{◌≡◌, ℕ, Bool, true, false, ◌&&◌, List, [], ◌∷◌, get_or, Option, Some, None, ◌⊎◌, ⊎_elim, inl, inr, ◌∙◌, refl, sym, ap, subst, arith}
use Rattle.std.specs.Prelude.{◌==◌}
use Rattle.std.specs.List.{All, filter, list_any}
use Rattle.std.proofs.lemmas.Bool.{and_cases, and_parts, cond-false, cond-true, cond_both, or_parts}
use Rattle.std.proofs.lemmas.List.Elements.{All-filter, filter_passes, All-nil}
use Rattle.std.proofs.lemmas.Slice.Eq.{bytes_eq-Decides}
use Rattle.url.specs.Parts.{Parts}
use Rattle.cookie_words.specs.Moments.{Moment}
use Rattle.cookie_psl.specs.Rules.{RuleList}
use Rattle.cookie_parts.specs.Cookie.{Row}
use Rattle.cookie_parts.specs.Domain.{domain_text, is_for_host}
use Rattle.cookie_parts.specs.Hosts.{host_of, passes}
use Rattle.cookie_laws.specs.Confinement.{Offers, WasAccepted}
use Rattle.cookie_laws.specs.Contents.{Contents}
use Rattle.cookie_laws.specs.Given.{given, is_given}
use Rattle.cookie_laws.specs.Related.{passes_or_none}
use Rattle.cookie_laws.specs.Restricted.{is_row_of}
use Rattle.cookie_laws.specs.Runs.{Call, rows_after, store_after}
use Rattle.cookie_strict.specs.Roots.{root_of}
use Rattle.cookie_strict.specs.Shards.{call_host, is_below_ipv4, is_for_root, is_for_shard, is_insecure_at, is_secure_beside}
use Rattle.cookie_strict.specs.SiteRule.{is_above_site}
use Rattle.cookie_strict.specs.StrictRuns.{allowed_calls, store_after_call, strict_call, strict_reply, strict_replies_to, strict_store_after}
use Rattle.cookie_strict.proofs.AllowedCalls.{proper_at, store_after_call-suffixes}
use Rattle.cookie_strict.proofs.RootsOfDomains.{own-root}
use Rattle.cookie_strict.proofs.ShardSteps.{call-apart, call-kept, call-other, has_root, own-domain, part, IsApart, IsSafeCall, Laws}
use Rattle.cookie_strict.proofs.SiteCookies.{offered-site, put_domain}

-- a filter of a filter that keeps no less
filter-within : {T : Type 0} (p test : T → Bool) → ((x : T) → test x ≡ true → p x ≡ true) → (xs : List T) → filter test (filter p xs) ≡ filter test xs
filter-within p test kept [] = refl
filter-within p test kept (x ∷ xs) = grind (arith, kept x, filter-within p test kept xs)

-- if nothing passes, nothing does after a filter
none-filter : {T : Type 0} (p test : T → Bool) (xs : List T) → list_any p xs ≡ false → list_any p (filter test xs) ≡ false
none-filter p test [] none = refl
none-filter p test (x ∷ xs) none = grind (arith, none-filter p test xs)

-- a call below an IPv4 address
abbrev is_call_below : Call → Bool
is_call_below call = passes is_below_ipv4 (call_host call)

module _ (rules : RuleList) (url_host : List ℕ) (laws : Laws rules (root_of rules url_host)) where
  abbrev root : List ℕ
  root = root_of rules url_host

  abbrev after : Call → Contents → Contents
  after call store = store_after_call (strict_call call store) store

  abbrev own : List Call → List Call
  own calls = filter (is_for_root rules root) calls

  abbrev own_part : Contents → Contents
  own_part store = part rules url_host laws store

  -- no insecure insertion at the root, or no secure one and no Secure row beside it
  abbrev pub IsSafeRun : List Call → List Row → Type 0
  IsSafeRun calls rows =
      (list_any (is_insecure_at rules root) calls ≡ false)
      ⊎ ((list_any (is_secure_beside rules root) calls ≡ false) × All (IsApart rules root) rows)

  -- of the first call, and of the later ones
  safe_first : (call : Call) (calls : List Call) (rows : List Row) → IsSafeRun (call ∷ calls) rows → IsSafeCall rules url_host laws call rows
  safe_first call calls rows (inl none) = inl (or_parts (is_insecure_at rules root call) _ none).0
  safe_first call calls rows (inr (none, all)) = inr all

  safe_later : (call : Call) (calls : List Call) (store : Contents) → store.suffixes ≡ Some rules → is_call_below call ≡ false
      → IsSafeRun (call ∷ calls) store.rows → IsSafeRun calls (after call store).rows
  safe_later call calls store list above (inl none) = inl (or_parts (is_insecure_at rules root call) _ none).1
  safe_later call calls store list above (inr (none, all)) =
      let parts = or_parts (is_secure_beside rules root call) (list_any (is_secure_beside rules root) calls) none in
      inr (parts.1, call-apart rules url_host laws call store list above parts.0 all)

  -- the rows of the root after a run are those after the calls of the root, and so are the replies to these
  run : (calls : List Call) (store : Contents) → store.suffixes ≡ Some rules → list_any is_call_below calls ≡ false → IsSafeRun calls store.rows
      → (own_part (strict_store_after calls store) ≡ strict_store_after (own calls) (own_part store))
      × (strict_replies_to (is_for_root rules root) calls store ≡ strict_replies_to (is_for_root rules root) (own calls) (own_part store))
  run [] store list above safe = (refl, refl)
  run (call ∷ calls) store list above safe =
      let test = is_for_root rules root in
      let parts = or_parts (is_call_below call) (list_any is_call_below calls) above in
      let first = safe_first call calls store.rows safe in
      let next = after call store in
      let later = run calls next (store_after_call-suffixes (strict_call call store) store ∙ list) parts.1 (safe_later call calls store list parts.0 safe) in
      cond_both (test call) (call ∷ own calls) (own calls)
      (λ zs. (own_part (strict_store_after calls next) ≡ strict_store_after zs (own_part store))
      × (strict_replies_to test (call ∷ calls) store ≡ strict_replies_to test zs (own_part store)))
      (λ kept.
      let (same, replied) = call-kept rules url_host laws call store list parts.0 first kept in (
        later.0 ∙ ap (strict_store_after (own calls)) (sym same),
        cond-true (test call) (strict_reply call store ∷ strict_replies_to test calls next) _ kept
            ∙ (λ i. sym replied i ∷ (later.1 ∙ ap (strict_replies_to test (own calls)) (sym same)) i)
            ∙ sym (cond-true (test call) (strict_reply call (own_part store) ∷ strict_replies_to test (own calls) (after call (own_part store))) _ kept),
      ))
      (λ lost.
      let same = call-other rules url_host laws call store list parts.0 first lost in (
        later.0 ∙ ap (strict_store_after (own calls)) same,
        cond-false (test call) _ (strict_replies_to test calls next) lost ∙ later.1 ∙ ap (strict_replies_to test (own calls)) same,
      ))

  -- a filter of calls that keeps those of the root changes nothing there

  safe-filter : (keeps : Call → Bool) (calls : List Call) (rows : List Row) → IsSafeRun calls rows → IsSafeRun (filter keeps calls) rows
  safe-filter keeps calls rows (inl none) = inl (none-filter (is_insecure_at rules root) keeps calls none)
  safe-filter keeps calls rows (inr (none, all)) = inr (none-filter (is_secure_beside rules root) keeps calls none, all)

  module _ (keeps : Call → Bool) (kept : (call : Call) → is_for_root rules root call ≡ true → keeps call ≡ true) (calls : List Call) (store : Contents)
      (list : store.suffixes ≡ Some rules) (above : list_any is_call_below calls ≡ false) (safe : IsSafeRun calls store.rows) where
    alone : (own_part (strict_store_after (filter keeps calls) store) ≡ strict_store_after (own (filter keeps calls)) (own_part store))
        × (strict_replies_to (is_for_root rules root) (filter keeps calls) store
        ≡ strict_replies_to (is_for_root rules root) (own (filter keeps calls)) (own_part store))
    alone = run (filter keeps calls) store list (none-filter is_call_below keeps calls above) (safe-filter keeps calls store.rows safe)

    pub same_part : own_part (strict_store_after calls store) ≡ own_part (strict_store_after (filter keeps calls) store)
    same_part =
        (run calls store list above safe).0
        ∙ ap (λ zs. strict_store_after zs (own_part store)) (sym (filter-within keeps (is_for_root rules root) kept calls))
        ∙ sym alone.0

    pub same_replies : strict_replies_to (is_for_root rules root) calls store ≡ strict_replies_to (is_for_root rules root) (filter keeps calls) store
    same_replies =
        (run calls store list above safe).1
        ∙ ap (λ zs. strict_replies_to (is_for_root rules root) zs (own_part store)) (sym (filter-within keeps (is_for_root rules root) kept calls))
        ∙ sym alone.1

-- what `IsSeparate` says of a store without rows
pub separate-safe : (rules : RuleList) (url_host : List ℕ) (laws : Laws rules (root_of rules url_host)) (calls : List Call) (rows : List Row) → rows ≡ []
    → (list_any (is_insecure_at rules (root_of rules url_host)) calls && list_any (is_secure_beside rules (root_of rules url_host)) calls) ≡ false
    → IsSafeRun rules url_host laws calls rows
separate-safe rules url_host laws calls rows empty none =
    ⊎_elim (λ first. inl first)
    (λ second. inr (second, subst (All (IsApart rules (root_of rules url_host))) (sym empty) (All-nil (IsApart rules (root_of rules url_host)))))
    (and_cases (list_any (is_insecure_at rules (root_of rules url_host)) calls) _ none)

-- the calls of the root of a host are of its shard
pub for_shard : (rules : RuleList) (shard : List ℕ → ℕ) (host : List ℕ) (call : Call) → is_for_root rules (root_of rules host) call ≡ true
    → is_for_shard rules shard (shard (root_of rules host)) call ≡ true
for_shard rules shard host call = of (call_host call)
  where
    of : (place : Option (List ℕ)) → passes_or_none (has_root rules (root_of rules host)) place ≡ true
        → passes_or_none (λ own. shard (root_of rules own) == shard (root_of rules host)) place ≡ true
    of None is = refl
    of (Some own) is =
        ap (λ root. shard root == shard (root_of rules host)) (sym ((bytes_eq-Decides (root_of rules host) (root_of rules own)).0 is))
        ∙ same_number (shard (root_of rules host))
      where
        same_number : (n : ℕ) → (n == n) ≡ true
        same_number n = grind arith

-- a row that was accepted under the rules and is given for a URL has the root of its host
accepted-own : (rules : RuleList) (url : Parts) (host : List ℕ) (now : Moment) (calls : List Call) (store : Contents) (row : Row) → store.suffixes ≡ Some rules
    → host_of url ≡ Some host → is_below_ipv4 host ≡ false → WasAccepted (allowed_calls calls store) store row → is_given url now row ≡ true
    → is_row_of (has_root rules (root_of rules host)) row ≡ true
accepted-own rules url host now calls store row list at above (place, from, accepted, ((call, there, offers), replied), put) is =
    let within : is_above_site rules accepted.domain from ≡ false =
    offered-site rules call from accepted (proper_at (Some rules) calls store place call list there)
    (subst (λ suffixes. Offers suffixes call from accepted) list offers) in
    let same : is_above_site rules row.domain from ≡ false = ap (λ d. is_above_site rules d from) (sym (put_domain accepted row put)) ∙ within in
    let matches = (and_parts _ _ (and_parts _ _ (and_parts _ _ is).0).0).1 in
    let for_url = (and_parts _ _ (and_parts _ _ (and_parts _ _ matches).0).0).0 in
    let for_host : is_for_host row.domain host ≡ true = ap (passes (is_for_host row.domain)) (sym at) ∙ for_url in
    let own = own-domain rules row.domain from host same for_host in
    (bytes_eq-Decides (root_of rules host) (root_of rules (domain_text row.domain))).1 (sym (own-root rules host (domain_text row.domain) above own))

-- so do all that are given
pub given-own : (rules : RuleList) (url : Parts) (host : List ℕ) (now : Moment) (calls : List Call) (store : Contents) → store.suffixes ≡ Some rules
    → host_of url ≡ Some host → is_below_ipv4 host ≡ false → strict_store_after calls store ≡ store_after (allowed_calls calls store) store
    → All (WasAccepted (allowed_calls calls store) store) (rows_after (allowed_calls calls store) store)
    → All (λ row. is_row_of (has_root rules (root_of rules host)) row ≡ true) (given url now (strict_store_after calls store).rows)
given-own rules url host now calls store list at above allowed all =
    let rows = (strict_store_after calls store).rows in
    let accepted : All (WasAccepted (allowed_calls calls store) store) rows =
    subst (λ (s : Contents). All (WasAccepted (allowed_calls calls store) store) s.rows) (sym allowed) all in
    λ k d within. accepted-own rules url host now calls store (get_or (given url now rows) k d) list at above
    (All-filter (is_given url now) (WasAccepted (allowed_calls calls store) store) rows accepted k d within)
    (filter_passes (is_given url now) rows k d within)
