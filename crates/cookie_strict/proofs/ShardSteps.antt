-- One call under the rules, on a store and on its rows of one root.
use Rattle.std.proofs.Common.{◌≡◌, ℕ, Bool, true, false, not, ◌&&◌, ◌||◌, List, [], ◌∷◌, ◌++◌, Option, Some, None, Result, Ok, Err, ◌⊎◌, ⊎_elim, inl, inr, ◌∙◌, refl, sym, ap, subst}
use Rattle.std.specs.Prelude.{is_some, ⊤, if◌then◌else◌}
use Rattle.std.specs.List.{All, filter, list_any}
use Rattle.std.specs.Result.{result_map_both}
use Rattle.std.specs.Str.{bytes_eq}
use Rattle.std.proofs.lemmas.Bool.{and_from, and_left, and_parts, and_right, both_ways, cases_Bool, cond_both, not-false, not-true, not_from_false}
use Rattle.std.proofs.lemmas.List.Elements.{All-head, All-nil, All-tail}
use Rattle.std.proofs.lemmas.Slice.Eq.{bytes_eq-Decides}
use Rattle.url.specs.Parts.{Parts}
use Rattle.cookie_words.specs.Moments.{Moment}
use Rattle.cookie_psl.specs.Rules.{RuleList}
use Rattle.cookie_raw.specs.Raw.{Raw}
use Rattle.cookie_parts.specs.Cookie.{Row, and_then, is_secure_only}
use Rattle.cookie_parts.specs.Domain.{DomainValue, HostOnly, Suffix, NotPresent, Empty, domain_text, is_for_host}
use Rattle.cookie_parts.specs.Hosts.{host_of, passes}
use Rattle.cookie_parts.specs.declared.cookie_error.CookieError.{CookieError}
use Rattle.cookie_parts.specs.declared.cookie_error.CookieError.TheVariants.{PublicSuffix}
use Rattle.cookie_parts.specs.declared.store_action.StoreAction.{StoreAction}
use Rattle.cookie_laws.specs.Acceptance.{accept, admitted, outcome_after_checks, reply_at}
use Rattle.cookie_laws.specs.Contents.{Contents}
use Rattle.cookie_laws.specs.Related.{passes_or_none}
use Rattle.cookie_laws.specs.Restricted.{is_call_of, is_row_of, restricted, restricted_step}
use Rattle.cookie_laws.specs.Rows.{Key, has_key, is_unexpired, key_of, removed, row_of}
use Rattle.cookie_laws.specs.Runs.{Call, Set, Insert, Remove, Clear, Reply, Step, step, store_after}
use Rattle.cookie_laws.specs.SecureLast.{evicted_by, is_full_of_secure, removals, secure_last_calls}
use Rattle.cookie_core.specs.Overlaid.{are_related, is_overlaid}
use Rattle.cookie_strict.specs.HeaderValue.{pair_error, strict_cookie}
use Rattle.cookie_strict.specs.Lifetime.{limited_cookie}
use Rattle.cookie_strict.specs.Roots.{root_of}
use Rattle.cookie_strict.specs.SecureUrl.{is_secure_url}
use Rattle.cookie_strict.specs.Shards.{call_host, is_below_ipv4, is_beside, is_for_root, is_insecure_at, is_secure_beside}
use Rattle.cookie_strict.specs.SiteRule.{admitted_by_site, by_site, is_above_site, is_registrable_suffix}
use Rattle.cookie_strict.specs.StrictRules.{breaks_prefix, broken_rule, needs_secure_flag, needs_secure_url, overlays_secure}
use Rattle.cookie_strict.specs.StrictRuns.{allowed_insertion, if_accepted, plain_calls, site_reply, store_after_call, strict_call, strict_insertion, strict_reply, unless_error}
use Rattle.cookie_strict.specs.declared.error.StrictError.{StrictError}
use Rattle.cookie_strict.specs.declared.error.StrictError.TheVariants.{Cookie, InsecureUrl, InsecureSameSiteNone, Prefix, SecureStored, SecureLimit}
use Rattle.cookie_strict.proofs.AdmittedCookies.{admitted_same, and_then_ok, passes-value}
use Rattle.cookie_strict.proofs.RootsOfDomains.{beside-own, own-above, own-root, related-same, Covers-covers, IsOwnDomain}
use Rattle.cookie_strict.proofs.SecureRows.{keeps_rules}

-- the domain has this root
abbrev pub has_root : RuleList → List ℕ → List ℕ → Bool
has_root rules root domain = bytes_eq root (root_of rules domain)

-- the row is not Secure, or its domain is not beside the root
abbrev pub is_apart : RuleList → List ℕ → Raw → Key → Bool
is_apart rules root raw key = not (is_secure_only raw && is_beside rules root key.domain)

abbrev pub IsApart : RuleList → List ℕ → Row → Type 0
IsApart rules root row = is_apart rules root row.raw (key_of row) ≡ true

-- what the laws of plain calls say of the domains that have a root, and of rows that are apart
pub record Laws (rules : RuleList) (root : List ℕ) : Type 0 where
  pub row : (key : Key) (store : Contents) → has_root rules root key.domain ≡ true
      → row_of key (restricted (has_root rules root) store).rows ≡ row_of key store.rows
  pub full : (store : Contents) (now : Moment) (key : Key) → has_root rules root key.domain ≡ true
      → is_full_of_secure (restricted (has_root rules root) store) now key ≡ is_full_of_secure store now key
  pub call : (call : Call) (store : Contents) → is_call_of (has_root rules root) call ≡ true
      → step call (restricted (has_root rules root) store) ≡ restricted_step (has_root rules root) (step call store)
  pub other_call : (call : Call) (store : Contents) → is_call_of (has_root rules root) call ≡ false
      → restricted (has_root rules root) (step call store).store ≡ restricted (has_root rules root) store
  pub secure_last : (store : Contents) (cookie : Row) (url : Parts) (now : Moment) → is_row_of (has_root rules root) cookie ≡ true
      → store_after (secure_last_calls (restricted (has_root rules root) store) cookie url now) (restricted (has_root rules root) store)
      ≡ restricted (has_root rules root) (store_after (secure_last_calls store cookie url now) store)
  pub other_secure_last : (store : Contents) (cookie : Row) (url : Parts) (now : Moment) → is_row_of (has_root rules root) cookie ≡ false
      → restricted (has_root rules root) (store_after (secure_last_calls store cookie url now) store) ≡ restricted (has_root rules root) store
  pub inserted : (store : Contents) (cookie : Row) (url : Parts) (now : Moment) → IsApart rules root cookie → All (IsApart rules root) store.rows
      → All (IsApart rules root) (accept store cookie url now).store.rows
  pub removed_row : (key : Key) (rows : List Row) → All (IsApart rules root) rows → All (IsApart rules root) (removed (has_key key) rows)

-- a cookie that is admitted by the site rule

-- it is the one that is admitted without, and is not above the site
site_same : (rules : RuleList) (url : Parts) (given stored : Row) → by_site (Some rules) url given ≡ Ok stored
    → (given ≡ stored) × (is_above_site rules given.domain url ≡ false)
site_same rules url given stored =
    cond_both (is_above_site rules given.domain url) (Err PublicSuffix) (Ok given)
    (λ r. r ≡ Ok stored → (given ≡ stored) × (is_above_site rules given.domain url ≡ false))
    (λ _ is. absurd (cc)) (λ within is. (cc, within))

-- a domain that is for a host and is not above the site of a host
pub own-domain : (rules : RuleList) (domain : DomainValue) (from : Parts) (host : List ℕ) → is_above_site rules domain from ≡ false
    → is_for_host domain host ≡ true → IsOwnDomain rules host (domain_text domain)
own-domain rules (HostOnly d) from host within is = inl ((bytes_eq-Decides d host).0 is)
own-domain rules (Suffix d) from host within is =
    let (own, at, suffix) = passes-value (is_registrable_suffix rules d) (host_of from) (not-false _ within) in
    inr ((and_parts _ _ suffix).0, Covers-covers d host is)
own-domain rules NotPresent from host within is = absurd (cc)
own-domain rules Empty from host within is = absurd (cc)

-- the URL of the cookie has a host, and the cookie's domain is the host's own
pub record IsOfHost (rules : RuleList) (cookie : Row) (url : Parts) : Type 0 where
  pub host : List ℕ
  pub at : host_of url ≡ Some host
  pub own : IsOwnDomain rules host (domain_text cookie.domain)

admitted-of_host : (rules : RuleList) (cookie stored : Row) (url : Parts) → admitted_by_site (Some rules) url cookie ≡ Ok stored
    → IsOfHost rules cookie url × (key_of stored ≡ key_of cookie)
admitted-of_host rules cookie stored url is =
    let (passed, admits, by_rule) = and_then_ok (admitted (Some rules) url cookie) (by_site (Some rules) url) stored is in
    let (one, within) = site_same rules url passed stored by_rule in
    let (same, matches) = admitted_same (Some rules) url cookie passed admits in
    let (host, at, for_host) = passes-value (is_for_host passed.domain) (host_of url) matches in
    let own = own-domain rules passed.domain url host within for_host in (
      record { host = host; at = at; own = subst (IsOwnDomain rules host) (ap (λ (k : Key). k.domain) same.key) own },
      ap key_of (sym one) ∙ same.key,
    )

-- steps

module _ (rules : RuleList) (url_host : List ℕ) (laws : Laws rules (root_of rules url_host)) where
  abbrev root : List ℕ
  root = root_of rules url_host

  -- the rows of the root
  abbrev pub part : Contents → Contents
  part store = restricted (has_root rules root) store

  -- the plain call has the same reply among these rows, and leaves the same there
  abbrev IsSameAfter : Result Call StrictError → Contents → Type 0
  IsSameAfter (Ok call) store =
      ((step call (part store)).reply ≡ (step call store).reply)
      × (store_after (plain_calls call (part store)) (part store) ≡ part (store_after (plain_calls call store) store))
  IsSameAfter (Err error) store = ⊤

  -- a call of the root does the same among these rows, and another call changes nothing there
  abbrev pub IsStep : Bool → (Contents → Result Call StrictError) → Contents → Type 0
  IsStep keeps next store =
      (keeps ≡ true → (next (part store) ≡ next store) × IsSameAfter (next store) store)
      × (keeps ≡ false → part (store_after_call (next store) store) ≡ part store)

  failed-step : (keeps : Bool) (next : Contents → Result Call StrictError) (store : Contents) (error : StrictError)
      → next (part store) ≡ Err error → next store ≡ Err error → IsStep keeps next store
  failed-step keeps next store error first second = (
    λ _. (first ∙ sym second, subst (λ r. IsSameAfter r store) (sym second) tt),
    λ _. ap (λ r. part (store_after_call r store)) second,
  )

  -- what holds of each error and of the plain call holds of what the rules make of it
  accepted-cases : (P : Result Call StrictError → Type 0) (reply : Result StoreAction CookieError) (broken : Option StrictError) (call : Call)
      → ((error : StrictError) → P (Err error)) → P (Ok call) → P (if_accepted reply broken call)
  accepted-cases P (Err error) broken call bad good = bad (Cookie error)
  accepted-cases P (Ok action) (Some error) call bad good = bad error
  accepted-cases P (Ok action) None call bad good = good

  -- no insecure insertion at the root, or no Secure row beside it
  abbrev IsSafe : Parts → List Row → Type 0
  IsSafe url rows = ((not (is_secure_url url) && passes (has_root rules root) (host_of url)) ≡ false) ⊎ All (IsApart rules root) rows

  module _ (cookie : Row) (url : Parts) (now : Moment) (of : IsOfHost rules cookie url) (above : is_below_ipv4 of.host ≡ false) where
    abbrev domain : List ℕ
    domain = domain_text cookie.domain

    domain-root : root_of rules domain ≡ root_of rules of.host
    domain-root = own-root rules of.host domain above of.own

    -- the call is of the root as the domain is
    keeps-domain : passes_or_none (has_root rules root) (host_of url) ≡ has_root rules root domain
    keeps-domain = ap (passes_or_none (has_root rules root)) of.at ∙ ap (bytes_eq root) (sym domain-root)

    module _ (here : has_root rules root domain ≡ true) where
      same-root : root_of rules domain ≡ root
      same-root = sym ((bytes_eq-Decides root (root_of rules domain)).0 here)

      -- an overlaid row that is apart has the root
      overlaid-here : (row : Row) → IsApart rules root row → is_overlaid cookie now row ≡ true → has_root rules root (domain_text row.domain) ≡ true
      overlaid-here row apart overlaid =
          let (first, second) = and_parts (is_unexpired now row && is_secure_only row.raw) _ overlaid in
          let third = (and_parts (bytes_eq row.raw.name cookie.raw.name) _ second).1 in
          let near = (and_parts (are_related (domain_text row.domain) domain) _ third).0 in
          let secure = (and_parts (is_unexpired now row) _ first).1 in
          let other = domain_text row.domain in
          let away : is_beside rules root other ≡ false =
          ap (λ b. b && is_beside rules root other) (sym secure) ∙ not-true (is_secure_only row.raw && is_beside rules root other) apart in
          related-same rules root domain other same-root (own-above rules of.host domain above of.own) near away

      any-overlaid : (rows : List Row) → All (IsApart rules root) rows
          → list_any (is_overlaid cookie now) (filter (is_row_of (has_root rules root)) rows) ≡ list_any (is_overlaid cookie now) rows
      any-overlaid [] all = refl
      any-overlaid (row ∷ rows) all =
          let later = any-overlaid rows (All-tail (IsApart rules root) row rows all) in
          let kept = filter (is_row_of (has_root rules root)) rows in
          let any = list_any (is_overlaid cookie now) in
          cond_both (is_row_of (has_root rules root) row) (row ∷ kept) kept (λ zs. any zs ≡ (is_overlaid cookie now row || any rows))
          (λ _. ap (λ b. is_overlaid cookie now row || b) later)
          (λ away. ⊎_elim
          (λ is. absurd (both_ways (is_row_of (has_root rules root) row) away (overlaid-here row (All-head (IsApart rules root) row rows all) is)))
          (λ none. later ∙ ap (λ b. b || any rows) (sym none))
          (cases_Bool (is_overlaid cookie now row)))

      overlays-same : (store : Contents) → IsSafe url store.rows → overlays_secure cookie url now (part store).rows ≡ overlays_secure cookie url now store.rows
      overlays-same store (inr all) =
          ap (λ any. (not (is_secure_only cookie.raw) && not (is_secure_url url)) && any) (any-overlaid store.rows all)
      overlays-same store (inl secure) =
          let own : passes (has_root rules root) (host_of url) ≡ true =
          ap (passes (has_root rules root)) of.at ∙ ap (bytes_eq root) (sym domain-root) ∙ here in
          let none : not (is_secure_url url) ≡ false =
          ⊎_elim (λ is. absurd (both_ways (not (is_secure_url url) && passes (has_root rules root) (host_of url)) secure (and_from _ _ is own)))
          (λ is. is) (cases_Bool (not (is_secure_url url))) in
          let first = and_right (not (is_secure_only cookie.raw)) (not (is_secure_url url)) none in
          and_left _ (list_any (is_overlaid cookie now) (part store).rows) first ∙ sym (and_left _ (list_any (is_overlaid cookie now) store.rows) first)

      -- so the cookie breaks the same rule among the rows of the root
      broken-same : (store : Contents) → IsSafe url store.rows → broken_rule cookie url now (part store) ≡ broken_rule cookie url now store
      broken-same store safe =
          let overlays = overlays-same store safe in
          let row = laws.row (key_of cookie) store here in
          let full = laws.full store now (key_of cookie) here in
          λ i.
          if needs_secure_url cookie url then Some InsecureUrl
          else (if needs_secure_flag cookie then Some InsecureSameSiteNone
          else (if breaks_prefix cookie then Some Prefix
          else (if overlays i then Some SecureStored
          else (if not (is_secure_only cookie.raw) && (full i && not (is_some (row i))) then Some SecureLimit else None))))

      reply-same : (store : Contents) (stored : Row) → store.suffixes ≡ Some rules → admitted_by_site (Some rules) url cookie ≡ Ok stored
          → key_of stored ≡ key_of cookie → site_reply cookie url now (part store) ≡ site_reply cookie url now store
      reply-same store stored list is key =
          let at : (s : Contents) → s.suffixes ≡ Some rules → site_reply cookie url now s ≡ reply_at (row_of (key_of stored) s.rows) stored url now =
          λ s listed. ap (λ suffixes. (outcome_after_checks (admitted_by_site suffixes url cookie) url now s).reply) listed
          ∙ ap (λ r. (outcome_after_checks r url now s).reply) is in
          let row = laws.row (key_of stored) store (ap (λ (k : Key). has_root rules root k.domain) key ∙ here) in
          at (part store) list ∙ ap (λ row. reply_at row stored url now) row ∙ sym (at store list)

      same-after : (store : Contents) → IsSameAfter (allowed_insertion cookie url now store) store
      same-after store =
          accepted-cases (λ r. IsSameAfter r store) (site_reply cookie url now store) (broken_rule cookie url now store) (Insert cookie url now)
          (λ _. tt)
          (ap (λ (s : Step). s.reply) (laws.call (Insert cookie url now) store here), laws.secure_last store cookie url now here)

    checked-step : (store : Contents) (stored : Row) → store.suffixes ≡ Some rules → admitted_by_site (Some rules) url cookie ≡ Ok stored
        → key_of stored ≡ key_of cookie → IsSafe url store.rows
        → IsStep (passes_or_none (has_root rules root) (host_of url)) (allowed_insertion cookie url now) store
    checked-step store stored list is key safe = (
      λ kept.
          let here = sym keeps-domain ∙ kept in
          let reply = reply-same here store stored list is key in
          let broken = broken-same here store safe in
          (λ i. if_accepted (reply i) (broken i) (Insert cookie url now), same-after here store),
      λ lost.
          accepted-cases (λ r. part (store_after_call r store) ≡ part store) (site_reply cookie url now store) (broken_rule cookie url now store)
          (Insert cookie url now)
          (λ _. refl)
          (laws.other_secure_last store cookie url now (sym keeps-domain ∙ lost)),
    )

  -- the store rejects the cookie whatever its rows are
  rejected : (cookie : Row) (url : Parts) (now : Moment) (store : Contents) (error : CookieError) → store.suffixes ≡ Some rules
      → admitted_by_site (Some rules) url cookie ≡ Err error → allowed_insertion cookie url now store ≡ Err (Cookie error)
  rejected cookie url now store error list is =
      ap (λ reply. if_accepted reply (broken_rule cookie url now store) (Insert cookie url now))
      (ap (λ suffixes. (outcome_after_checks (admitted_by_site suffixes url cookie) url now store).reply) list
      ∙ ap (λ r. (outcome_after_checks r url now store).reply) is)

  insertion-by : (checked : Result Row CookieError) (cookie : Row) (url : Parts) (now : Moment) (store : Contents)
      → admitted_by_site (Some rules) url cookie ≡ checked → store.suffixes ≡ Some rules → passes is_below_ipv4 (host_of url) ≡ false → IsSafe url store.rows
      → IsStep (passes_or_none (has_root rules root) (host_of url)) (allowed_insertion cookie url now) store
  insertion-by (Err error) cookie url now store is list above safe =
      failed-step (passes_or_none (has_root rules root) (host_of url)) (allowed_insertion cookie url now) store (Cookie error)
      (rejected cookie url now (part store) error list is) (rejected cookie url now store error list is)
  insertion-by (Ok stored) cookie url now store is list above safe =
      let (of, key) = admitted-of_host rules cookie stored url is in
      checked-step cookie url now of (ap (passes is_below_ipv4) (sym of.at) ∙ above) store stored list is key safe

  strict-step : (error : Option StrictError) (cookie : Row) (url : Parts) (now : Moment) (store : Contents) → store.suffixes ≡ Some rules
      → passes is_below_ipv4 (host_of url) ≡ false → IsSafe url store.rows
      → IsStep (passes_or_none (has_root rules root) (host_of url)) (λ s. unless_error error (allowed_insertion cookie url now s)) store
  strict-step (Some error) cookie url now store list above safe =
      failed-step (passes_or_none (has_root rules root) (host_of url)) (λ _. Err error) store error refl refl
  strict-step None cookie url now store list above safe = insertion-by (admitted_by_site (Some rules) url cookie) cookie url now store refl list above safe

  made-step : (made : Result Row StrictError) (url : Parts) (now : Moment) (store : Contents) → store.suffixes ≡ Some rules
      → passes is_below_ipv4 (host_of url) ≡ false → IsSafe url store.rows
      → IsStep (passes_or_none (has_root rules root) (host_of url)) (λ s. and_then made (λ cookie. strict_insertion cookie url now s)) store
  made-step (Err error) url now store list above safe =
      failed-step (passes_or_none (has_root rules root) (host_of url)) (λ _. Err error) store error refl refl
  made-step (Ok cookie) url now store list above safe = strict-step (pair_error cookie.raw) (limited_cookie now cookie) url now store list above safe

  -- no insecure insertion at the root, or no Secure row beside it
  abbrev pub IsSafeCall : Call → List Row → Type 0
  IsSafeCall call rows = (is_insecure_at rules root call ≡ false) ⊎ All (IsApart rules root) rows

  -- a call
  call-step : (call : Call) (store : Contents) → store.suffixes ≡ Some rules → passes is_below_ipv4 (call_host call) ≡ false
      → IsSafeCall call store.rows → IsStep (is_for_root rules root call) (strict_call call) store
  call-step (Set text url now) store list above safe = made-step (strict_cookie text url now) url now store list above safe
  call-step (Insert cookie url now) store list above safe = strict-step (pair_error cookie.raw) (limited_cookie now cookie) url now store list above safe
  call-step (Remove key) store list above safe = (
    λ here.
        let same = laws.call (Remove key) store here in
        (refl, (ap (λ (s : Step). s.reply) same, ap (λ (s : Step). s.store) same)),
    λ away. laws.other_call (Remove key) store away,
  )
  call-step Clear store list above safe = (λ _. (refl, (refl, refl)), λ lost. absurd (cc))

  -- the reply of what a call becomes
  abbrev reply_in : Result Call StrictError → Contents → Result Reply StrictError
  reply_in allowed store = result_map_both (λ plain. (step plain store).reply) (λ error. error) allowed

  both-same : (allowed : Result Call StrictError) (store : Contents) → IsSameAfter allowed store
      → (store_after_call allowed (part store) ≡ part (store_after_call allowed store)) × (reply_in allowed (part store) ≡ reply_in allowed store)
  both-same (Ok plain) store (reply, after) = (after, ap Ok reply)
  both-same (Err error) store same = (refl, refl)

  -- a call of the root leaves the same among the rows of the root, and has the same reply
  pub call-kept : (call : Call) (store : Contents) → store.suffixes ≡ Some rules → passes is_below_ipv4 (call_host call) ≡ false
      → IsSafeCall call store.rows → is_for_root rules root call ≡ true
      → (store_after_call (strict_call call (part store)) (part store) ≡ part (store_after_call (strict_call call store) store))
      × (strict_reply call (part store) ≡ strict_reply call store)
  call-kept call store list above safe kept =
      let (same, after) = (call-step call store list above safe).0 kept in
      let (first, second) = both-same (strict_call call store) store after in
      (ap (λ r. store_after_call r (part store)) same ∙ first, ap (λ r. reply_in r (part store)) same ∙ second)

  -- another call changes nothing there
  pub call-other : (call : Call) (store : Contents) → store.suffixes ≡ Some rules → passes is_below_ipv4 (call_host call) ≡ false
      → IsSafeCall call store.rows → is_for_root rules root call ≡ false → part (store_after_call (strict_call call store) store) ≡ part store
  call-other call store list above safe lost = (call-step call store list above safe).1 lost

  -- Secure rows beside the root

  -- removals and an insertion leave none, if the cookie is apart
  calls-apart : (keys : List Key) (cookie : Row) (url : Parts) (now : Moment) (store : Contents) → IsApart rules root cookie
      → All (IsApart rules root) store.rows → All (IsApart rules root) (store_after (removals keys ++ Insert cookie url now ∷ []) store).rows
  calls-apart [] cookie url now store apart all = laws.inserted store cookie url now apart all
  calls-apart (key ∷ keys) cookie url now store apart all =
      calls-apart keys cookie url now (step (Remove key) store).store apart (laws.removed_row key store.rows all)

  -- so does an allowed insertion, if it is not secure beside the root
  cookie-apart : (cookie stored : Row) (url : Parts) → admitted_by_site (Some rules) url cookie ≡ Ok stored → needs_secure_url cookie url ≡ false
      → passes is_below_ipv4 (host_of url) ≡ false → (is_secure_url url && passes (is_beside rules root) (host_of url)) ≡ false → IsApart rules root cookie
  cookie-apart cookie stored url is secure above away =
      let (of, key) = admitted-of_host rules cookie stored url is in
      let domain = domain_text cookie.domain in
      not_from_false (is_secure_only cookie.raw && is_beside rules root domain)
      (⊎_elim
      (λ is_secure.
      let by_url : is_secure_url url ≡ true =
      not-false (is_secure_url url) (ap (λ b. b && not (is_secure_url url)) (sym is_secure) ∙ secure) in
      let host_away : is_beside rules root of.host ≡ false =
      ap (passes (is_beside rules root)) (sym of.at) ∙ ap (λ b. b && passes (is_beside rules root) (host_of url)) (sym by_url) ∙ away in
      and_right (is_secure_only cookie.raw) (is_beside rules root domain)
      (beside-own rules url_host of.host domain (ap (passes is_below_ipv4) (sym of.at) ∙ above) of.own host_away))
      (λ plain. and_left (is_secure_only cookie.raw) (is_beside rules root domain) plain)
      (cases_Bool (is_secure_only cookie.raw)))

  rule-apart : (reply : Result StoreAction CookieError) (broken : Option StrictError) (cookie stored : Row) (url : Parts) (now : Moment) (store : Contents)
      → broken ≡ broken_rule cookie url now store → admitted_by_site (Some rules) url cookie ≡ Ok stored → passes is_below_ipv4 (host_of url) ≡ false
      → (is_secure_url url && passes (is_beside rules root) (host_of url)) ≡ false → All (IsApart rules root) store.rows
      → All (IsApart rules root) (store_after_call (if_accepted reply broken (Insert cookie url now)) store).rows
  rule-apart (Err error) broken cookie stored url now store rule is above away all = all
  rule-apart (Ok action) (Some error) cookie stored url now store rule is above away all = all
  rule-apart (Ok action) None cookie stored url now store rule is above away all =
      let secure = (keeps_rules cookie url now store (sym rule)).url_is_secure in
      calls-apart (evicted_by (accept store cookie url now).reply store now (key_of cookie)) cookie url now store
      (cookie-apart cookie stored url is secure above away) all

  insertion-apart : (checked : Result Row CookieError) (cookie : Row) (url : Parts) (now : Moment) (store : Contents)
      → admitted_by_site (Some rules) url cookie ≡ checked → store.suffixes ≡ Some rules → passes is_below_ipv4 (host_of url) ≡ false
      → (is_secure_url url && passes (is_beside rules root) (host_of url)) ≡ false → All (IsApart rules root) store.rows
      → All (IsApart rules root) (store_after_call (allowed_insertion cookie url now store) store).rows
  insertion-apart (Err error) cookie url now store is list above away all =
      subst (λ r. All (IsApart rules root) (store_after_call r store).rows) (sym (rejected cookie url now store error list is)) all
  insertion-apart (Ok stored) cookie url now store is list above away all =
      rule-apart (site_reply cookie url now store) (broken_rule cookie url now store) cookie stored url now store refl is above away all

  strict-apart : (error : Option StrictError) (cookie : Row) (url : Parts) (now : Moment) (store : Contents) → store.suffixes ≡ Some rules
      → passes is_below_ipv4 (host_of url) ≡ false → (is_secure_url url && passes (is_beside rules root) (host_of url)) ≡ false
      → All (IsApart rules root) store.rows
      → All (IsApart rules root) (store_after_call (unless_error error (allowed_insertion cookie url now store)) store).rows
  strict-apart (Some error) cookie url now store list above away all = all
  strict-apart None cookie url now store list above away all =
      insertion-apart (admitted_by_site (Some rules) url cookie) cookie url now store refl list above away all

  made-apart : (made : Result Row StrictError) (url : Parts) (now : Moment) (store : Contents) → store.suffixes ≡ Some rules
      → passes is_below_ipv4 (host_of url) ≡ false → (is_secure_url url && passes (is_beside rules root) (host_of url)) ≡ false
      → All (IsApart rules root) store.rows
      → All (IsApart rules root) (store_after_call (and_then made (λ cookie. strict_insertion cookie url now store)) store).rows
  made-apart (Err error) url now store list above away all = all
  made-apart (Ok cookie) url now store list above away all =
      strict-apart (pair_error cookie.raw) (limited_cookie now cookie) url now store list above away all

  -- a call that is no secure insertion beside the root leaves no Secure row there
  pub call-apart : (call : Call) (store : Contents) → store.suffixes ≡ Some rules → passes is_below_ipv4 (call_host call) ≡ false
      → is_secure_beside rules root call ≡ false → All (IsApart rules root) store.rows
      → All (IsApart rules root) (store_after_call (strict_call call store) store).rows
  call-apart (Set text url now) store list above away all = made-apart (strict_cookie text url now) url now store list above away all
  call-apart (Insert cookie url now) store list above away all =
      strict-apart (pair_error cookie.raw) (limited_cookie now cookie) url now store list above away all
  call-apart (Remove key) store list above away all = laws.removed_row key store.rows all
  call-apart Clear store list above away all = All-nil (IsApart rules root)
