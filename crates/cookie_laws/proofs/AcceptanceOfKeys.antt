-- Inserting a cookie into a store cut to the rows whose keys pass a test.
use Rattle.std.proofs.Common.{◌≡◌, Bool, true, false, not, Option, Result, Ok, Err, ◌∙◌, refl, ap}
use Rattle.std.proofs.lemmas.Bool.{cond_both}
use Rattle.url.specs.Parts.{Parts}
use Rattle.cookie_words.specs.Moments.{Moment}
use Rattle.cookie_psl.specs.Rules.{RuleList}
use Rattle.cookie_parts.specs.Cookie.{Row, and_then, is_out_of_reach}
use Rattle.cookie_parts.specs.Domain.{HostOnly, domain_matches, domain_text, host_is_identical}
use Rattle.cookie_parts.specs.declared.cookie_error.CookieError.{CookieError}
use Rattle.cookie_parts.specs.declared.cookie_error.CookieError.TheVariants.{NonHttpScheme, DomainMismatch, PublicSuffix}
use Rattle.cookie_laws.specs.Contents.{Contents}
use Rattle.cookie_laws.specs.Rows.{Key, key_of, row_of}
use Rattle.cookie_laws.specs.Acceptance.{Outcome, by_scheme, is_listed, by_list, by_domain, admitted, reply_at, outcome_by, outcome_after_checks, accept}
use Rattle.cookie_laws.proofs.RowsOfKeys.{IsByDomain, row_of-passing}
use Rattle.cookie_laws.proofs.StoresOfKeys.{passing_store, store_by-other, store_by-passing}

-- the cookie has the key, if there is one
abbrev pub HasKey : Key → Result Row CookieError → Type 0
HasKey key (Ok cookie) = key_of cookie ≡ key
HasKey key (Err rejection) = Unit {0}

-- a step after another keeps the key
and_then-HasKey : (key : Key) (cookie_result : Result Row CookieError) (next : Row → Result Row CookieError) → HasKey key cookie_result → ((cookie : Row) → key_of cookie ≡ key → HasKey key (next cookie)) → HasKey key (and_then cookie_result next)
and_then-HasKey key (Ok cookie) next same after = after cookie same
and_then-HasKey key (Err rejection) next same after = tt

-- each step keeps the key of its cookie
by_scheme-HasKey : (key : Key) (url : Parts) (cookie : Row) → key_of cookie ≡ key → HasKey key (by_scheme url cookie)
by_scheme-HasKey key url cookie same =
    cond_both (is_out_of_reach cookie.raw url) (Err NonHttpScheme) (Ok cookie) (HasKey key) (λ _. tt) (λ _. same)

by_list-HasKey : (suffixes : Option RuleList) (key : Key) (url : Parts) (cookie : Row) → key_of cookie ≡ key → HasKey key (by_list suffixes url cookie)
by_list-HasKey suffixes key url cookie same =
    let own : Row = record cookie { domain = HostOnly (domain_text cookie.domain) } in
    cond_both (not (is_listed suffixes cookie.domain)) (Ok cookie) _ (HasKey key) (λ _. same)
    (λ _. cond_both (host_is_identical cookie.domain url) (Ok own) (Err PublicSuffix) (HasKey key) (λ _. same) (λ _. tt))

by_domain-HasKey : (key : Key) (url : Parts) (cookie : Row) → key_of cookie ≡ key → HasKey key (by_domain url cookie)
by_domain-HasKey key url cookie same =
    cond_both (domain_matches cookie.domain url) (Ok cookie) (Err DomainMismatch) (HasKey key) (λ _. same) (λ _. tt)

-- an admitted cookie keeps its key
pub admitted-HasKey : (suffixes : Option RuleList) (url : Parts) (cookie : Row) → HasKey (key_of cookie) (admitted suffixes url cookie)
admitted-HasKey suffixes url cookie =
    let key = key_of cookie in
    and_then-HasKey key (and_then (by_scheme url cookie) (by_list suffixes url)) (by_domain url)
    (and_then-HasKey key (by_scheme url cookie) (by_list suffixes url) (by_scheme-HasKey key url cookie refl) (by_list-HasKey suffixes key url))
    (by_domain-HasKey key url)

-- an outcome with the rows whose keys pass
abbrev pub passing_outcome : (Key → Bool) → Outcome → Outcome
passing_outcome test outcome = record { reply = outcome.reply; store = passing_store test outcome.store }

module _ (test : Key → Bool) (by_domain : IsByDomain test) where
  -- an admitted cookie whose key passes has the same outcome among the rows that pass
  outcome_after_checks-passing : (key : Key) (cookie_result : Result Row CookieError) (url : Parts) (now : Moment) (store : Contents) → HasKey key cookie_result → test key ≡ true
      → outcome_after_checks cookie_result url now (passing_store test store) ≡ passing_outcome test (outcome_after_checks cookie_result url now store)
  outcome_after_checks-passing key (Err rejection) url now store same here = refl
  outcome_after_checks-passing key (Ok cookie) url now store same here =
      let passes : test (key_of cookie) ≡ true = ap test same ∙ here in
      let reply = reply_at (row_of (key_of cookie) store.rows) cookie url now in
      ap (λ row. outcome_by (reply_at row cookie url now) (passing_store test store) cookie now) (row_of-passing test (key_of cookie) store.rows passes)
      ∙ ap {B = Outcome} (λ after. record { reply = reply; store = after }) (store_by-passing test by_domain reply store cookie now passes)

  -- one whose key does not pass changes nothing among them
  outcome_after_checks-other : (key : Key) (cookie_result : Result Row CookieError) (url : Parts) (now : Moment) (store : Contents) → HasKey key cookie_result → test key ≡ false
      → passing_store test (outcome_after_checks cookie_result url now store).store ≡ passing_store test store
  outcome_after_checks-other key (Err rejection) url now store same away = refl
  outcome_after_checks-other key (Ok cookie) url now store same away =
      store_by-other test by_domain (reply_at (row_of (key_of cookie) store.rows) cookie url now) store cookie now (ap test same ∙ away)

  -- the same for any received cookie
  pub accept-passing : (store : Contents) (cookie : Row) (url : Parts) (now : Moment) → test (key_of cookie) ≡ true
      → accept (passing_store test store) cookie url now ≡ passing_outcome test (accept store cookie url now)
  unfolding accept
  accept-passing store cookie url now here =
      outcome_after_checks-passing (key_of cookie) (admitted store.suffixes url cookie) url now store (admitted-HasKey store.suffixes url cookie) here

  pub accept-other : (store : Contents) (cookie : Row) (url : Parts) (now : Moment) → test (key_of cookie) ≡ false
      → passing_store test (accept store cookie url now).store ≡ passing_store test store
  unfolding accept
  accept-other store cookie url now away =
      outcome_after_checks-other (key_of cookie) (admitted store.suffixes url cookie) url now store (admitted-HasKey store.suffixes url cookie) away
