-- The plain calls that calls under the rules become.
use Rattle.std.proofs.Common.{◌≡◌, ℕ, false, List, [], ◌∷◌, Option, Some, None, Result, Ok, Err, refl, sym, ap, ◌∙◌, subst, slice_get}
use Rattle.std.specs.Prelude.{⊤}
use Rattle.std.specs.List.{All}
use Rattle.std.proofs.lemmas.Bool.{cond_both}
use Rattle.std.proofs.lemmas.List.Elements.{All-append, All-cons, All-get_or, All-map, All-nil}
use Rattle.std.proofs.lemmas.Option.{get_or_from_slice_get, slice_get_within}
use Rattle.url.specs.Parts.{Parts}
use Rattle.cookie_words.specs.Moments.{Moment}
use Rattle.cookie_psl.specs.Rules.{RuleList}
use Rattle.cookie_parts.specs.Cookie.{Row, and_then, cookie_from_header}
use Rattle.cookie_parts.specs.Hosts.{passes}
use Rattle.cookie_parts.specs.declared.cookie_error.CookieError.{CookieError}
use Rattle.cookie_parts.specs.declared.cookie_error.CookieError.TheVariants.{PublicSuffix}
use Rattle.cookie_parts.specs.declared.store_action.StoreAction.{StoreAction}
use Rattle.cookie_parts.specs.declared.store_action.StoreAction.TheVariants.{Inserted, ExpiredExisting, UpdatedExisting}
use Rattle.cookie_laws.specs.Acceptance.{accept, admitted, outcome_after_checks, received, reply_at, store_by}
use Rattle.cookie_laws.specs.Contents.{Contents}
use Rattle.cookie_laws.specs.Rows.{Key, key_of, row_of}
use Rattle.cookie_laws.specs.Runs.{Call, Set, Insert, Remove, Clear, step, store_after}
use Rattle.cookie_laws.specs.SecureLast.{evicted_by, removals}
use Rattle.cookie_strict.specs.HeaderValue.{pair_error, strict_cookie}
use Rattle.cookie_strict.specs.Lifetime.{limited_cookie}
use Rattle.cookie_strict.specs.SiteRule.{by_site, is_above_site}
use Rattle.cookie_strict.specs.StrictRules.{breaks_host_prefix, breaks_http_prefix, broken_rule, needs_secure_url}
use Rattle.cookie_strict.specs.StrictRuns.{allowed_calls, allowed_first, allowed_insertion, if_accepted, plain_calls, site_reply, store_after_call, strict_call, strict_insertion, unless_error}
use Rattle.cookie_strict.specs.declared.error.StrictError.{StrictError}
use Rattle.cookie_strict.proofs.SecureRows.{keeps_rules}

-- a call keeps the list
store_by-suffixes : (reply : Result StoreAction CookieError) (store : Contents) (cookie : Row) (now : Moment)
    → (store_by reply store cookie now).suffixes ≡ store.suffixes
store_by-suffixes (Ok Inserted) store cookie now = refl
store_by-suffixes (Ok UpdatedExisting) store cookie now = refl
store_by-suffixes (Ok ExpiredExisting) store cookie now = refl
store_by-suffixes (Err error) store cookie now = refl

checked-suffixes : (checked : Result Row CookieError) (url : Parts) (now : Moment) (store : Contents)
    → (outcome_after_checks checked url now store).store.suffixes ≡ store.suffixes
checked-suffixes (Err error) url now store = refl
checked-suffixes (Ok cookie) url now store = store_by-suffixes (reply_at (row_of (key_of cookie) store.rows) cookie url now) store cookie now

accept-suffixes : (store : Contents) (cookie : Row) (url : Parts) (now : Moment) → (accept store cookie url now).store.suffixes ≡ store.suffixes
unfolding accept
accept-suffixes store cookie url now = checked-suffixes (admitted store.suffixes url cookie) url now store

received-suffixes : (store : Contents) (made : Result Row CookieError) (url : Parts) (now : Moment)
    → (received store made url now).store.suffixes ≡ store.suffixes
received-suffixes store (Err error) url now = refl
received-suffixes store (Ok cookie) url now = accept-suffixes store cookie url now

step-suffixes : (call : Call) (store : Contents) → (step call store).store.suffixes ≡ store.suffixes
step-suffixes (Set text url now) store = received-suffixes store (cookie_from_header text url now) url now
step-suffixes (Insert cookie url now) store = accept-suffixes store cookie url now
step-suffixes (Remove key) store = refl
step-suffixes Clear store = refl

store_after-suffixes : (calls : List Call) (store : Contents) → (store_after calls store).suffixes ≡ store.suffixes
store_after-suffixes [] store = refl
store_after-suffixes (call ∷ calls) store = store_after-suffixes calls (step call store).store ∙ step-suffixes call store

pub store_after_call-suffixes : (allowed : Result Call StrictError) (store : Contents) → (store_after_call allowed store).suffixes ≡ store.suffixes
store_after_call-suffixes (Ok call) store = store_after-suffixes (plain_calls call store) store
store_after_call-suffixes (Err error) store = refl

-- what holds of an allowed insertion
pub record IsAllowed (suffixes : Option RuleList) (cookie : Row) (url : Parts) : Type 0 where
  pub host_prefix : breaks_host_prefix cookie ≡ false
  pub http_prefix : breaks_http_prefix cookie ≡ false
  pub url_is_secure : needs_secure_url cookie url ≡ false
  pub site : (stored : Row) → admitted suffixes url cookie ≡ Ok stored → passes (λ rules. is_above_site rules stored.domain url) suffixes ≡ false

-- a cookie that is accepted is not above the site of its host
accepted-site : (cookie : Row) (url : Parts) (now : Moment) (store : Contents) (action : StoreAction) → site_reply cookie url now store ≡ Ok action
    → (stored : Row) → admitted store.suffixes url cookie ≡ Ok stored → passes (λ rules. is_above_site rules stored.domain url) store.suffixes ≡ false
accepted-site cookie url now store action is stored admits =
    let above = passes (λ rules. is_above_site rules stored.domain url) store.suffixes in
    cond_both above (Err PublicSuffix) (Ok stored) (λ r. (outcome_after_checks r url now store).reply ≡ Ok action → above ≡ false)
    (λ _ rejected. absurd (cc)) (λ within _. within)
    (ap (λ r. (outcome_after_checks (and_then r (by_site store.suffixes url)) url now store).reply) (sym admits) ∙ is)

module _ (suffixes : Option RuleList) where
  -- an insertion is allowed; a header value is no plain call under the rules
  abbrev pub IsProper : Call → Type 0
  IsProper (Set text url now) = ⊥
  IsProper (Insert cookie url now) = IsAllowed suffixes cookie url
  IsProper (Remove key) = ⊤
  IsProper Clear = ⊤

  -- what holds of the call, if there is one
  abbrev IfCall : Result Call StrictError → Type 0
  IfCall (Ok call) = IsProper call
  IfCall (Err error) = ⊤

  accepted-proper : (store : Contents) (cookie : Row) (url : Parts) (now : Moment) (reply : Result StoreAction CookieError) (broken : Option StrictError)
      → store.suffixes ≡ suffixes → reply ≡ site_reply cookie url now store → broken ≡ broken_rule cookie url now store
      → IfCall (if_accepted reply broken (Insert cookie url now))
  accepted-proper store cookie url now (Err error) broken list replied is = tt
  accepted-proper store cookie url now (Ok action) (Some error) list replied is = tt
  accepted-proper store cookie url now (Ok action) None list replied is =
      let keeps = keeps_rules cookie url now store (sym is) in
      subst (λ s. IsAllowed s cookie url) list
      (record {
        host_prefix = keeps.host_prefix;
        http_prefix = keeps.http_prefix;
        url_is_secure = keeps.url_is_secure;
        site = accepted-site cookie url now store action (sym replied);
      })

  unless-proper : (error : Option StrictError) (allowed : Result Call StrictError) → IfCall allowed → IfCall (unless_error error allowed)
  unless-proper None allowed proper = proper
  unless-proper (Some error) allowed proper = tt

  insertion-proper : (store : Contents) (cookie : Row) (url : Parts) (now : Moment) → store.suffixes ≡ suffixes → IfCall (strict_insertion cookie url now store)
  insertion-proper store cookie url now list =
      let limited = limited_cookie now cookie in
      unless-proper (pair_error cookie.raw) (allowed_insertion limited url now store)
      (accepted-proper store limited url now (site_reply limited url now store) (broken_rule limited url now store) list refl refl)

  made-proper : (store : Contents) (made : Result Row StrictError) (url : Parts) (now : Moment) → store.suffixes ≡ suffixes
      → IfCall (and_then made (λ cookie. strict_insertion cookie url now store))
  made-proper store (Ok cookie) url now list = insertion-proper store cookie url now list
  made-proper store (Err error) url now list = tt

  call-proper : (call : Call) (store : Contents) → store.suffixes ≡ suffixes → IfCall (strict_call call store)
  call-proper (Set text url now) store list = made-proper store (strict_cookie text url now) url now list
  call-proper (Insert cookie url now) store list = insertion-proper store cookie url now list
  call-proper (Remove key) store list = tt
  call-proper Clear store list = tt

  -- so are the plain calls that a call stands for
  alone-proper : (call : Call) → IsProper call → All IsProper (call ∷ [])
  alone-proper call proper = All-cons IsProper call [] proper (All-nil IsProper)

  removals-proper : (keys : List Key) → All IsProper (removals keys)
  removals-proper keys = All-map IsProper (λ key. Remove key) keys (λ i d within. tt)

  plain-proper : (call : Call) (store : Contents) → IsProper call → All IsProper (plain_calls call store)
  plain-proper (Set text url now) store proper = absurd proper
  plain-proper (Insert cookie url now) store proper =
      let keys = evicted_by (accept store cookie url now).reply store now (key_of cookie) in
      All-append IsProper (removals keys) (Insert cookie url now ∷ []) (removals-proper keys) (alone-proper (Insert cookie url now) proper)
  plain-proper (Remove key) store proper = alone-proper (Remove key) tt
  plain-proper Clear store proper = alone-proper Clear tt

  first-proper : (first : Result Call StrictError) (store : Contents) (rest : List Call) → IfCall first → All IsProper rest
      → All IsProper (allowed_first first store rest)
  first-proper (Err error) store rest new old = old
  first-proper (Ok call) store rest new old = All-append IsProper (plain_calls call store) rest (plain-proper call store new) old

  -- and all allowed calls
  all_proper : (calls : List Call) (store : Contents) → store.suffixes ≡ suffixes → All IsProper (allowed_calls calls store)
  all_proper [] store list = All-nil IsProper
  all_proper (call ∷ calls) store list =
      let after = store_after_call (strict_call call store) store in
      first-proper (strict_call call store) store (allowed_calls calls after) (call-proper call store list)
      (all_proper calls after (store_after_call-suffixes (strict_call call store) store ∙ list))

  pub proper_at : (calls : List Call) (store : Contents) (place : ℕ) (call : Call) → store.suffixes ≡ suffixes
      → slice_get (allowed_calls calls store) place ≡ Some call → IsProper call
  proper_at calls store place call list at =
      let allowed = allowed_calls calls store in
      subst IsProper (get_or_from_slice_get allowed place call call at)
      (All-get_or IsProper allowed place call (slice_get_within allowed place call at) (all_proper calls store list))
