-- What the checks that do not depend on the stored rows leave of a cookie.
use Rattle.std.proofs.Common.{◌≡◌, Bool, true, false, not, List, ℕ, Option, Some, None, Result, Ok, Err, refl, sym, ap, ◌∙◌}
use Rattle.std.specs.Prelude.{◌&&◌, is_some}
use Rattle.std.specs.Str.{bytes_eq}
use Rattle.std.proofs.lemmas.Bool.{cond_both}
use Rattle.std.proofs.lemmas.Slice.Eq.{bytes_eq-Decides}
use Rattle.url.specs.Parts.{Parts}
use Rattle.cookie_words.specs.Moments.{Moment}
use Rattle.cookie_psl.specs.Rules.{RuleList}
use Rattle.cookie_parts.specs.Cookie.{Row, and_then, is_expired, is_out_of_reach}
use Rattle.cookie_parts.specs.Domain.{HostOnly, domain_matches, domain_text, host_is_identical}
use Rattle.cookie_parts.specs.Hosts.{host_of, passes}
use Rattle.cookie_parts.specs.declared.cookie_error.CookieError.{CookieError}
use Rattle.cookie_parts.specs.declared.cookie_error.CookieError.TheVariants.{NonHttpScheme, DomainMismatch, PublicSuffix}
use Rattle.cookie_parts.specs.declared.store_action.StoreAction.{StoreAction}
use Rattle.cookie_parts.specs.declared.store_action.StoreAction.TheVariants.{Inserted}
use Rattle.cookie_laws.specs.Acceptance.{accept, admitted, by_domain, by_list, by_scheme, is_listed, outcome_after_checks, reply_at}
use Rattle.cookie_laws.specs.Contents.{Contents}
use Rattle.cookie_laws.specs.Rows.{is_unexpired, key_of, row_of}

-- what a step after another gives
pub and_then_ok : (first : Result Row CookieError) (next : Row → Result Row CookieError) (cookie : Row) → and_then first next ≡ Ok cookie
    → (passed : Row) × (first ≡ Ok passed) × (next passed ≡ Ok cookie)
and_then_ok (Ok passed) next cookie is = (passed, refl, is)
and_then_ok (Err error) next cookie is = absurd (cc)

-- what the checks leave of a cookie
pub record IsSame (given cookie : Row) : Type 0 where
  pub raw : cookie.raw ≡ given.raw
  pub key : key_of cookie ≡ key_of given
  pub host_only : (host : List ℕ) → given.domain ≡ HostOnly host → cookie.domain ≡ HostOnly host

same_cookie : (given cookie : Row) → cookie ≡ given → IsSame given cookie
same_cookie given cookie same = record {
  raw = ap (λ (c : Row). c.raw) same;
  key = ap key_of same;
  host_only = λ host domain. ap (λ (c : Row). c.domain) same ∙ domain;
}

scheme_same : (url : Parts) (given cookie : Row) → by_scheme url given ≡ Ok cookie → cookie ≡ given
scheme_same url given cookie =
    cond_both (is_out_of_reach given.raw url) (Err NonHttpScheme) (Ok given) (λ r. r ≡ Ok cookie → cookie ≡ given) (λ _ is. absurd (cc)) (λ _ is. cc)

scheme_reach : (url : Parts) (given cookie : Row) → by_scheme url given ≡ Ok cookie → is_out_of_reach given.raw url ≡ false
scheme_reach url given cookie =
    cond_both (is_out_of_reach given.raw url) (Err NonHttpScheme) (Ok given) (λ r. r ≡ Ok cookie → is_out_of_reach given.raw url ≡ false)
    (λ _ is. absurd (cc)) (λ within _. within)

list_same : (suffixes : Option RuleList) (url : Parts) (given cookie : Row) → by_list suffixes url given ≡ Ok cookie → IsSame given cookie
list_same suffixes url given cookie =
    let own : Row = record given { domain = HostOnly (domain_text given.domain) } in
    let P : Result Row CookieError → Type 0 = λ r. r ≡ Ok cookie → IsSame given cookie in
    cond_both (not (is_listed suffixes given.domain)) (Ok given) _ P
    (λ _ is. same_cookie given cookie (cc))
    (λ _. cond_both (host_is_identical given.domain url) (Ok own) (Err PublicSuffix) P
    (λ _ is. let same : cookie ≡ own = cc in record {
      raw = ap (λ (c : Row). c.raw) same;
      key = ap key_of same;
      host_only = λ host domain. ap (λ (c : Row). c.domain) same ∙ ap (λ d. HostOnly (domain_text d)) domain;
    })
    (λ _ is. absurd (cc)))

domain_same : (url : Parts) (given cookie : Row) → by_domain url given ≡ Ok cookie → (cookie ≡ given) × (domain_matches given.domain url ≡ true)
domain_same url given cookie =
    cond_both (domain_matches given.domain url) (Ok given) (Err DomainMismatch) (λ r. r ≡ Ok cookie → (cookie ≡ given) × (domain_matches given.domain url ≡ true))
    (λ matches is. (cc, matches)) (λ _ is. absurd (cc))

-- there is a value that passes
pub passes-value : {T : Type 0} (test : T → Bool) (value : Option T) → passes test value ≡ true → (x : T) × (value ≡ Some x) × (test x ≡ true)
passes-value test None is = absurd (cc)
passes-value test (Some x) is = (x, refl, is)

-- an admitted cookie is as it was given, and its domain matches the URL's host
pub admitted_same : (suffixes : Option RuleList) (url : Parts) (given cookie : Row) → admitted suffixes url given ≡ Ok cookie
    → IsSame given cookie × (domain_matches cookie.domain url ≡ true)
admitted_same suffixes url given cookie is =
    let (listed, by_both, last) = and_then_ok (and_then (by_scheme url given) (by_list suffixes url)) (by_domain url) cookie is in
    let (first, scheme, list) = and_then_ok (by_scheme url given) (by_list suffixes url) listed by_both in
    let (one, matches) = domain_same url listed cookie last in
    let from = list_same suffixes url first listed list in
    let same = scheme_same url given first scheme in (
      record {
        raw = ap (λ (c : Row). c.raw) one ∙ from.raw ∙ ap (λ (c : Row). c.raw) same;
        key = ap key_of one ∙ from.key ∙ ap key_of same;
        host_only = λ host domain. ap (λ (c : Row). c.domain) one ∙ from.host_only host (ap (λ (c : Row). c.domain) same ∙ domain);
      },
      ap (λ (c : Row). domain_matches c.domain url) one ∙ matches,
    )

-- an admitted cookie is HttpOnly only if the URL has an HTTP scheme
pub admitted_reach : (suffixes : Option RuleList) (url : Parts) (given cookie : Row) → admitted suffixes url given ≡ Ok cookie
    → is_out_of_reach given.raw url ≡ false
admitted_reach suffixes url given cookie is =
    let (listed, by_both, last) = and_then_ok (and_then (by_scheme url given) (by_list suffixes url)) (by_domain url) cookie is in
    let (first, scheme, list) = and_then_ok (by_scheme url given) (by_list suffixes url) listed by_both in
    scheme_reach url given first scheme

-- a host-only cookie that is admitted is for the host of its URL
pub admitted_host : (suffixes : Option RuleList) (url : Parts) (given cookie : Row) (host : List ℕ) → given.domain ≡ HostOnly host → admitted suffixes url given ≡ Ok cookie
    → (cookie.domain ≡ HostOnly host) × (host_of url ≡ Some host)
admitted_host suffixes url given cookie host domain is =
    let (same, matches) = admitted_same suffixes url given cookie is in
    let own : cookie.domain ≡ HostOnly host = same.host_only host domain in
    let found = passes-value (bytes_eq host) (host_of url) (ap (λ d. domain_matches d url) (sym own) ∙ matches) in
    (own, found.1 ∙ ap Some (sym ((bytes_eq-Decides host found.0).0 found.2)))

-- a cookie is inserted only if there is no row
inserted-new : (row : Option Row) (cookie : Row) (url : Parts) (now : Moment) → reply_at row cookie url now ≡ Ok Inserted → is_some row ≡ false
inserted-new None cookie url now is = refl
inserted-new (Some row) cookie url now inserted =
    let P : Result StoreAction CookieError → Type 0 = λ r. r ≡ Ok Inserted → true ≡ false in
    cond_both (is_unexpired now row && is_out_of_reach row.raw url) _ _ P (λ _ is. absurd (cc))
    (λ _. cond_both (is_unexpired now row && is_expired now cookie) _ _ P (λ _ is. absurd (cc))
    (λ _. cond_both (is_expired now cookie) _ _ P (λ _ is. absurd (cc)) (λ _ is. absurd (cc)))) inserted

checked-new : (checked : Result Row CookieError) (cookie : Row) (url : Parts) (now : Moment) (store : Contents)
    → ((stored : Row) → checked ≡ Ok stored → key_of stored ≡ key_of cookie)
    → (outcome_after_checks checked url now store).reply ≡ Ok Inserted → is_some (row_of (key_of cookie) store.rows) ≡ false
checked-new (Err error) cookie url now store same is = absurd (cc)
checked-new (Ok stored) cookie url now store same is =
    ap (λ key. is_some (row_of key store.rows)) (sym (same stored refl)) ∙ inserted-new (row_of (key_of stored) store.rows) stored url now is

-- no row has the key of a cookie that is inserted
pub accepted-new : (store : Contents) (cookie : Row) (url : Parts) (now : Moment) → (accept store cookie url now).reply ≡ Ok Inserted
    → is_some (row_of (key_of cookie) store.rows) ≡ false
unfolding accept
accepted-new store cookie url now is =
    checked-new (admitted store.suffixes url cookie) cookie url now store (λ stored admits. (admitted_same store.suffixes url cookie stored admits).0.key) is
