-- The Cookie header of a request.
use Rattle.std.specs.Prelude.{◌≡◌, ◌==◌, ℕ, Bool, true, false, List, Option, Some, None, Result, Ok, Err, ⊤, if◌then◌else◌, ℤ}
use Rattle.url.specs.Parts.{Parts}
use Rattle.cookie_words.specs.Moments.{Moment}
use Rattle.cookie_parts.specs.Cookie.{Row}
use Rattle.cookie_laws.specs.Contents.{Contents}
use Rattle.cookie_laws.specs.Header.{InHeaderOrder, cookie_string}
use Rattle.cookie_strict.specs.CrossSite.{IsSent}
use Rattle.cookie_strict.specs.SecureUrl.{as_secure, is_raised}
use Rattle.cookie_strict.specs.Sites.{is_same_site_in}
use Rattle.cookie_strict.specs.declared.context.Context.{Context}
use Rattle.cookie_store_c.specs.Inputs.{page_and_request, request}
use Rattle.cookie_store_c.specs.declared.status.Status.{Status}
use Rattle.cookie_store_c.specs.declared.status.Status.TheVariants.{BadOption, NoStore}

-- a cross-site request by a safe method
abbrev pub cross_site_request : Bool → Bool → Context
cross_site_request is_top_level is_lax_by_default =
    record { is_same_site = false; is_top_level = is_top_level; is_safe = true; is_lax_by_default = is_lax_by_default }

-- the cross-site request of these flags: 1 is a top-level navigation, 2 treats no SameSite attribute as SameSite=None
abbrev pub cross_site : ℕ → Result Context Status
cross_site flags =
    if flags == 0 then Ok (cross_site_request false true) else
    if flags == 1 then Ok (cross_site_request true true) else
    if flags == 2 then Ok (cross_site_request false false) else
    if flags == 3 then Ok (cross_site_request true false) else Err BadOption

-- a request by the user, under the rules of browsers if the store is strict
abbrev pub own_request : Bool → Option Context
own_request is_strict =
    if is_strict then Some (record { is_same_site = true; is_top_level = true; is_safe = true; is_lax_by_default = true }) else None

-- the context of a request that a page made: same-site if the page is, under the store's list
abbrev pub from_page : Context → Contents → Parts → Parts → Context
from_page context store url page = record context { is_same_site = is_same_site_in store.suffixes url page }

-- RFC 6265 5.4: the cookies of a request; of a request with a context, draft-ietf-httpbis-rfc6265bis 5.8.3, those that
-- it receives
abbrev pub AreCookiesOf : Option Context → Parts → Moment → Contents → List Row → Type 0
AreCookiesOf None url now store cookies = InHeaderOrder url now store cookies
AreCookiesOf (Some context) url now store cookies = IsSent context (as_secure url) now store cookies

-- the cookies are found by the URL itself, not by one with the scheme `https`
abbrev pub HasPlainUrl : Option Context → Parts → Type 0
HasPlainUrl None url = ⊤
HasPlainUrl (Some context) url = is_raised url ≡ false

-- their cookie-string
abbrev pub IsHeaderText : Option Context → Parts → Moment → Contents → List ℕ → Type 0
IsHeaderText context url now store text = (cookies : List Row) × AreCookiesOf context url now store cookies × (text ≡ cookie_string cookies)

-- the cookie-string of a request for a URL, or the error
abbrev pub IsHeaderFor : Option Context → Contents → Result (Parts × Moment) Status → Result (List ℕ) Status → Type 0
IsHeaderFor context store (Ok inputs) expected = (text : List ℕ) × IsHeaderText context inputs.0 inputs.1 store text × (expected ≡ Ok text)
IsHeaderFor context store (Err status) expected = expected ≡ Err status

-- the same for the string of a URL and a time in seconds
abbrev pub IsHeader : Option Context → Contents → List ℕ → ℤ → Result (List ℕ) Status → Type 0
IsHeader context store url now expected = IsHeaderFor context store (request url now) expected

-- the same, or `NoStore` if there is no store
abbrev pub IsHeaderIn : Option Context → Option Contents → List ℕ → ℤ → Result (List ℕ) Status → Type 0
IsHeaderIn context None url now expected = expected ≡ Err NoStore
IsHeaderIn context (Some store) url now expected = IsHeader context store url now expected

-- the cookie-string of a cross-site request, or the error: `NoStore`, or that of its flags, before others
abbrev pub IsCrossSiteHeader : Result Context Status → Option Contents → List ℕ → ℤ → Result (List ℕ) Status → Type 0
IsCrossSiteHeader context None url now expected = expected ≡ Err NoStore
IsCrossSiteHeader (Ok context) (Some store) url now expected = IsHeader (Some context) store url now expected
IsCrossSiteHeader (Err status) (Some store) url now expected = expected ≡ Err status

-- the cookie-string of a request that a page made, or the error
abbrev pub IsHeaderOfPage : Context → Contents → Result (Parts × Parts × Moment) Status → Result (List ℕ) Status → Type 0
IsHeaderOfPage context store (Ok (page, url, now)) expected =
    IsHeaderFor (Some (from_page context store url page)) store (Ok (url, now)) expected
IsHeaderOfPage context store (Err status) expected = expected ≡ Err status

-- the same for strings and a time in seconds, or the error: `NoStore`, or that of the flags, before others
abbrev pub IsPageHeader : Result Context Status → Option Contents → List ℕ → List ℕ → ℤ → Result (List ℕ) Status → Type 0
IsPageHeader context None page url now expected = expected ≡ Err NoStore
IsPageHeader (Ok context) (Some store) page url now expected = IsHeaderOfPage context store (page_and_request page url now) expected
IsPageHeader (Err status) (Some store) page url now expected = expected ≡ Err status
