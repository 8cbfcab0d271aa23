-- Same-site and cross-site requests and their responses, draft-ietf-httpbis-rfc6265bis 5.2, 5.7 and 5.8.3.
use Rattle.std.specs.Prelude.{◌≡◌, Bool, true, false, not, ◌&&◌, ◌||◌, List, filter, Option, Some, None, if◌then◌else◌}
use Rattle.url.specs.Parts.{Parts}
use Rattle.cookie_words.specs.Moments.{Moment}
use Rattle.cookie_raw.specs.Raw.{Raw}
use Rattle.cookie_raw.specs.declared.same_site.SameSite.{SameSite}
use Rattle.cookie_raw.specs.declared.same_site.SameSite.TheVariants as same_site
use Rattle.cookie_parts.specs.Cookie.{Row}
use Rattle.cookie_laws.specs.Contents.{Contents}
use Rattle.cookie_laws.specs.Header.{InHeaderOrder}
use Rattle.cookie_strict.specs.declared.context.Context.{Context}
use Rattle.cookie_strict.specs.declared.error.StrictError.{StrictError}
use Rattle.cookie_strict.specs.declared.error.StrictError.TheVariants.{CrossSite}

-- 5.8.3: a cross-site request receives the cookie. Strict: never. Lax: if it is a top-level navigation with a safe
-- method. None: always. No SameSite attribute: as Lax if `is_lax_by_default`, else as None
abbrev pub is_sent_cross_site : Context → Option SameSite → Bool
is_sent_cross_site context (Some same_site.Strict) = false
is_sent_cross_site context (Some same_site.Lax) = context.is_top_level && context.is_safe
is_sent_cross_site context (Some same_site.None) = true
is_sent_cross_site context None = not context.is_lax_by_default || context.is_top_level && context.is_safe

-- 5.8.3: a request of this context receives the cookie
abbrev pub is_sent : Context → Row → Bool
is_sent context cookie = context.is_same_site || is_sent_cross_site context cookie.raw.same_site

-- 5.8.3: the cookies of a request, in the order of the Cookie header
abbrev pub IsSent : Context → Parts → Moment → Contents → List Row → Type 0
IsSent context url now store cookies =
    (all : List Row) × InHeaderOrder url now store all × (cookies ≡ filter (is_sent context) all)

-- 5.7: the response to a cross-site request may set the cookie. Strict and Lax: if the request is a top-level
-- navigation. None: always. No SameSite attribute: as Lax if `is_lax_by_default`, else as None
abbrev pub is_accepted_cross_site : Context → Option SameSite → Bool
is_accepted_cross_site context (Some same_site.Strict) = context.is_top_level
is_accepted_cross_site context (Some same_site.Lax) = context.is_top_level
is_accepted_cross_site context (Some same_site.None) = true
is_accepted_cross_site context None = not context.is_lax_by_default || context.is_top_level

-- 5.7: the response to a request of this context may set the cookie
abbrev pub is_accepted : Context → Raw → Bool
is_accepted context raw = context.is_same_site || is_accepted_cross_site context raw.same_site

-- the error of a cookie that the response may not set
abbrev pub context_error : Context → Raw → Option StrictError
context_error context raw = if is_accepted context raw then None else Some CrossSite
