-- A cookie that is inserted by its parts: four strings, and the attributes of a row.
use Rattle.std.specs.Prelude.{ℕ, ◌==◌, Bool, not, ◌&&◌, List, codes, nat_eq, Option, Some, None, Result, Ok, Err, if◌then◌else◌, ℤ}
use Rattle.std.specs.List.{starts_with}
use Rattle.url.specs.Parts.{Parts}
use Rattle.cookie_words.specs.Moments.{Moment}
use Rattle.cookie_raw.specs.PlainCookie.{is_plain}
use Rattle.cookie_raw.specs.Raw.{Raw, pair}
use Rattle.cookie_raw.specs.declared.same_site.SameSite.{SameSite}
use Rattle.cookie_raw.specs.declared.same_site.SameSite.TheVariants as same_site
use Rattle.cookie_parts.specs.Cookie.{Row, and_then}
use Rattle.cookie_parts.specs.Domain.{DomainValue, domain_text, host_is_identical}
use Rattle.cookie_parts.specs.Expiry.{Expiry, AtUtc, SessionEnd}
use Rattle.cookie_parts.specs.Path.{is_absolute}
use Rattle.cookie_parts.specs.Views.{expiry_value}
use Rattle.cookie_netscape.specs.Lines.{domain_of, raw_of}
use Rattle.cookie_core.specs.Merging.{own_page}
use Rattle.cookie_laws.specs.Runs.{Call, Insert}
use Rattle.cookie_store_c.specs.Inputs.{moment_in, text_in}
use Rattle.cookie_store_c.specs.declared.cookie_row.CookieRow.{CookieRow}
use Rattle.cookie_store_c.specs.declared.inserting.Attributes.{Attributes}
use Rattle.cookie_store_c.specs.declared.status.Status.{Status}
use Rattle.cookie_store_c.specs.declared.status.Status.TheVariants.{BadOption, DomainMismatch, Parse}

-- a flag of a row
abbrev pub is_set : ℕ → Bool
is_set byte = not (byte == 0)

-- the SameSite attribute of a number
abbrev pub same_site_in : ℕ → Result (Option SameSite) Status
same_site_in number =
    if number == 0 then Ok None else
    if number == 1 then Ok (Some same_site.Strict) else
    if number == 2 then Ok (Some same_site.Lax) else
    if number == 3 then Ok (Some same_site.None) else Err BadOption

-- the expiry in a second for a persistent cookie, else none
abbrev pub expiry_in : Bool → ℤ → Result Expiry Status
expiry_in is_persistent second = if is_persistent then and_then (moment_in second) (λ moment. Ok (AtUtc moment)) else Ok SessionEnd

-- a raw cookie of this name, value and attributes
abbrev pub raw_with : List ℕ → List ℕ → CookieRow → Option SameSite → Raw
raw_with name value row same_site = record (raw_of name value (is_set row.secure) (is_set row.http_only)) { same_site = same_site }

-- a cookie of these strings and attributes
abbrev pub cookie_with : List ℕ → List ℕ → List ℕ → List ℕ → CookieRow → Option SameSite → Expiry → Row
cookie_with domain path name value row same_site expires = record {
  raw = raw_with name value row same_site;
  domain = domain_of (not (is_set row.host_only)) domain;
  path = record { text = path; is_from_attribute = is_set row.has_path };
  expires = expires;
}

-- the same, of attributes that were read
abbrev pub cookie_of : List ℕ → List ℕ → List ℕ → List ℕ → Attributes → Row
cookie_of domain path name value attributes =
    cookie_with domain path name value attributes.row attributes.same_site (expiry_value attributes.expires)

-- four strings, or the status of the first that is not valid
abbrev pub texts_in : List ℕ → List ℕ → List ℕ → List ℕ → Result (List ℕ × List ℕ × List ℕ × List ℕ) Status
texts_in domain path name value =
    and_then (text_in domain) (λ d. and_then (text_in path) (λ p. and_then (text_in name) (λ n. and_then (text_in value) (λ v.
    Ok (d, p, n, v)))))

-- the cookie of four strings and a row, or the status of the first part that is not valid
abbrev pub cookie_in : List ℕ → List ℕ → List ℕ → List ℕ → CookieRow → Result Row Status
cookie_in domain path name value row =
    and_then (same_site_in row.same_site) (λ same_site. and_then (texts_in domain path name value) (λ texts.
    and_then (expiry_in (is_set row.persistent) row.expires) (λ expires.
    Ok (cookie_with texts.0 texts.1 texts.2 texts.3 row same_site expires))))

-- the same, and the time of the insertion
abbrev pub cookie_and_time : List ℕ → List ℕ → List ℕ → List ℕ → CookieRow → ℤ → Result (Row × Moment) Status
cookie_and_time domain path name value row now =
    and_then (cookie_in domain path name value row) (λ cookie. and_then (moment_in now) (λ moment. Ok (cookie, moment)))

-- a header value can have the name and the value, and the path begins with `/`
abbrev pub is_expressible : Row → Bool
is_expressible cookie = is_plain (pair cookie.raw.name cookie.raw.value) && is_absolute cookie.path.text

-- the cookie, if a server could set it
abbrev pub expressible : Row → Result Row Status
expressible cookie = if is_expressible cookie then Ok cookie else Err Parse

-- the domain is the host of the page, and has no dot before it
abbrev pub is_host : DomainValue → Parts → Bool
is_host domain page = host_is_identical domain page && not (starts_with nat_eq (domain_text domain) (codes "."))

-- the page `https://DOMAIN/` of the cookie, if its domain is the host of that page
abbrev pub host_page : Row → Result Parts Status
host_page cookie =
    elim (own_page cookie) [ None ↦ Err DomainMismatch | Some page ↦ if is_host cookie.domain page then Ok page else Err DomainMismatch ]

-- the cookie of these parts, its page, and the time of the insertion
abbrev pub insertion : List ℕ → List ℕ → List ℕ → List ℕ → CookieRow → ℤ → Result (Row × Parts × Moment) Status
insertion domain path name value row now =
    and_then (cookie_and_time domain path name value row now) (λ inputs. and_then (expressible inputs.0) (λ cookie.
    and_then (host_page cookie) (λ page. Ok (cookie, page, inputs.1))))

-- the insertion of that cookie, received from its page
abbrev pub insert_call : List ℕ → List ℕ → List ℕ → List ℕ → CookieRow → ℤ → Result Call Status
insert_call domain path name value row now =
    and_then (insertion domain path name value row now) (λ inputs. Ok (Insert inputs.0 inputs.1 inputs.2))
