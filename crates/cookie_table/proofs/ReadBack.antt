-- What is written reads back.
use Rattle.jiff_core.proofs.SignedLemmas.{signed_arith}
use Rattle.std.specs.Str.{is_utf8, IsUtf8}
use Rattle.std.proofs.lemmas.Str.{is_utf8-from_IsUtf8, IsUtf8-from_is_utf8}
use Rattle.std.proofs.lemmas.Bool.{false_from_ne_true}
use Rattle.std.proofs.Common.{◌≡◌, ◌≤ℤ◌, ℕ, ℤ, int_lt, negsuc, pos, true≢false, arith, Bool, true, false, List, Option, Some, None, option_map, refl}
use Rattle.sqlite_value.specs.declared.value.Value.TheVariants.{Text}
use Rattle.cookie_words.specs.Moments.{Moment}
use Rattle.cookie_raw.specs.Raw.{At}
use Rattle.cookie_raw.specs.declared.same_site.SameSite.{SameSite}
use Rattle.cookie_raw.specs.declared.same_site.SameSite.TheVariants as Site
use Rattle.cookie_parts.specs.Cookie.{Row}
use Rattle.cookie_parts.specs.Domain.{DomainValue, HostOnly, Suffix, NotPresent, Empty, domain_text, kind_of}
use Rattle.cookie_parts.specs.Expiry.{AtUtc}
use Rattle.cookie_forms.specs.MomentText.{moment_text, parsed_moment, whole_seconds}
use Rattle.cookie_table.specs.Columns.{age_value, attribute_value, expiry_value, flag_value, or_null, site_value, table_row, time_value}
use Rattle.cookie_table.specs.FromColumns.{age_in, attribute_in, cookie_in, domain_in, domain_numbered, expiry_in, flag_in, if_any, path_in, raw_in, site_in, text_in}
use Rattle.cookie_table.specs.WholeSeconds.{age_in_seconds, attribute_in_seconds, expiry_in_seconds, in_whole_seconds}

-- a string is read if and only if it is UTF-8
pub text_back : (text : List ℕ) → IsUtf8 text → text_in (Text text) ≡ Some text
text_back text utf8 = rw (is_utf8-from_IsUtf8 text utf8) refl

pub no_text : (text : List ℕ) → ¬ (IsUtf8 text) → text_in (Text text) ≡ None
no_text text other = rw (false_from_ne_true (is_utf8 text) (λ is. other (IsUtf8-from_is_utf8 text is))) refl

pub time_as_expiry : (moment : Moment) → IsUtf8 (moment_text moment) → parsed_moment (moment_text moment) ≡ Some (whole_seconds moment)
    → expiry_in (time_value moment) ≡ Some (AtUtc (whole_seconds moment))
unfolding time_value
time_as_expiry moment utf8 parsed = rw (is_utf8-from_IsUtf8 (moment_text moment) utf8, parsed) refl

pub time_as_attribute : (moment : Moment) → IsUtf8 (moment_text moment) → parsed_moment (moment_text moment) ≡ Some (whole_seconds moment)
    → if_any attribute_in (time_value moment) ≡ Some (Some (At (whole_seconds moment)))
unfolding time_value
time_as_attribute moment utf8 parsed = rw (is_utf8-from_IsUtf8 (moment_text moment) utf8, parsed) refl

kind_back : (domain : DomainValue) → domain_numbered (kind_of domain) (domain_text domain) ≡ Some domain
kind_back (HostOnly text) = refl
kind_back (Suffix text) = refl
kind_back NotPresent = refl
kind_back Empty = refl

flag_back : (flag : Bool) → flag_in (flag_value flag) ≡ Some flag
flag_back true = refl
flag_back false = refl

any_flag_back : (flag : Option Bool) → if_any flag_in (or_null flag_value flag) ≡ Some flag
any_flag_back None = refl
any_flag_back (Some true) = refl
any_flag_back (Some false) = refl

any_site_back : (site : Option SameSite) → if_any site_in (or_null site_value site) ≡ Some site
any_site_back None = refl
any_site_back (Some Site.None) = refl
any_site_back (Some Site.Lax) = refl
any_site_back (Some Site.Strict) = refl

any_age_back : (age : Option ℤ) → if_any age_in (or_null age_value age) ≡ Some (option_map age_in_seconds age)
any_age_back None = refl
any_age_back (Some age) = refl

domain_back : (id : ℤ) (cookie : Row) → text_in (Text (domain_text cookie.domain)) ≡ Some (domain_text cookie.domain)
    → domain_in (table_row id cookie) ≡ Some cookie.domain
unfolding domain_in
domain_back id cookie text = rw text (kind_back cookie.domain)

path_back : (id : ℤ) (cookie : Row) → text_in (Text cookie.path.text) ≡ Some cookie.path.text
    → path_in (table_row id cookie) ≡ Some cookie.path
unfolding path_in
path_back id cookie text = rw (text, flag_back cookie.path.is_from_attribute) refl

raw_back : (id : ℤ) (cookie : Row)
    → text_in (Text cookie.raw.name) ≡ Some cookie.raw.name → text_in (Text cookie.raw.value) ≡ Some cookie.raw.value
    → if_any text_in (or_null Text cookie.raw.domain) ≡ Some cookie.raw.domain → if_any text_in (or_null Text cookie.raw.path) ≡ Some cookie.raw.path
    → if_any attribute_in (or_null attribute_value cookie.raw.expires) ≡ Some (option_map attribute_in_seconds cookie.raw.expires)
    → raw_in (table_row id cookie) ≡ Some (in_whole_seconds cookie).raw
unfolding raw_in
raw_back id cookie name value domain path expires =
    rw (name, value, any_flag_back cookie.raw.secure, any_flag_back cookie.raw.http_only, any_site_back cookie.raw.same_site, domain, path, any_age_back cookie.raw.max_age, expires) refl

pub cookie_back : (id : ℤ) (cookie : Row) → text_in (Text (domain_text cookie.domain)) ≡ Some (domain_text cookie.domain)
    → text_in (Text cookie.path.text) ≡ Some cookie.path.text
    → text_in (Text cookie.raw.name) ≡ Some cookie.raw.name → text_in (Text cookie.raw.value) ≡ Some cookie.raw.value
    → expiry_in (expiry_value cookie.expires) ≡ Some (expiry_in_seconds cookie.expires)
    → if_any text_in (or_null Text cookie.raw.domain) ≡ Some cookie.raw.domain → if_any text_in (or_null Text cookie.raw.path) ≡ Some cookie.raw.path
    → if_any attribute_in (or_null attribute_value cookie.raw.expires) ≡ Some (option_map attribute_in_seconds cookie.raw.expires)
    → cookie_in (table_row id cookie) ≡ Some (in_whole_seconds cookie)
unfolding cookie_in
cookie_back id cookie host path name value expiry domain_attribute path_attribute expires =
    rw (domain_back id cookie host, path_back id cookie path, raw_back id cookie name value domain_attribute path_attribute expires, expiry) refl

-- a year that is not early
pub not_early : (year : ℤ) → int_lt year (pos 0) ≡ false → pos 0 ≤ℤ year
not_early (pos n) late = omega (arith, signed_arith)
not_early (negsuc n) late = absurd (true≢false late)
