-- The error of a cookie's name and value is that of its header value.
use Rattle.std.proofs.Common.{◌≡◌, ◌∙◌, ℕ, Bool, true, false, List, Result, Ok, Err, ap, refl, sym}
use Rattle.std.specs.Prelude.{◌++◌, Option, Some, None, if◌then◌else◌}
use Rattle.std.specs.Str.Iter.{HasSubslice}
use Rattle.std.proofs.lemmas.Bool.{cond_both, or_parts}
use Rattle.std.proofs.lemmas.List.Folds.{list_any-append}
use Rattle.url.specs.Parts.{Parts}
use Rattle.cookie_words.specs.Moments.{Moment}
use Rattle.cookie_raw.specs.Raw.{Raw}
use Rattle.cookie_raw.specs.Rfc6265bis.{reading_by}
use Rattle.cookie_raw.specs.Slices.{HasSlices}
use Rattle.cookie_raw.specs.declared.syntax.Syntax.TheVariants.{Rfc6265bis}
use Rattle.cookie_parts.specs.Cookie.{Row, and_then, cookie_of, domain_for, is_out_of_reach}
use Rattle.cookie_parts.specs.Domain.{DomainValue, domain_from_attribute}
use Rattle.cookie_parts.specs.declared.cookie_error.CookieError.{CookieError}
use Rattle.cookie_parts.specs.declared.cookie_error.CookieError.TheVariants.{NonHttpScheme}
use Rattle.cookie_strict.specs.HeaderValue.{domain_error, first_error, has_control, header_error, is_control, is_too_long, pair_error}
use Rattle.cookie_strict.specs.declared.error.StrictError.{StrictError}
use Rattle.cookie_strict.specs.declared.error.StrictError.TheVariants.{TooLong}

-- a slice of a header value without control characters has none
slice_lacks : (text part : List ℕ) → HasSubslice text part → has_control text ≡ false → has_control part ≡ false
slice_lacks text part (before, after, is) none =
    let whole : has_control (before ++ (part ++ after)) ≡ false = ap has_control (sym is) ∙ none in
    let later = (or_parts (has_control before) (has_control (part ++ after)) (sym (list_any-append is_control before (part ++ after)) ∙ whole)).1 in
    (or_parts (has_control part) (has_control after) (sym (list_any-append is_control part after) ∙ later)).0

-- so the name and the value of its cookie have none
pub pair_lacks : (text : List ℕ) (raw : Raw) → HasSlices text raw → has_control text ≡ false
    → pair_error raw ≡ (if is_too_long raw then Some TooLong else None)
pair_lacks text raw slices none = rw (slice_lacks text raw.name slices.name none, slice_lacks text raw.value slices.value none) refl

-- the first of two errors, of which the first one depends on a test
first_under : (is_long : Bool) (other : Option StrictError)
    → first_error (if is_long then Some TooLong else None) other ≡ (if is_long then Some TooLong else other)
first_under true other = refl
first_under false other = refl

-- what the header value passes, its raw cookie decides
pub checked_error : (text : List ℕ) (raw : Raw) → HasSlices text raw → has_control text ≡ false → reading_by Rfc6265bis text ≡ Ok raw
    → header_error text ≡ (if is_too_long raw then Some TooLong else domain_error raw)
checked_error text raw slices none is =
    rw (none, is) (ap (λ error. first_error error (domain_error raw)) (pair_lacks text raw slices none))
    ∙ first_under (is_too_long raw) (domain_error raw)

-- the raw cookie of a cookie
raw_of : (domain : Result DomainValue CookieError) (made : DomainValue → Row) (raw : Raw) (cookie : Row) → ((d : DomainValue) → (made d).raw ≡ raw)
    → and_then domain (λ d. Ok (made d)) ≡ Ok cookie → cookie.raw ≡ raw
raw_of (Ok d) made raw cookie is same = let made_is : made d ≡ cookie = cc in sym (ap (λ (c : Row). c.raw) made_is) ∙ is d
raw_of (Err error) made raw cookie is same = absurd (cc)

cookie_raw : (raw : Raw) (url : Parts) (now : Moment) (cookie : Row) → cookie_of raw url now ≡ Ok cookie → cookie.raw ≡ raw
unfolding cookie_of
cookie_raw raw url now cookie =
    cond_both (is_out_of_reach raw url) (Err NonHttpScheme) _ (λ (r : Result Row CookieError). r ≡ Ok cookie → cookie.raw ≡ raw)
    (λ _ is. absurd (cc)) (λ _ is. raw_of (domain_for (domain_from_attribute raw.domain) url) _ raw cookie (λ _. refl) is)

-- so a cookie that is made of a raw cookie has its error
pub made_pair : (raw : Raw) (url : Parts) (now : Moment) (cookie : Row) → cookie_of raw url now ≡ Ok cookie → pair_error cookie.raw ≡ pair_error raw
made_pair raw url now cookie made = ap pair_error (cookie_raw raw url now cookie made)
