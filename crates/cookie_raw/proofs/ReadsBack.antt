-- A printed plain cookie parses as that cookie.
use Rattle.std.proofs.Common.{◌≡◌, ℕ, true, false, ◌==◌, List, [], ◌∷◌, ◌++◌, length, codes, Option, Ok, IsTrue, option_map, option_and_then, unwrap_or, refl, sym, ap, subst, ◌∙◌}
use Rattle.std.specs.List.{AllByRecursion, list_any}
use Rattle.std.specs.Str.{trim}
use Rattle.std.proofs.lemmas.List.Folds.{list_any-append}
use Rattle.cookie_words.specs.Strings.{without_dot}
use Rattle.cookie_raw.specs.CookieText.{site_text, age_text, expires_text, is_for_all_sites, cookie_text}
use Rattle.cookie_raw.specs.PlainCookie.{is_plain}
use Rattle.cookie_raw.specs.Raw.{Raw}
use Rattle.cookie_raw.specs.SetCookie.{is_equals, is_semicolon, pair_of, attributes, has_equals, name_of, value_of, expires_from, max_age_from, domain_from, path_from, secure_from, http_only_from, same_site_from, accepted_value, last_accepted, reading}
use Rattle.cookie_raw.proofs.JoinedPieces.{IsWellPrinted, joined, present, pair_of_joined, attributes_of_joined, before_at, after_at}
use Rattle.cookie_raw.proofs.KindsBack.{TakesOnly, pieces_named, one_decides, http_only_back, secure_back, site_is_plain, same_site_back, path_back, domain_is_plain, domain_back, age_text_is_plain, max_age_back, ending_is_plain, expires_back}
use Rattle.cookie_raw.proofs.PlainParts.{IsPlain, plain_cookie}
use Rattle.cookie_raw.proofs.PrintedAttributes.{pair_text, printed, text_is_joined, flag_is_well_printed, value_is_well_printed, label-http_only, label-same_site, label-secure, label-path, label-domain, label-max_age, label-expires}

-- the attributes of a plain cookie are printed well
well_printed : (cookie : Raw) → IsPlain cookie → AllByRecursion IsWellPrinted (printed cookie)
well_printed cookie plain =
    let http_only = flag_is_well_printed (codes "HttpOnly") (unwrap_or cookie.http_only false) label-http_only in
    let site = option_map site_text cookie.same_site in
    let same_site = value_is_well_printed (codes "SameSite") site label-same_site (site_is_plain cookie.same_site) in
    let is_secure = unwrap_or cookie.secure (is_for_all_sites cookie.same_site) in
    let secure = flag_is_well_printed (codes "Secure") is_secure label-secure in
    let path = value_is_well_printed (codes "Path") cookie.path label-path plain.path in
    let plain_domain = domain_is_plain cookie.domain plain.domain in
    let domain = value_is_well_printed (codes "Domain") cookie.domain label-domain plain_domain in
    let plain_age = age_text_is_plain cookie.max_age plain.max_age in
    let max_age = value_is_well_printed (codes "Max-Age") (option_map age_text cookie.max_age) label-max_age plain_age in
    let date = option_and_then expires_text cookie.expires in
    let expires = value_is_well_printed (codes "Expires") date label-expires (ending_is_plain cookie.expires plain.expires) in
    (http_only, (same_site, (secure, (path, (domain, (max_age, (expires, tt)))))))

-- of a plain cookie's attributes, the one of a name gives its kind the value
decided : {T : Type 0} (cookie : Raw) → IsPlain cookie → (kind : List ℕ) (from : List ℕ → List ℕ → Option T) → TakesOnly kind from
    → (piece : Option (List ℕ)) → pieces_named kind (printed cookie) ≡ piece ∷ []
    → last_accepted from (present (printed cookie)) ≡ option_and_then (accepted_value from) piece
decided cookie plain kind from only piece e =
    one_decides kind from only (printed cookie) (well_printed cookie plain) piece e

-- the attributes give the parts of the cookie
record GiveParts (cookie : Raw) (attributes : List (List ℕ)) : Type 0 where
  domain : option_map without_dot (last_accepted domain_from attributes) ≡ cookie.domain
  path : last_accepted path_from attributes ≡ cookie.path
  secure : last_accepted secure_from attributes ≡ cookie.secure
  http_only : last_accepted http_only_from attributes ≡ cookie.http_only
  same_site : last_accepted same_site_from attributes ≡ cookie.same_site
  max_age : last_accepted max_age_from attributes ≡ cookie.max_age
  expires : last_accepted expires_from attributes ≡ cookie.expires

-- the printed attributes of a plain cookie give its parts
parts_back : (cookie : Raw) → IsPlain cookie → GiveParts cookie (present (printed cookie))
parts_back cookie plain = record {
  domain =
      ap (option_map without_dot) (decided cookie plain (codes "Domain") domain_from (λ name value e. rw e) _ refl)
      ∙ domain_back cookie.domain plain.domain;
  path =
      decided cookie plain (codes "Path") path_from (λ name value e. rw e) _ refl
      ∙ path_back cookie.path plain.path;
  secure =
      decided cookie plain (codes "Secure") secure_from (λ name value e. rw e) _ refl
      ∙ secure_back cookie.secure (is_for_all_sites cookie.same_site) plain.secure plain.same_site;
  http_only =
      decided cookie plain (codes "HttpOnly") http_only_from (λ name value e. rw e) _ refl
      ∙ http_only_back cookie.http_only plain.http_only;
  same_site =
      decided cookie plain (codes "SameSite") same_site_from (λ name value e. rw e) _ refl
      ∙ same_site_back cookie.same_site;
  max_age =
      decided cookie plain (codes "Max-Age") max_age_from (λ name value e. rw e) _ refl
      ∙ max_age_back cookie.max_age plain.max_age;
  expires =
      decided cookie plain (codes "Expires") expires_from (λ name value e. rw e) _ refl
      ∙ expires_back cookie.expires plain.expires;
}

-- the pair has no `;`
pair_has_no_semicolon : (cookie : Raw) → IsPlain cookie → list_any is_semicolon (pair_text cookie) ≡ false
pair_has_no_semicolon cookie plain =
    rw (list_any-append is_semicolon cookie.name (61 ∷ cookie.value), plain.name.text.has_no_semicolon) plain.value.has_no_semicolon

-- it has a `=`
pair_has_equals : (cookie : Raw) → IsPlain cookie → has_equals (pair_text cookie) ≡ true
pair_has_equals cookie plain =
    rw (list_any-append is_equals cookie.name (61 ∷ cookie.value), plain.name.has_no_equals)

-- the name precedes it
name_of_pair : (cookie : Raw) → IsPlain cookie → name_of (pair_text cookie) ≡ cookie.name
name_of_pair cookie plain =
    ap trim (before_at is_equals cookie.name 61 cookie.value plain.name.has_no_equals refl) ∙ plain.name.text.trimmed

-- the value follows it
value_of_pair : (cookie : Raw) → IsPlain cookie → value_of (pair_text cookie) ≡ cookie.value
value_of_pair cookie plain =
    ap trim (after_at is_equals cookie.name 61 cookie.value plain.name.has_no_equals refl) ∙ plain.value.trimmed

-- a string with the pair and the attributes of a cookie parses as that cookie
assembled : (text : List ℕ) (cookie : Raw) → has_equals (pair_of text) ≡ true → (length cookie.name == 0) ≡ false
    → name_of (pair_of text) ≡ cookie.name → value_of (pair_of text) ≡ cookie.value → GiveParts cookie (attributes text)
    → reading text ≡ Ok cookie
assembled text cookie pair there name value parts = rw (
  pair,
  name,
  there,
  value,
  parts.domain,
  parts.path,
  parts.secure,
  parts.http_only,
  parts.same_site,
  parts.max_age,
  parts.expires,
)

-- the joined pair and attributes of a plain cookie parse as that cookie
joined_reads : (cookie : Raw) (text : List ℕ) → IsPlain cookie → text ≡ pair_text cookie ++ joined (printed cookie)
    → reading text ≡ Ok cookie
joined_reads cookie text plain e =
    let whole = pair_has_no_semicolon cookie plain in
    let pair = ap pair_of e ∙ pair_of_joined (pair_text cookie) (printed cookie) whole in
    let pieces_are = attributes_of_joined (pair_text cookie) (printed cookie) whole (well_printed cookie plain) in
    assembled text cookie (ap has_equals pair ∙ pair_has_equals cookie plain) plain.name.is_there
    (ap name_of pair ∙ name_of_pair cookie plain)
    (ap value_of pair ∙ value_of_pair cookie plain)
    (subst (GiveParts cookie) (sym (ap attributes e ∙ pieces_are)) (parts_back cookie plain))

-- a printed plain cookie parses as that cookie
pub plain_reads_back : (cookie : Raw) → IsTrue (is_plain cookie) → reading (cookie_text cookie) ≡ Ok cookie
plain_reads_back cookie h = joined_reads cookie (cookie_text cookie) (plain_cookie cookie h) (text_is_joined cookie)
