-- Each kind of attribute parses as it was printed.
use Rattle.std.proofs.Common.{◌≡◌, ℕ, ℤ, pos, negsuc, Bool, true, false, not, ◌||◌, ◌==◌, List, [], ◌∷◌, ◌++◌, codes, nat_le, Option, Some, None, IfSome, if◌then◌else◌, option_map, option_and_then, unwrap_or, filter_map, refl, ap, ◌∙◌}
use Rattle.std.specs.List.{AllByRecursion, cons_option}
use Rattle.std.specs.Str.{trim_start, trim_end, chars}
use Rattle.std.proofs.Math.Utf8.{encode}
use Rattle.std.proofs.lemmas.Bool.{and_parts, false≢true}
use Rattle.cookie_words.specs.Moments.{Moment, is_day, is_time}
use Rattle.cookie_words.specs.Strings.{without_dot}
use Rattle.cookie_raw.specs.CookieText.{site_text, rfc1123_date, age_text, has_four_digits, expires_text}
use Rattle.cookie_raw.specs.PlainCookie.{is_plain_age, is_plain_year, is_plain_moment, is_plain_expires}
use Rattle.cookie_raw.specs.Raw.{ExpiresValue, At, Session}
use Rattle.cookie_raw.specs.SetCookie.{attribute_is_named, value_of, expires_from, max_age_from, domain_from, path_from, secure_from, http_only_from, site_of, same_site_from, last, last_accepted, accepted_value}
use Rattle.cookie_raw.specs.declared.same_site.SameSite.{SameSite}
use Rattle.cookie_raw.specs.declared.same_site.SameSite.TheVariants as same_site
use Rattle.cookie_raw.proofs.AgesBack.{age_back, age_is_plain}
use Rattle.cookie_raw.proofs.DatesBack.{date_back, date_is_plain}
use Rattle.cookie_raw.proofs.JoinedPieces.{Attribute, IsPiece, IsWellPrinted, present}
use Rattle.cookie_raw.proofs.PlainParts.{IsPlainText, IsPlainDomain, plain_text}
use Rattle.cookie_raw.proofs.PrintedAttributes.{flag_attribute, value_attribute, IsLabel, flag_is_piece, value_is_piece, value_of_piece, label-http_only, label-same_site, label-secure, label-path, label-domain, label-max_age, label-expires}

-- the kind accepts no other name
abbrev pub TakesOnly : {T : Type 0} → List ℕ → (List ℕ → List ℕ → Option T) → Type 0
TakesOnly kind from = (name value : List ℕ) → attribute_is_named kind name ≡ false → from name value ≡ None

-- the pieces of the attributes of one name
abbrev pub pieces_named : List ℕ → List Attribute → List (Option (List ℕ))
pieces_named kind [] = []
pieces_named kind (attribute ∷ more) =
    if attribute_is_named kind attribute.name then attribute.piece ∷ pieces_named kind more else pieces_named kind more

-- the value of a piece depends on its name
said_by_name : {T : Type 0} (from : List ℕ → List ℕ → Option T) (name piece : List ℕ) → IsPiece name piece
    → accepted_value from piece ≡ from name (value_of piece)
said_by_name from name piece h = ap (λ n. from n (value_of piece)) h.named

-- one more attribute, of this kind or another
one_more : {T : Type 0} (kind : List ℕ) (from : List ℕ → List ℕ → Option T) → TakesOnly kind from
    → (name : List ℕ) (piece : Option (List ℕ)) (rest : List (List ℕ)) (of_kind : List (Option (List ℕ))) (is_kind : Bool)
    → attribute_is_named kind name ≡ is_kind → IfSome piece (IsPiece name)
    → filter_map (accepted_value from) rest ≡ filter_map (option_and_then (accepted_value from)) of_kind
    → filter_map (accepted_value from) (cons_option piece rest)
    ≡ filter_map (option_and_then (accepted_value from)) (if is_kind then piece ∷ of_kind else of_kind)
one_more kind from only name None rest of_kind true e h same = same
one_more kind from only name None rest of_kind false e h same = same
one_more kind from only name (Some piece) rest of_kind true e h same = ap (cons_option (accepted_value from piece)) same
one_more kind from only name (Some piece) rest of_kind false e h same =
    ap (λ given. cons_option given (filter_map (accepted_value from) rest))
    (said_by_name from name piece h ∙ only name (value_of piece) e)
    ∙ same

-- only the attributes of its name give a kind its value
given_by_name : {T : Type 0} (kind : List ℕ) (from : List ℕ → List ℕ → Option T) → TakesOnly kind from
    → (attributes : List Attribute) → AllByRecursion IsWellPrinted attributes
    → filter_map (accepted_value from) (present attributes)
    ≡ filter_map (option_and_then (accepted_value from)) (pieces_named kind attributes)
given_by_name kind from only [] h = refl
given_by_name kind from only (attribute ∷ more) h =
    one_more kind from only attribute.name attribute.piece (present more) (pieces_named kind more)
    (attribute_is_named kind attribute.name) refl h.0
    (given_by_name kind from only more h.1)

-- the last of at most one element
last_of_one : {T : Type 0} (given : Option T) → last (cons_option given []) ≡ given
last_of_one None = refl
last_of_one (Some x) = refl

-- the only attribute of a name gives the kind its value
pub one_decides : {T : Type 0} (kind : List ℕ) (from : List ℕ → List ℕ → Option T) → TakesOnly kind from
    → (attributes : List Attribute) → AllByRecursion IsWellPrinted attributes
    → (piece : Option (List ℕ)) → pieces_named kind attributes ≡ piece ∷ []
    → last_accepted from (present attributes) ≡ option_and_then (accepted_value from) piece
one_decides kind from only attributes h piece e =
    ap last (given_by_name kind from only attributes h ∙ ap (filter_map (option_and_then (accepted_value from))) e)
    ∙ last_of_one (option_and_then (accepted_value from) piece)

-- the value of a printed attribute
value_given : {T : Type 0} (from : List ℕ → List ℕ → Option T) (name : List ℕ) (value : Option (List ℕ)) → IsLabel name
    → IfSome value IsPlainText
    → option_and_then (accepted_value from) (value_attribute name value).piece ≡ option_and_then (from name) value
value_given from name None label plain = refl
value_given from name (Some v) label plain =
    said_by_name from name (32 ∷ (name ++ 61 ∷ v)) (value_is_piece name v label plain)
    ∙ ap (from name) (value_of_piece name v label plain)

-- HttpOnly, true or absent
pub http_only_back : (http_only : Option Bool) → unwrap_or http_only true ≡ true
    → option_and_then (accepted_value http_only_from) (flag_attribute (codes "HttpOnly") (unwrap_or http_only false)).piece ≡ http_only
http_only_back None h = refl
http_only_back (Some true) h =
    said_by_name http_only_from (codes "HttpOnly") (32 ∷ codes "HttpOnly") (flag_is_piece (codes "HttpOnly") label-http_only)
http_only_back (Some false) h = absurd (false≢true h)

-- Secure, true if SameSite is `None`
pub secure_back : (secure : Option Bool) (for_all : Bool) → unwrap_or secure true ≡ true
    → (not for_all || unwrap_or secure false) ≡ true
    → option_and_then (accepted_value secure_from) (flag_attribute (codes "Secure") (unwrap_or secure for_all)).piece ≡ secure
secure_back None true h k = absurd (false≢true k)
secure_back None false h k = refl
secure_back (Some true) for_all h k =
    said_by_name secure_from (codes "Secure") (32 ∷ codes "Secure") (flag_is_piece (codes "Secure") label-secure)
secure_back (Some false) for_all h k = absurd (false≢true h)

-- each printed value of SameSite is plain
pub site_is_plain : (site : Option SameSite) → IfSome (option_map site_text site) IsPlainText
unfolding trim_start trim_end chars encode
site_is_plain None = tt
site_is_plain (Some same_site.Strict) = record { has_no_semicolon = refl; trimmed = refl }
site_is_plain (Some same_site.Lax) = record { has_no_semicolon = refl; trimmed = refl }
site_is_plain (Some same_site.None) = record { has_no_semicolon = refl; trimmed = refl }

-- and parses as that value
site_read : (site : Option SameSite) → option_and_then (same_site_from (codes "SameSite")) (option_map site_text site) ≡ site
unfolding site_of
site_read None = refl
site_read (Some same_site.Strict) = refl
site_read (Some same_site.Lax) = refl
site_read (Some same_site.None) = refl

-- SameSite
pub same_site_back : (site : Option SameSite)
    → option_and_then (accepted_value same_site_from) (value_attribute (codes "SameSite") (option_map site_text site)).piece ≡ site
same_site_back site =
    value_given same_site_from (codes "SameSite") (option_map site_text site) label-same_site (site_is_plain site)
    ∙ site_read site

-- a path is parsed as it is
path_read : (path : Option (List ℕ)) → option_and_then (path_from (codes "Path")) path ≡ path
path_read None = refl
path_read (Some p) = refl

-- Path
pub path_back : (path : Option (List ℕ)) → IfSome path IsPlainText
    → option_and_then (accepted_value path_from) (value_attribute (codes "Path") path).piece ≡ path
path_back path plain = value_given path_from (codes "Path") path label-path plain ∙ path_read path

-- a plain domain is a plain string
pub domain_is_plain : (domain : Option (List ℕ)) → IfSome domain IsPlainDomain → IfSome domain IsPlainText
domain_is_plain None plain = tt
domain_is_plain (Some d) plain = plain.text

-- and is parsed as it is
domain_read : (domain : Option (List ℕ)) → IfSome domain IsPlainDomain
    → option_map without_dot (option_and_then (domain_from (codes "Domain")) domain) ≡ domain
domain_read None plain = refl
domain_read (Some d) plain = rw plain.is_there (ap Some plain.without_dot)

-- Domain
pub domain_back : (domain : Option (List ℕ)) → IfSome domain IsPlainDomain
    → option_map without_dot (option_and_then (accepted_value domain_from) (value_attribute (codes "Domain") domain).piece)
    ≡ domain
domain_back domain plain =
    ap (option_map without_dot) (value_given domain_from (codes "Domain") domain label-domain (domain_is_plain domain plain))
    ∙ domain_read domain plain

-- a plain Max-Age is printed as a plain string
pub age_text_is_plain : (age : Option ℤ) → IfSome age (λ a. is_plain_age a ≡ true)
    → IfSome (option_map age_text age) IsPlainText
age_text_is_plain None plain = tt
age_text_is_plain (Some a) plain = plain_text (age_text a) (age_is_plain a plain)

-- and parses as that Max-Age
age_read : (age : Option ℤ) → IfSome age (λ a. is_plain_age a ≡ true)
    → option_and_then (max_age_from (codes "Max-Age")) (option_map age_text age) ≡ age
age_read None plain = refl
age_read (Some a) plain = age_back a plain

-- Max-Age
pub max_age_back : (age : Option ℤ) → IfSome age (λ a. is_plain_age a ≡ true)
    → option_and_then (accepted_value max_age_from) (value_attribute (codes "Max-Age") (option_map age_text age)).piece ≡ age
max_age_back age plain =
    value_given max_age_from (codes "Max-Age") (option_map age_text age) label-max_age (age_text_is_plain age plain)
    ∙ age_read age plain

-- a plain year has four digits
year_is_written : (year : ℤ) → is_plain_year year ≡ true → has_four_digits year ≡ true
year_is_written (pos year) h = (and_parts (nat_le 1601 year) (nat_le year 9999) h).1
year_is_written (negsuc year) h = h

-- so a plain time is printed
moment_is_written : (moment : Moment) → is_plain_moment moment ≡ true → expires_text (At moment) ≡ Some (rfc1123_date moment)
moment_is_written moment h =
    let on_clock = and_parts _ (moment.nanosecond == 0) h in
    let on_calendar = and_parts _ (is_time moment.hour moment.minute moment.second) on_clock.0 in
    let year = and_parts (is_plain_year moment.year) (is_day moment.year moment.month moment.day) on_calendar.0 in
    rw (year_is_written moment.year year.0)

-- a plain Expires is printed as a plain string
pub ending_is_plain : (expires_value : Option ExpiresValue) → IfSome expires_value (λ e. is_plain_expires e ≡ true)
    → IfSome (option_and_then expires_text expires_value) IsPlainText
ending_is_plain None plain = tt
ending_is_plain (Some (At moment)) plain =
    rw (moment_is_written moment plain) (plain_text (rfc1123_date moment) (date_is_plain moment plain))
ending_is_plain (Some Session) plain = absurd (false≢true plain)

-- and parses as that Expires
ending_read : (expires_value : Option ExpiresValue) → IfSome expires_value (λ e. is_plain_expires e ≡ true)
    → option_and_then (expires_from (codes "Expires")) (option_and_then expires_text expires_value) ≡ expires_value
ending_read None plain = refl
ending_read (Some (At moment)) plain =
    rw (moment_is_written moment plain) (ap (option_map At) (date_back moment plain))
ending_read (Some Session) plain = absurd (false≢true plain)

-- Expires
pub expires_back : (expires_value : Option ExpiresValue) → IfSome expires_value (λ e. is_plain_expires e ≡ true)
    → option_and_then (accepted_value expires_from)
    (value_attribute (codes "Expires") (option_and_then expires_text expires_value)).piece
    ≡ expires_value
expires_back expires_value plain =
    value_given expires_from (codes "Expires") (option_and_then expires_text expires_value) label-expires
    (ending_is_plain expires_value plain)
    ∙ ending_read expires_value plain
