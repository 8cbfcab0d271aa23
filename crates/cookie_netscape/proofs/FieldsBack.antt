-- The fields of a cookie that the format can represent, read back.
use Rattle.std.proofs.Common.{◌≡◌, ℕ, ◌==◌, ◌-◌, Bool, true, false, List, [], ◌∷◌, length, map, codes, nat_eq, Option, Some, None, is_some, option_map, refl, sym, ap, ◌∙◌}
use Rattle.std.specs.Char.{is_ascii_control, to_ascii_lowercase}
use Rattle.std.specs.List.{AllByRecursion, ends_with, join_with_byte, starts_with}
use Rattle.std.proofs.lemmas.Bool.{and_parts, cond-false, cond-true, false≢true, not-true, or_parts}
use Rattle.cookie_words.specs.Steps.{◌>>=◌}
use Rattle.cookie_words.specs.Strings.{pieces, without_dot}
use Rattle.cookie_parts.specs.Cookie.{Row, is_http_only, is_secure_only}
use Rattle.cookie_parts.specs.Domain.{DomainValue, HostOnly, Suffix, NotPresent, Empty as EmptyDomain, domain_text}
use Rattle.cookie_parts.specs.Expiry.{Expiry}
use Rattle.cookie_parts.specs.Path.{from_attribute}
use Rattle.cookie_netscape.specs.HostFields.{host_from, is_representable_host, plain_host, written_host}
use Rattle.cookie_netscape.specs.Lines.{Fields, after_quote, are_fields, before_quote, cookie_from, domain_of, expiry_at, expiry_from, fields_from, fields_of, flag_from, is_domain_field, is_path_field, non_empty_path, path_from, row_from, fields_row, with_name}
use Rattle.cookie_netscape.specs.Written.{as_written, domain_field, expiry_field, expiry_second, flag_text, has_subdomains, is_representable}
use Rattle.cookie_netscape.specs.declared.writing.SessionExpiry.{SessionExpiry}
use Rattle.cookie_netscape.proofs.HostsBack.{host_back, plain_back}
use Rattle.cookie_netscape.proofs.JoinedFields.{IsField, split_joined}
use Rattle.cookie_netscape.proofs.SecondsBack.{expiry_back, expiry_is_field}

-- what the format requires of a cookie
pub record FitsLine (row : Row) : Type 0 where
  pub host_is_field : is_domain_field (written_host (domain_text row.domain)) ≡ true
  pub host_is_representable : is_representable_host (domain_text row.domain) ≡ true
  pub path_is_field : is_path_field row.path.text ≡ true
  pub has_name : (length row.raw.name == 0) ≡ false
  pub name_is_field : IsField row.raw.name
  pub name_ends : ends_with nat_eq row.raw.name (codes " ") ≡ false
  pub value_is_field : IsField row.raw.value
  pub value_ends : ends_with nat_eq row.raw.value (codes " ") ≡ false

-- a cookie that the format can represent fits a line
pub fits_line : (row : Row) → is_representable row ≡ true → FitsLine row
unfolding are_fields
fits_line row fits =
    let at_own = and_parts _ _ (and_parts _ _ fits).0 in
    let at_value = and_parts _ _ at_own.0 in
    let at_name = and_parts _ _ at_value.0 in
    let at_path = and_parts _ _ at_name.0 in
    let name = and_parts _ _ at_name.1 in
    let name_end = and_parts _ _ name.1 in
    let value_end = and_parts _ _ at_value.1 in
    record {
      host_is_field = at_path.0;
      host_is_representable = at_own.1;
      path_is_field = at_path.1;
      has_name = not-true _ (and_parts _ _ name.0).0;
      name_is_field = not-true _ name_end.1;
      name_ends = not-true _ (and_parts _ _ name_end.0).1;
      value_is_field = not-true _ value_end.1;
      value_ends = not-true _ (and_parts _ _ value_end.0).1;
    }

-- a written flag reads back
flag_back : (is_set : Bool) → flag_from (flag_text is_set) ≡ Some is_set
flag_back true = refl
flag_back false = refl

-- a written flag has no control character
flag_is_field : (is_set : Bool) → IsField (flag_text is_set)
flag_is_field true = refl
flag_is_field false = refl

-- a flag that is none is not read
no_flag : (read : Option Bool) → is_some read ≡ false → read ≡ None
no_flag None none = refl
no_flag (Some is_set) none = absurd (false≢true (sym none))

-- what a path of a line has: no flag, no control character, and no quotation marks
path_is_no_flag : (path : List ℕ) → is_path_field path ≡ true → flag_from path ≡ None
path_is_no_flag path field = no_flag (flag_from path) (not-true _ (and_parts _ _ (and_parts _ _ field).0).1)

path_has_no_control : (path : List ℕ) → is_path_field path ≡ true → IsField path
path_has_no_control path field = not-true _ (and_parts _ _ field).1

-- a string without a quotation mark at its start
no_quote_first : (path : List ℕ) → starts_with nat_eq path (codes "\"") ≡ false → after_quote path ≡ path
unfolding after_quote
no_quote_first path none = cond-false _ _ _ none

-- a string without a quotation mark at its end
no_quote_last : (path : List ℕ) → ends_with nat_eq path (codes "\"") ≡ false → before_quote path ≡ path
unfolding before_quote
no_quote_last path none = cond-false _ _ _ none

-- a path that a line can have reads back
path_back : (path : List ℕ) → is_path_field path ≡ true → path_from path ≡ path
path_back path field =
    let at_quote = and_parts _ _ (and_parts _ _ (and_parts _ _ field).0).0 in
    let quotes = and_parts _ _ at_quote.1 in
    ap (λ text. non_empty_path (before_quote text)) (no_quote_first path (not-true _ quotes.0))
    ∙ ap non_empty_path (no_quote_last path (not-true _ quotes.1))
    ∙ cond-false _ _ _ (not-true _ at_quote.0)

-- the first byte of a domain: no dot, no space, no control character, and none with which a comment begins
pub record FirstByte (b : ℕ) : Type 0 where
  pub is_no_hash : (b == 35) ≡ false
  pub is_no_dollar : (b == 36) ≡ false
  pub is_no_dot : (b == 46) ≡ false
  pub is_no_space : (b == 32) ≡ false
  pub is_no_control : is_ascii_control b ≡ false

pub first_byte : (b : ℕ) (rest : List ℕ) → is_domain_field (b ∷ rest) ≡ true → FirstByte b
first_byte b rest field =
    let parts = and_parts _ _ field in
    let first = or_parts _ _ (not-true _ parts.0) in
    let dot = or_parts _ _ first.0 in
    let comment = or_parts _ _ dot.0 in
    record {
      is_no_hash = comment.0;
      is_no_dollar = comment.1;
      is_no_dot = dot.1;
      is_no_space = first.1;
      is_no_control = (or_parts _ _ (not-true _ parts.1)).0;
    }

-- a domain has no control character
host_has_no_control : (host : List ℕ) → is_domain_field host ≡ true → IsField host
host_has_no_control [] field = absurd (false≢true field)
host_has_no_control (b ∷ rest) field = not-true _ (and_parts _ _ field).1

-- no dot is dropped before a domain
no_dot_dropped : (host : List ℕ) → is_domain_field host ≡ true → without_dot host ≡ host
no_dot_dropped [] field = absurd (false≢true field)
no_dot_dropped (b ∷ rest) field = cond-false (b == 46) rest (b ∷ rest) (first_byte b rest field).is_no_dot

-- the dot that is written before a domain is dropped
dot_dropped : (domain : DomainValue) → is_domain_field (written_host (domain_text domain)) ≡ true
    → without_dot (domain_field domain) ≡ written_host (domain_text domain)
dot_dropped (HostOnly d) field = no_dot_dropped (written_host d) field
dot_dropped (Suffix d) field = refl
dot_dropped NotPresent field = no_dot_dropped (written_host []) field
dot_dropped EmptyDomain field = no_dot_dropped (written_host []) field

-- a written domain has no control character
domain_is_field : (domain : DomainValue) → is_domain_field (written_host (domain_text domain)) ≡ true → IsField (domain_field domain)
domain_is_field (HostOnly d) field = host_has_no_control (written_host d) field
domain_is_field (Suffix d) field = host_has_no_control (written_host d) field
domain_is_field NotPresent field = host_has_no_control (written_host []) field
domain_is_field EmptyDomain field = host_has_no_control (written_host []) field

-- the written fields between the domain and the name
abbrev pub middle_fields : SessionExpiry → Row → List (List ℕ) → List (List ℕ)
middle_fields session row last =
    flag_text (has_subdomains row.domain) ∷ row.path.text ∷ flag_text (is_secure_only row.raw) ∷ expiry_field session row.expires ∷ last

-- the name and the value, which is missing if it is empty
abbrev pub last_fields_read : List ℕ → List ℕ → List (List ℕ)
last_fields_read name [] = name ∷ []
last_fields_read name (v ∷ value) = name ∷ (v ∷ value) ∷ []

-- the fields of a line as they are read, joined by HTAB
abbrev pub fields_read : SessionExpiry → Row → List ℕ
fields_read session row =
    join_with_byte 9 (domain_field row.domain ∷ middle_fields session row (last_fields_read row.raw.name row.raw.value))

-- the written domain has no control character
pub first_is_field : (row : Row) → is_representable row ≡ true → IsField (domain_field row.domain)
first_is_field row fits = domain_is_field row.domain (fits_line row fits).host_is_field

-- the written fields after the domain have no control character, if the last ones have none
pub middle_are_fields : (session : SessionExpiry) (row : Row) (last : List (List ℕ)) → is_representable row ≡ true → AllByRecursion IsField last
    → AllByRecursion IsField (middle_fields session row last)
middle_are_fields session row last fits fields = (
  flag_is_field (has_subdomains row.domain),
  (
    path_has_no_control row.path.text (fits_line row fits).path_is_field,
    (flag_is_field (is_secure_only row.raw), (expiry_is_field session row.expires, fields)),
  ),
)

-- a name and a value have no control character
last_are_fields : (name value : List ℕ) → IsField name → IsField value → AllByRecursion IsField (last_fields_read name value)
last_are_fields name [] name_field value_field = (name_field, tt)
last_are_fields name (v ∷ value) name_field value_field = (name_field, (value_field, tt))

-- seven strings are the fields of a line, if the path is not a flag; an empty value may be missing
seven_fields : (domain subdomains path secure expiry name value : List ℕ) → flag_from path ≡ None
    → fields_from (domain ∷ subdomains ∷ path ∷ secure ∷ expiry ∷ last_fields_read name value)
    ≡ Some (fields_of domain subdomains path secure expiry name value)
seven_fields domain subdomains path secure expiry name [] none = rw none refl
seven_fields domain subdomains path secure expiry name (v ∷ value) none = rw none refl

-- a block goes on with the value of its first step
pub next_step : {A B : Type 0} (step : Option A) (x : A) (next : A → Option B) → step ≡ Some x → (step >>= next) ≡ next x
next_step step x next e = ap (λ given. given >>= next) e

-- fields whose flags and expiry are read, and whose strings fit, have a cookie
row_of_fields : (is_http_only : Bool) (fields : Fields) (has_subdomains is_secure : Bool) (expires : Expiry)
    → flag_from fields.subdomains ≡ Some has_subdomains → flag_from fields.secure ≡ Some is_secure
    → expiry_from fields.expiry ≡ Some expires
    → are_fields (plain_host (without_dot fields.domain)) (path_from fields.path) fields.name fields.value ≡ true
    → row_from is_http_only fields ≡ Some (fields_row is_http_only fields has_subdomains is_secure expires)
unfolding row_from
row_of_fields is_http_only fields has_subdomains is_secure expires subdomains secure expiry fits =
    next_step (flag_from fields.subdomains) has_subdomains _ subdomains
    ∙ next_step (flag_from fields.secure) is_secure _ secure
    ∙ next_step (expiry_from fields.expiry) expires _ expiry
    ∙ cond-true _ _ _ fits

-- fields with a name keep it
named_fields : (fields : Fields) → (length fields.name == 0) ≡ false → with_name fields ≡ fields
named_fields fields named = rw named refl

-- the written fields of a cookie
abbrev written_fields : SessionExpiry → Row → Fields
written_fields session row =
    fields_of (domain_field row.domain) (flag_text (has_subdomains row.domain)) row.path.text (flag_text (is_secure_only row.raw))
    (expiry_field session row.expires) row.raw.name row.raw.value

-- what are fields is what the format can represent
own_fields : (row : Row) → is_representable row ≡ true
    → are_fields (written_host (domain_text row.domain)) row.path.text row.raw.name row.raw.value ≡ true
own_fields row fits = (and_parts _ _ (and_parts _ _ fits).0).0

-- the written fields of a cookie have that cookie
written_row : (session : SessionExpiry) (row : Row) → is_representable row ≡ true
    → row_from (is_http_only row.raw) (written_fields session row) ≡ Some (as_written row)
written_row session row fits =
    let fit = fits_line row fits in
    let host = dot_dropped row.domain fit.host_is_field in
    let path = path_back row.path.text fit.path_is_field in
    row_of_fields (is_http_only row.raw) (written_fields session row) (has_subdomains row.domain) (is_secure_only row.raw)
    (expiry_at (expiry_second row.expires))
    (flag_back (has_subdomains row.domain)) (flag_back (is_secure_only row.raw)) (expiry_back session row.expires)
    (ap (λ text. are_fields text (path_from row.path.text) row.raw.name row.raw.value) (ap plain_host host ∙ plain_back (domain_text row.domain) fit.host_is_representable)
    ∙ ap (λ text. are_fields (written_host (domain_text row.domain)) text row.raw.name row.raw.value) path ∙ own_fields row fits)
    ∙ ap (λ text. Some (record (as_written row) {
      domain = domain_of (has_subdomains row.domain) (map to_ascii_lowercase text);
      path = from_attribute (path_from row.path.text);
    })) (ap host_from host ∙ host_back (domain_text row.domain) fit.host_is_representable)
    ∙ ap (λ text. Some (record (as_written row) { path = from_attribute text })) path

-- the fields of a cookie read back
pub cookie_back : (session : SessionExpiry) (row : Row) → is_representable row ≡ true
    → cookie_from (is_http_only row.raw) (fields_read session row) ≡ Some (as_written row)
cookie_back session row fits =
    let fit = fits_line row fits in
    let last = last_are_fields row.raw.name row.raw.value fit.name_is_field fit.value_is_field in
    let split = split_joined (domain_field row.domain) (middle_fields session row (last_fields_read row.raw.name row.raw.value))
    (first_is_field row fits) (middle_are_fields session row (last_fields_read row.raw.name row.raw.value) fits last) in
    let fields =
    ap fields_from split
    ∙ seven_fields (domain_field row.domain) (flag_text (has_subdomains row.domain)) row.path.text
    (flag_text (is_secure_only row.raw)) (expiry_field session row.expires) row.raw.name row.raw.value
    (path_is_no_flag row.path.text fit.path_is_field) in
    next_step (option_map with_name (fields_from (pieces 9 (fields_read session row)))) (written_fields session row) (row_from (is_http_only row.raw))
    (ap (option_map with_name) fields ∙ ap Some (named_fields (written_fields session row) fit.has_name))
    ∙ written_row session row fits
