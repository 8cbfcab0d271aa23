-- The line of a cookie, read back.
use Rattle.std.proofs.Common.{◌≡◌, ◌≢◌, ℕ, ◌<◌, ◌==◌, Bool, true, false, List, [], ◌∷◌, ◌++◌, length, codes, nat_eq, get_or, Some, option_map, refl, sym, ap, ◌∙◌, append_assoc, arith, length-append}
use Rattle.std.specs.Char.{is_ascii_control, is_ascii_whitespace}
use Rattle.std.specs.List.{join_with_byte, list_any, starts_with}
use Rattle.std.proofs.lemmas.Bool.{and_left, both_ways, cond-false, eq-eqb, false≢true, ne_eqb, or_from}
use Rattle.std.proofs.lemmas.List.{get_or_append_left}
use Rattle.std.proofs.lemmas.List.Folds.{list_any-append}
use Rattle.cookie_raw.specs.CookieText.{flag}
use Rattle.cookie_parts.specs.Cookie.{Row, is_http_only, is_secure_only}
use Rattle.cookie_parts.specs.Domain.{DomainValue, HostOnly, Suffix, NotPresent, Empty as EmptyDomain, domain_text}
use Rattle.cookie_netscape.specs.HostFields.{written_host}
use Rattle.cookie_netscape.specs.Lines.{content, content_cookie, cookie_from, fields_cookie, is_domain_field, is_skipped, line_cookie}
use Rattle.cookie_netscape.specs.Written.{as_written, domain_field, expiry_field, flag_text, has_subdomains, is_representable, line_in}
use Rattle.cookie_netscape.specs.declared.writing.SessionExpiry.{SessionExpiry}
use Rattle.cookie_netscape.proofs.FieldsBack.{cookie_back, fields_read, first_byte, first_is_field, fits_line, last_fields_read, middle_are_fields, middle_fields}
use Rattle.cookie_netscape.proofs.HeaderLines.{by_fields}
use Rattle.cookie_netscape.proofs.JoinedFields.{IsField, Lacks, field_lacks, joined_lacks}
use Rattle.cookie_netscape.proofs.TrimmedLines.{IsNoSpace, empty_value, last_byte, last_is_no_space, last_of_second, no_space, some_value}

-- the other way round
differs : (a b : ℕ) → (a == b) ≡ false → (b == a) ≡ false
differs a b other = ne_eqb b a (λ e. both_ways _ other (eq-eqb a b (sym e)))

-- a string begins with none of `#`, `$` and white space
record BeginsLine (text : List ℕ) : Type 0 where
  first : ℕ
  rest : List ℕ
  text_is : text ≡ first ∷ rest
  is_no_hash : (first == 35) ≡ false
  is_no_dollar : (first == 36) ≡ false
  is_no_space : IsNoSpace first

-- a domain begins so
host_begins : (host : List ℕ) → is_domain_field host ≡ true → BeginsLine host
host_begins [] field = absurd (false≢true field)
host_begins (b ∷ rest) field =
    let byte = first_byte b rest field in record {
      first = b;
      rest = rest;
      text_is = refl;
      is_no_hash = byte.is_no_hash;
      is_no_dollar = byte.is_no_dollar;
      is_no_space = no_space b byte.is_no_control byte.is_no_space;
    }

-- a written domain begins so
domain_begins : (domain : DomainValue) → is_domain_field (written_host (domain_text domain)) ≡ true → BeginsLine (domain_field domain)
domain_begins (HostOnly d) field = host_begins (written_host d) field
domain_begins (Suffix d) field =
    record { first = 46; rest = written_host d; text_is = refl; is_no_hash = refl; is_no_dollar = refl; is_no_space = refl }
domain_begins NotPresent field = host_begins (written_host []) field
domain_begins EmptyDomain field = host_begins (written_host []) field

-- what begins so is no comment
not_skipped : (b : ℕ) (rest : List ℕ) → (b == 35) ≡ false → (b == 36) ≡ false → is_skipped (b ∷ rest) ≡ false
not_skipped b rest hash dollar =
    or_from _ _ (or_from _ _ (ne_eqb (length (b ∷ rest)) 0 (λ e. omega arith)) (and_left _ _ (differs b 35 hash))) (and_left _ _ (differs b 36 dollar))

-- it does not begin with `#HttpOnly_` either
no_prefix : (b : ℕ) (rest : List ℕ) → (b == 35) ≡ false → starts_with nat_eq (b ∷ rest) (codes "#HttpOnly_") ≡ false
no_prefix b rest hash = and_left _ _ (differs b 35 hash)

-- a cookie's fields read back, with `#HttpOnly_` before those of an HttpOnly cookie
prefixed_line : (is_http_only : Bool) (domain more : List ℕ) (row : Row) → BeginsLine domain
    → cookie_from is_http_only (domain ++ more) ≡ Some row
    → fields_cookie (flag (codes "#HttpOnly_") is_http_only ++ (domain ++ more)) ≡ Some (Some row)
unfolding fields_cookie
prefixed_line true domain more row begins cookie = ap (option_map Some) cookie
prefixed_line false domain more row begins cookie =
    let same : domain ++ more ≡ begins.first ∷ (begins.rest ++ more) = ap (λ text. text ++ more) begins.text_is in
    cond-false _ _ _ (ap (λ text. starts_with nat_eq text (codes "#HttpOnly_")) same ∙ no_prefix begins.first (begins.rest ++ more) begins.is_no_hash)
    ∙ cond-false _ _ _ (ap is_skipped same ∙ not_skipped begins.first (begins.rest ++ more) begins.is_no_hash begins.is_no_dollar)
    ∙ ap (option_map Some) cookie

-- `#HttpOnly_` and a domain begin with no white space
prefix_begins : (is_http_only : Bool) (domain : List ℕ) → BeginsLine domain
    → IsNoSpace (get_or (flag (codes "#HttpOnly_") is_http_only ++ domain) 0 0)
prefix_begins true domain begins = refl
prefix_begins false domain begins = ap (λ text. is_ascii_whitespace (get_or text 0 0)) begins.text_is ∙ begins.is_no_space

-- appended strings may be grouped from the right
seven_grouped : (a b c d e f g : List ℕ) → a ++ b ++ c ++ d ++ e ++ f ++ g ≡ a ++ (b ++ (c ++ (d ++ (e ++ (f ++ g)))))
seven_grouped a b c d e f g = simp append_assoc

eight_grouped : (a b c d e f g h : List ℕ)
    → a ++ b ++ c ++ d ++ e ++ f ++ g ++ h ≡ a ++ (b ++ (c ++ (d ++ (e ++ (f ++ (g ++ h))))))
eight_grouped a b c d e f g h = simp append_assoc

-- what begins appended strings
begins_with_first : (a b c d e f : List ℕ) → a ++ b ++ c ++ d ++ e ++ f ≡ a ++ (b ++ (c ++ (d ++ (e ++ f))))
begins_with_first a b c d e f = simp append_assoc

-- the content of a line by the value: if it is empty, HTAB before it is dropped
by_value : (prefix domain a b c d name value : List ℕ)
    → 0 < length (prefix ++ domain ++ 9 ∷ a ++ 9 ∷ b ++ 9 ∷ c ++ 9 ∷ d ++ 9 ∷ name)
    → IsNoSpace (get_or (prefix ++ domain ++ 9 ∷ a ++ 9 ∷ b ++ 9 ∷ c ++ 9 ∷ d ++ 9 ∷ name) 0 0)
    → IsNoSpace (last_byte (prefix ++ domain ++ 9 ∷ a ++ 9 ∷ b ++ 9 ∷ c ++ 9 ∷ d ++ 9 ∷ name))
    → ((length value == 0) ≡ false → IsNoSpace (last_byte value))
    → content (prefix ++ domain ++ 9 ∷ a ++ 9 ∷ b ++ 9 ∷ c ++ 9 ∷ d ++ 9 ∷ name ++ 9 ∷ value)
    ≡ prefix ++ join_with_byte 9 (domain ∷ a ∷ b ∷ c ∷ d ∷ last_fields_read name value)
by_value prefix domain a b c d name [] some begins ends last =
    empty_value (prefix ++ domain ++ 9 ∷ a ++ 9 ∷ b ++ 9 ∷ c ++ 9 ∷ d ++ 9 ∷ name) some begins ends
    ∙ seven_grouped prefix domain (9 ∷ a) (9 ∷ b) (9 ∷ c) (9 ∷ d) (9 ∷ name)
by_value prefix domain a b c d name (v ∷ value) some begins ends last =
    some_value (prefix ++ domain ++ 9 ∷ a ++ 9 ∷ b ++ 9 ∷ c ++ 9 ∷ d ++ 9 ∷ name) v value some begins
    (last (ne_eqb (length (v ∷ value)) 0 (λ e. omega arith)))
    ∙ eight_grouped prefix domain (9 ∷ a) (9 ∷ b) (9 ∷ c) (9 ∷ d) (9 ∷ name) (9 ∷ v ∷ value)

-- the same, if the prefix and the domain begin with no white space, and the name and the value end in none
line_content : (prefix domain a b c d name value : List ℕ) → 0 < length domain → 0 < length name
    → IsNoSpace (get_or (prefix ++ domain) 0 0) → IsNoSpace (last_byte name) → ((length value == 0) ≡ false → IsNoSpace (last_byte value))
    → content (prefix ++ domain ++ 9 ∷ a ++ 9 ∷ b ++ 9 ∷ c ++ 9 ∷ d ++ 9 ∷ name ++ 9 ∷ value)
    ≡ prefix ++ join_with_byte 9 (domain ∷ a ∷ b ∷ c ∷ d ∷ last_fields_read name value)
line_content prefix domain a b c d name value has_domain has_name first last_of_name last_of_value =
    let start : List ℕ = prefix ++ domain in
    let long : 0 < length start = omega (arith, length-append prefix domain) in
    let front : List ℕ = start ++ 9 ∷ a ++ 9 ∷ b ++ 9 ∷ c ++ 9 ∷ d ++ 9 ∷ name in
    let rest : List ℕ = 9 ∷ a ++ (9 ∷ b ++ (9 ∷ c ++ (9 ∷ d ++ 9 ∷ name))) in
    let same : front ≡ start ++ rest = begins_with_first start (9 ∷ a) (9 ∷ b) (9 ∷ c) (9 ∷ d) (9 ∷ name) in
    let some : 0 < length front = omega (arith, long, ap length same, length-append start rest) in
    let begins : IsNoSpace (get_or front 0 0) =
    ap (λ text. is_ascii_whitespace (get_or text 0 0)) same ∙ ap is_ascii_whitespace (get_or_append_left start rest 0 0 long) ∙ first in
    let ends : IsNoSpace (last_byte front) =
    ap is_ascii_whitespace (last_of_second (start ++ 9 ∷ a ++ 9 ∷ b ++ 9 ∷ c ++ 9 ∷ d) (9 ∷ name) (omega arith) ∙ last_of_second (9 ∷ []) name has_name)
    ∙ last_of_name in
    by_value prefix domain a b c d name value some begins ends last_of_value

-- the content of the line of a cookie
content_of_line : (session : SessionExpiry) (row : Row) → is_representable row ≡ true
    → content (line_in session row) ≡ flag (codes "#HttpOnly_") (is_http_only row.raw) ++ fields_read session row
unfolding line_in
content_of_line session row fits =
    let fit = fits_line row fits in
    let begins = domain_begins row.domain fit.host_is_field in
    let named : length row.raw.name ≢ 0 = λ none. both_ways _ fit.has_name (eq-eqb (length row.raw.name) 0 none) in
    line_content (flag (codes "#HttpOnly_") (is_http_only row.raw)) (domain_field row.domain)
    (flag_text (has_subdomains row.domain)) row.path.text (flag_text (is_secure_only row.raw)) (expiry_field session row.expires)
    row.raw.name row.raw.value
    (omega (arith, ap length begins.text_is))
    (omega (arith, named))
    (prefix_begins (is_http_only row.raw) (domain_field row.domain) begins)
    (last_is_no_space row.raw.name fit.has_name fit.name_is_field fit.name_ends)
    (λ some. last_is_no_space row.raw.value some fit.value_is_field fit.value_ends)

-- the line of a cookie reads back
pub line_back : (session : SessionExpiry) (row : Row) → is_representable row ≡ true
    → line_cookie (line_in session row) ≡ Some (Some (as_written row))
line_back session row fits =
    ap content_cookie (content_of_line session row fits)
    ∙ by_fields _ (Some (as_written row)) (prefixed_line (is_http_only row.raw) (domain_field row.domain)
    (9 ∷ join_with_byte 9 (middle_fields session row (last_fields_read row.raw.name row.raw.value)))
    (as_written row) (domain_begins row.domain (fits_line row fits).host_is_field) (cookie_back session row fits))

-- `#HttpOnly_` has no control character
prefix_is_field : (is_http_only : Bool) → IsField (flag (codes "#HttpOnly_") is_http_only)
prefix_is_field true = refl
prefix_is_field false = refl

-- the written fields, joined by HTAB
abbrev joined_fields : SessionExpiry → Row → List ℕ
joined_fields session row = join_with_byte 9 (domain_field row.domain ∷ middle_fields session row (row.raw.name ∷ row.raw.value ∷ []))

-- the line of a cookie is its joined fields, with `#HttpOnly_` before those of an HttpOnly cookie
line_is_joined : (session : SessionExpiry) (row : Row)
    → line_in session row ≡ flag (codes "#HttpOnly_") (is_http_only row.raw) ++ joined_fields session row
unfolding line_in
line_is_joined session row =
    eight_grouped (flag (codes "#HttpOnly_") (is_http_only row.raw)) (domain_field row.domain)
    (9 ∷ flag_text (has_subdomains row.domain)) (9 ∷ row.path.text) (9 ∷ flag_text (is_secure_only row.raw))
    (9 ∷ expiry_field session row.expires) (9 ∷ row.raw.name) (9 ∷ row.raw.value)

-- the line of a cookie lacks each control character but HTAB
pub line_lacks : (byte : ℕ) → is_ascii_control byte ≡ true → (9 == byte) ≡ false → (session : SessionExpiry) (row : Row)
    → is_representable row ≡ true → Lacks byte (line_in session row)
line_lacks byte control other session row fits =
    let fit = fits_line row fits in
    ap (list_any (λ b. b == byte)) (line_is_joined session row)
    ∙ list_any-append (λ b. b == byte) (flag (codes "#HttpOnly_") (is_http_only row.raw)) (joined_fields session row)
    ∙ or_from _ _ (field_lacks byte (flag (codes "#HttpOnly_") (is_http_only row.raw)) control (prefix_is_field (is_http_only row.raw)))
    (joined_lacks byte control other (domain_field row.domain) (middle_fields session row (row.raw.name ∷ row.raw.value ∷ []))
    (first_is_field row fits)
    (middle_are_fields session row (row.raw.name ∷ row.raw.value ∷ []) fits (fit.name_is_field, (fit.value_is_field, tt))))

-- a string with HTAB is not empty
not_empty_with_tab : (before after : List ℕ) → (length (before ++ 9 ∷ after) == 0) ≡ false
not_empty_with_tab before after = ne_eqb _ 0 (λ e. omega (arith, e, length-append before (9 ∷ after)))

-- the line of a cookie is not empty
pub line_is_not_empty : (session : SessionExpiry) (row : Row) → (length (line_in session row) == 0) ≡ false
unfolding line_in
line_is_not_empty session row = not_empty_with_tab _ row.raw.value
