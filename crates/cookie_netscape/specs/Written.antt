-- Cookies as lines of a `cookies.txt` file, as curl writes them.
use Rattle.std.specs.Prelude.{ℕ, max, min, Bool, true, false, ◌&&◌, List, [], ◌∷◌, ◌++◌, codes, decimal, flat_map, map, ℤ, pos, negsuc, if◌then◌else◌}
use Rattle.std.specs.Char.{to_ascii_lowercase}
use Rattle.std.specs.Ordering.{int_cmp, is_le}
use Rattle.cookie_words.specs.Moments.{Moment, epoch, nanoseconds}
use Rattle.cookie_words.specs.Seconds.{epoch_second}
use Rattle.cookie_raw.specs.CookieText.{flag}
use Rattle.cookie_parts.specs.Cookie.{Row, is_http_only, is_secure_only}
use Rattle.cookie_parts.specs.Domain.{DomainValue, Suffix, domain_text}
use Rattle.cookie_parts.specs.Expiry.{Expiry, AtUtc, SessionEnd}
use Rattle.cookie_parts.specs.Path.{from_attribute}
use Rattle.cookie_netscape.specs.HostFields.{is_representable_host, written_host}
use Rattle.cookie_netscape.specs.Lines.{are_fields, domain_of, expiry_at, raw_of}
use Rattle.cookie_netscape.specs.declared.writing.SessionExpiry.{SessionExpiry}
use Rattle.cookie_netscape.specs.declared.writing.SessionExpiry.TheVariants.{Zero, Empty}

-- a domain cookie
abbrev pub has_subdomains : DomainValue → Bool
has_subdomains (Suffix d) = true
has_subdomains other = false

-- the expiry is not before the epoch
abbrev pub is_from_epoch : Expiry → Bool
is_from_epoch (AtUtc end) = is_le (int_cmp (nanoseconds epoch) (nanoseconds end))
is_from_epoch SessionEnd = true

-- the format can represent the cookie
abbrev pub is_representable : Row → Bool
is_representable row =
    are_fields (written_host (domain_text row.domain)) row.path.text row.raw.name row.raw.value
    && is_representable_host (domain_text row.domain) && is_from_epoch row.expires

-- the number, or 0 if it is negative
abbrev pub not_negative : ℤ → ℕ
not_negative (pos n) = n
not_negative (negsuc n) = 0

-- the second of a time, counted from the epoch; 0 before it
abbrev pub second_of : Moment → ℕ
second_of moment = not_negative (epoch_second moment)

-- the second in which the cookie expires, at most 2^64 - 1, and 0 for a session cookie; since 0 stands for that, an expiry in the first
-- second or before the epoch is written as 1
abbrev pub expiry_second : Expiry → ℕ
expiry_second (AtUtc end) = min (max 1 (second_of end)) 18_446_744_073_709_551_615
expiry_second SessionEnd = 0

-- TRUE or FALSE
abbrev pub flag_text : Bool → List ℕ
flag_text is_set = if is_set then codes "TRUE" else codes "FALSE"

-- the domain, after a dot for a domain cookie; an IPv6 address has no brackets
abbrev pub domain_field : DomainValue → List ℕ
domain_field domain = if has_subdomains domain then 46 ∷ written_host (domain_text domain) else written_host (domain_text domain)

-- the expiry field of a session cookie
abbrev pub session_text : SessionExpiry → List ℕ
session_text Zero = codes "0"
session_text Empty = []

-- the expiry of a cookie: the second of a persistent one
abbrev pub expiry_field : SessionExpiry → Expiry → List ℕ
expiry_field session (AtUtc end) = decimal (expiry_second (AtUtc end))
expiry_field session SessionEnd = session_text session

-- the line of a cookie, without its line end
unfoldable pub line_in : SessionExpiry → Row → List ℕ
line_in session row =
    flag (codes "#HttpOnly_") (is_http_only row.raw)
    ++ domain_field row.domain
    ++ 9 ∷ flag_text (has_subdomains row.domain)
    ++ 9 ∷ row.path.text
    ++ 9 ∷ flag_text (is_secure_only row.raw)
    ++ 9 ∷ expiry_field session row.expires
    ++ 9 ∷ row.raw.name
    ++ 9 ∷ row.raw.value

-- the same with 0 for a session cookie
abbrev pub line_of : Row → List ℕ
line_of row = line_in Zero row

-- the first line of a file
abbrev pub header_line : List ℕ
header_line = codes "# Netscape HTTP Cookie File"

-- a file: the first line, and the line of each cookie; the line end of the last one is left out
abbrev pub written_text : List Row → List ℕ
written_text rows = header_line ++ flat_map (λ row. 10 ∷ line_of row) rows

-- a cookie as it reads back from its line: no attribute but Secure and HttpOnly, the domain in lower case, the path as if a Path attribute had
-- set it, and an expiry in whole seconds, at most the latest
abbrev pub as_written : Row → Row
as_written row = record {
  raw = raw_of row.raw.name row.raw.value (is_secure_only row.raw) (is_http_only row.raw);
  domain = domain_of (has_subdomains row.domain) (map to_ascii_lowercase (domain_text row.domain));
  path = from_attribute row.path.text;
  expires = expiry_at (expiry_second row.expires);
}
