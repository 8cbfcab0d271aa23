-- The cells of the table.
use Rattle.std.specs.Prelude.{ℕ, Bool, List, [], ◌∷◌, ◌++◌, codes, flat_map, length, nat_le, take, Option, Some, None, if◌then◌else◌}
use Rattle.std.specs.Str.{chars}
use Rattle.cookie_words.specs.Moments.{Moment}
use Rattle.cookie_raw.specs.Raw.{Raw}
use Rattle.cookie_raw.specs.declared.same_site.SameSite.{SameSite}
use Rattle.cookie_raw.specs.declared.same_site.SameSite.TheVariants as Site
use Rattle.cookie_forms.specs.MomentText.{moment_text}
use Rattle.cookie_parts.specs.Cookie.{Row, is_http_only, is_secure_only}
use Rattle.cookie_parts.specs.Domain as Domain
use Rattle.cookie_parts.specs.Domain.{DomainValue}
use Rattle.cookie_parts.specs.Expiry as Expiry
use Rattle.cookie_parts.specs.Expiry.{has_passed}
use Rattle.cookies.specs.Escapes.{escaped, escaped_char}

-- the domain, after a dot if it is that of a domain cookie
abbrev pub domain_cell : DomainValue → List ℕ
domain_cell (Domain.HostOnly d) = escaped d
domain_cell (Domain.Suffix d) = codes "." ++ escaped d
domain_cell Domain.NotPresent = escaped []
domain_cell Domain.Empty = escaped []

-- the first 40 characters of the value, and `…` if there are more
abbrev pub value_cell : List ℕ → List ℕ
value_cell value =
    flat_map escaped_char (take 40 (chars value))
    ++ (if nat_le (length (chars value)) 40 then [] else 226 ∷ 128 ∷ 166 ∷ [])

-- `session`, or the expiry and whether it has passed
abbrev pub expiry_cell : Moment → Expiry.Expiry → List ℕ
expiry_cell now Expiry.SessionEnd = codes "session"
expiry_cell now (Expiry.AtUtc end) =
    moment_text end ++ (if has_passed now (Expiry.AtUtc end) then codes " (expired)" else [])

-- the flag of a SameSite attribute
abbrev pub same_site_flag : SameSite → List ℕ
same_site_flag Site.Strict = codes "samesite=strict"
same_site_flag Site.Lax = codes "samesite=lax"
same_site_flag Site.None = codes "samesite=none"

-- the flags so far, and one more after a comma unless it is the first
abbrev pub with_flag : List ℕ → List ℕ → List ℕ
with_flag [] flag = flag
with_flag (b ∷ flags) flag = (b ∷ flags) ++ codes "," ++ flag

-- the flags so far, and the flag of a SameSite attribute if there is one
abbrev pub with_same_site : List ℕ → Option SameSite → List ℕ
with_same_site flags None = flags
with_same_site flags (Some same_site) = with_flag flags (same_site_flag same_site)

-- the flags so far, and one more if it is set
abbrev pub with_flag_if : Bool → List ℕ → List ℕ → List ℕ
with_flag_if is_set flags flag = if is_set then with_flag flags flag else flags

-- the flags, `-` if there are none
abbrev pub flags_or_dash : List ℕ → List ℕ
flags_or_dash [] = codes "-"
flags_or_dash (b ∷ flags) = b ∷ flags

-- the flags of a cookie between commas, `-` if it has none
abbrev pub flags_cell : Raw → List ℕ
flags_cell raw = flags_or_dash (with_same_site
    (with_flag_if (is_http_only raw) (with_flag_if (is_secure_only raw) [] (codes "secure")) (codes "httponly"))
    raw.same_site)

-- the cells of a cookie
abbrev pub cells_of : Moment → Row → List (List ℕ)
cells_of now row =
    domain_cell row.domain ∷ escaped row.path.text ∷ escaped row.raw.name ∷ value_cell row.raw.value ∷ expiry_cell now row.expires
    ∷ flags_cell row.raw ∷ []
