-- The domains that arguments name.
use Rattle.std.specs.Prelude.{ℕ, Bool, List, bytes_eq, if◌then◌else◌}
use Rattle.std.specs.List.{list_any}
use Rattle.cookie_words.specs.Strings.{without_dot}
use Rattle.cookie_parts.specs.Cookie.{Row}
use Rattle.cookie_parts.specs.Domain.{domain_text}
use Rattle.cookie_netscape.specs.HostFields.{domain_from}

-- a cookie has the domain
abbrev pub has_domain : List ℕ → List Row → Bool
has_domain domain rows = list_any (λ row. bytes_eq (domain_text row.domain) domain) rows

-- the argument without one dot before it if a cookie has that domain, else the domain of the field of a `cookies.txt`
abbrev pub named_domain : List Row → List ℕ → List ℕ
named_domain rows argument =
    if has_domain (without_dot argument) rows then without_dot argument else domain_from argument
