-- The cookies of a request.
use Rattle.std.specs.Prelude.{ℕ, ◌==◌, Bool, false, not, ◌&&◌}
use Rattle.std.specs.Char.{is_ascii_control}
use Rattle.cookie_psl.specs.Rules.{RuleList}
use Rattle.cookie_parts.specs.Domain.{DomainValue, HostOnly, Suffix, NotPresent, Empty, is_public_suffix}

-- a domain cookie for a public suffix
abbrev pub is_for_suffix : RuleList → DomainValue → Bool
is_for_suffix list (HostOnly d) = false
is_for_suffix list (Suffix d) = is_public_suffix list (Suffix d)
is_for_suffix list NotPresent = false
is_for_suffix list Empty = false

-- RFC 9110 5.5: a control character that a header field cannot have, which is any but HTAB
abbrev pub is_field_control : ℕ → Bool
is_field_control b = is_ascii_control b && not (b == 9)
