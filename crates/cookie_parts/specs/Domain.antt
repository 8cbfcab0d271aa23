-- The domain of a cookie, RFC 6265 5.1.3 and 5.3 step 6.
use Rattle.std.specs.Prelude.{◌≡◌, ℕ, ◌==◌, Bool, false, ◌||◌, List, [], bytes_eq, codes, length, nat_eq, Option, Some, None, option_map, if◌then◌else◌}
use Rattle.std.specs.Cmp.{IsEquivalence, and_equiv, on_equiv, nat_eq_equiv}
use Rattle.std.specs.Cmp.Lexicographic.{on_texts_equal, pointwise, slice_cmp}
use Rattle.std.specs.Ordering.{eq_of_both, nat_cmp, on, then_cmp}
use Rattle.std.specs.declared.cmp.Ordering.{Ordering}
use Rattle.std.specs.Str.{trim}
use Rattle.idna.specs.Uts46.{domain_to_ascii}
use Rattle.idna.specs.declared.deny_list.TheConstants.AsciiDenyList.{EMPTY}
use Rattle.url.specs.Parts.{Parts}
use Rattle.cookie_words.specs.Strings.{without_dot}
use Rattle.cookie_psl.specs.Rules.{RuleList, listed}
use Rattle.cookie_parts.specs.Hosts.{host_of, covers, passes, Covers}

-- a host-only cookie, a domain cookie, no Domain attribute, an empty Domain attribute
pub data DomainValue : Type 0 where
  HostOnly : List ℕ → DomainValue
  Suffix : List ℕ → DomainValue
  NotPresent : DomainValue
  Empty : DomainValue

-- the domain as a string, empty for `NotPresent` and `Empty`
abbrev pub domain_text : DomainValue → List ℕ
domain_text (HostOnly d) = d
domain_text (Suffix d) = d
domain_text NotPresent = []
domain_text Empty = []

-- the number of the kind, by which domains are ordered
abbrev pub kind_of : DomainValue → ℕ
kind_of (HostOnly d) = 0
kind_of (Suffix d) = 1
kind_of NotPresent = 2
kind_of Empty = 3

-- the same kind and string
abbrev pub same_domain_value : DomainValue → DomainValue → Bool
same_domain_value = eq_of_both (on kind_of nat_eq) (on domain_text (pointwise nat_eq))

-- `same_domain_value` is an equivalence
pub same_domain_value_equiv : IsEquivalence same_domain_value
same_domain_value_equiv = and_equiv (on_equiv kind_of nat_eq_equiv) (on_texts_equal domain_text)

-- ordered by kind, then by string
abbrev pub compare_domains : DomainValue → DomainValue → Ordering
compare_domains = then_cmp (on kind_of nat_cmp) (on domain_text (slice_cmp nat_cmp))

-- the domain matches this host
abbrev pub is_for_host : DomainValue → List ℕ → Bool
is_for_host (HostOnly d) host = bytes_eq d host
is_for_host (Suffix d) host = covers d host
is_for_host NotPresent host = false
is_for_host Empty host = false

-- the URL has a host, and the domain matches it
abbrev pub domain_matches : DomainValue → Parts → Bool
domain_matches domain url = passes (is_for_host domain) (host_of url)

-- the domain as a string, `None` for `NotPresent` and `Empty`
abbrev pub text_if_any : DomainValue → Option (List ℕ)
text_if_any (HostOnly d) = Some d
text_if_any (Suffix d) = Some d
text_if_any NotPresent = None
text_if_any Empty = None

-- the domain equals this host
abbrev pub equals_host : DomainValue → List ℕ → Bool
equals_host domain host = passes (λ text. bytes_eq text host) (text_if_any domain)

-- the URL has a host, and the domain equals it
abbrev pub host_is_identical : DomainValue → Parts → Bool
host_is_identical domain url = passes (equals_host domain) (host_of url)

-- the domain, trimmed of white space and converted to ASCII by UTS #46; `None` if it is not valid
unfoldable pub ascii_of : List ℕ → Option (List ℕ)
ascii_of text = domain_to_ascii EMPTY (trim text)

-- `Empty` for the empty string and a single dot, else `Suffix` without one leading dot
abbrev pub suffix_without_dot : List ℕ → DomainValue
suffix_without_dot ascii =
    if (length ascii == 0) || bytes_eq ascii (codes ".") then Empty else Suffix (without_dot ascii)

-- the domain of a string; `None` if it is not valid
abbrev pub domain_from_text : List ℕ → Option DomainValue
domain_from_text text = option_map suffix_without_dot (ascii_of text)

-- the string is a valid domain, and that matches the URL
abbrev pub text_matches : List ℕ → Parts → Bool
text_matches text url = passes (λ domain. domain_matches domain url) (domain_from_text text)

-- `Empty` for the empty string, else `Suffix`; the leading dot was dropped when the attribute was parsed
abbrev pub suffix_or_empty : List ℕ → DomainValue
suffix_or_empty ascii = if length ascii == 0 then Empty else Suffix ascii

-- the domain of a Domain attribute, `NotPresent` without one; `None` if it is not valid
abbrev pub domain_from_attribute : Option (List ℕ) → Option DomainValue
domain_from_attribute None = Some NotPresent
domain_from_attribute (Some text) = option_map suffix_or_empty (ascii_of text)

-- the domain is a public suffix by the rules
abbrev pub is_public_suffix : RuleList → DomainValue → Bool
is_public_suffix rules domain = passes (listed rules) (text_if_any domain)

-- 5.1.3: the domain matches the host, if there is one
abbrev pub IsForHost : DomainValue → Option (List ℕ) → Type 0
IsForHost domain None = ⊥
IsForHost (HostOnly d) (Some host) = d ≡ host
IsForHost (Suffix d) (Some host) = Covers d host
IsForHost NotPresent (Some host) = ⊥
IsForHost Empty (Some host) = ⊥
