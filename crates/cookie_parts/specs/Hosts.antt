-- Hosts, and domain-match, RFC 6265 5.1.3.
use Rattle.std.specs.Prelude.{◌≡◌, ℕ, ◌==◌, Bool, false, not, ◌&&◌, ◌||◌, nat_le, List, [], ◌∷◌, ◌++◌, length, slice_index, bytes_eq, codes, nat_eq, decimal, Option, Some, None, option_map, IsTrue, ◌⊎◌}
use Rattle.std.specs.List.{list_all, list_any, ends_with, starts_with}
use Rattle.std.specs.Net.Addr.{ipv4_octets, ipv6_segments}
use Rattle.std.specs.Result.{result_ok}
use Rattle.std.specs.Str.Parse.{digits_value}
use Rattle.url.specs.Host.{host_text}
use Rattle.url.specs.declared.host.Host.{Host}
use Rattle.url.specs.declared.host.Host.TheVariants.{Domain, Ipv4, Ipv6}
use Rattle.url.specs.Parser.{parse_url}
use Rattle.url.specs.Parts.{Parts, nonempty_host}
use Rattle.cookie_words.specs.Strings.{pieces}

-- the value passes the test; false for `None`
abbrev pub passes : {T : Type 0} → (T → Bool) → Option T → Bool
passes test None = false
passes test (Some x) = test x

-- the URL that a string parses to
unfoldable pub url_at : List ℕ → Option Parts
url_at text = result_ok (parse_url None text)

-- the host of a URL as a string, if it has one that is not empty
abbrev pub host_of : Parts → Option (List ℕ)
host_of url = option_map host_text (nonempty_host url)

-- a decimal number from 0 to 255 without leading zeros
abbrev pub is_octet : List ℕ → Bool
is_octet text = bytes_eq text (decimal (digits_value 10 text)) && nat_le (digits_value 10 text) 255

-- four such numbers, joined by dots: an IPv4 address
unfoldable pub is_ipv4 : List ℕ → Bool
is_ipv4 text = (length (pieces 46 text) == 4) && list_all is_octet (pieces 46 text)

-- the string is a host name, not an IP address: no `:` in it, and not an IPv4 address
unfoldable pub is_host_name : List ℕ → Bool
is_host_name text = not (list_any (λ b. b == 58) text) && not (is_ipv4 text)

-- 5.1.3: the domain string and the string are identical, or the domain string is a suffix of the string, the last
-- character before it is a dot, and the string is a host name
abbrev pub Covers : List ℕ → List ℕ → Type 0
Covers domain host = (domain ≡ host)
    ⊎ (IsTrue (is_host_name host) × ((prefix : List ℕ) × (host ≡ prefix ++ 46 ∷ domain)))

-- `Covers` as a test
abbrev pub covers : List ℕ → List ℕ → Bool
covers domain host = bytes_eq domain host || ends_with nat_eq host (46 ∷ domain) && is_host_name host

-- the scheme begins with `http`
unfoldable pub is_http_scheme : Parts → Bool
is_http_scheme url = starts_with nat_eq url.scheme (codes "http")

-- the host is the local machine: `localhost`, an IPv4 address of 127.0.0.0/8, or the IPv6 address ::1
abbrev pub is_loopback : Host (List ℕ) → Bool
is_loopback (Domain name) = bytes_eq name (codes "localhost")
is_loopback (Ipv4 address) = slice_index (ipv4_octets address) 0 == 127
is_loopback (Ipv6 address) = bytes_eq (ipv6_segments address) (0 ∷ 0 ∷ 0 ∷ 0 ∷ 0 ∷ 0 ∷ 0 ∷ 1 ∷ [])

-- 5.4: a "secure" protocol: `https`, or any to the local machine
unfoldable pub is_secure : Parts → Bool
is_secure url = bytes_eq url.scheme (codes "https") || passes is_loopback (nonempty_host url)
