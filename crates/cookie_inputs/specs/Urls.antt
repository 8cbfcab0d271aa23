-- URLs from which all URL parsers read the same host: a client and the store must not read two hosts from one URL.
--
-- The store reads a URL by the WHATWG standard, and its client may read it by another parser, such as that of curl, Go or
-- Python. If a server can make them read two hosts, it gets the cookies of the one by way of the other: `http://A\@B/` has the
-- host A by the standard, and B by others.
use Rattle.std.specs.Prelude.{ℕ, ◌-◌, ◌==◌, Bool, true, not, ◌&&◌, ◌||◌, nat_le, List, length, take, drop, bytes_eq, codes, nat_eq, Option, None, if◌then◌else◌}
use Rattle.std.specs.Char.{is_ascii_digit, is_ascii_hexdigit}
use Rattle.std.specs.List.{after_first, after_last, before_first, list_all, list_any, starts_with}
use Rattle.std.specs.Str.{str_eq_ignore_ascii_case}
use Rattle.url.specs.Parts.{Parts}
use Rattle.cookie_parts.specs.Hosts.{url_at}

-- a control character of ASCII, or a space
abbrev pub is_control_or_space : ℕ → Bool
is_control_or_space b = nat_le b 32 || (b == 127)

-- the byte is `:`
abbrev pub is_colon : ℕ → Bool
is_colon b = b == 58

-- RFC 3986 3.1: the scheme precedes the first `:`
abbrev pub scheme_of : List ℕ → List ℕ
scheme_of url = before_first is_colon url

-- what follows the scheme and its `:`
abbrev pub after_scheme : List ℕ → List ℕ
after_scheme url = after_first is_colon url

-- RFC 3986 3.1: schemes are the same ignoring case
abbrev pub is_scheme : List ℕ → List ℕ → Bool
is_scheme scheme named = str_eq_ignore_ascii_case scheme named

-- each URL with the scheme has a host
abbrev pub has_host_scheme : List ℕ → Bool
has_host_scheme scheme =
    is_scheme scheme (codes "http") || is_scheme scheme (codes "https") || is_scheme scheme (codes "ws")
    || is_scheme scheme (codes "wss") || is_scheme scheme (codes "ftp")

-- RFC 3986 3.2: the byte ends an authority: `/`, `?` or `#`
abbrev pub ends_authority : ℕ → Bool
ends_authority b = (b == 47) || (b == 63) || (b == 35)

-- RFC 3986 3.2: `//` precedes an authority
abbrev pub has_slashes : List ℕ → Bool
has_slashes rest = bytes_eq (take 2 rest) (codes "//")

-- RFC 3986 3.2: the authority, of what follows the `//`
abbrev pub authority_in : List ℕ → List ℕ
authority_in rest = before_first ends_authority rest

-- the byte that follows a host: `]` if the host is in brackets, else the `:` of the port
abbrev pub host_end : List ℕ → ℕ
host_end place = if starts_with nat_eq place (codes "[") then 93 else 58

-- RFC 3986 3.2.1: the host and the port follow the last `@`
abbrev pub host_and_port : List ℕ → List ℕ
host_and_port authority = after_last (λ b. b == 64) authority

-- RFC 3986 3.2.2: the host
abbrev pub host_in : List ℕ → List ℕ
host_in authority = before_first (λ b. b == host_end (host_and_port authority)) (host_and_port authority)

-- the label begins with `0x`, in either case
abbrev pub is_hexadecimal : List ℕ → Bool
is_hexadecimal label = bytes_eq (take 2 label) (codes "0x") || bytes_eq (take 2 label) (codes "0X")

-- decimal digits, or `0x` and hexadecimal digits, possibly none
abbrev pub is_number : List ℕ → Bool
is_number label =
    if is_hexadecimal label then list_all is_ascii_hexdigit (drop 2 label)
    else not (length label == 0) && list_all is_ascii_digit label

-- the last byte is a dot
abbrev pub ends_in_dot : List ℕ → Bool
ends_in_dot host = bytes_eq (drop (length host - 1) host) (codes ".")

-- the last label
abbrev pub last_label : List ℕ → List ℕ
last_label host = after_last (λ b. b == 46) host

-- the last label is a number, and a dot follows it: an IPv4 address by the WHATWG standard alone
abbrev pub ends_in_number_and_dot : List ℕ → Bool
ends_in_number_and_dot host = ends_in_dot host && is_number (last_label (take (length host - 1) host))

-- the byte is `%`, which the standard decodes, or part of a character that is not ASCII, which parsers map by different
-- versions of IDNA
abbrev pub is_converted : ℕ → Bool
is_converted b = (b == 37) || nat_le 128 b

-- the byte is a decimal digit or a dot
abbrev pub is_digit_or_dot : ℕ → Bool
is_digit_or_dot b = is_ascii_digit b || (b == 46)

-- if the last label is a number, all are in decimal: of numbers such as `0x` others make names
abbrev pub is_decimal_if_number : List ℕ → Bool
is_decimal_if_number host = not (is_number (last_label host)) || list_all is_digit_or_dot host

-- all parsers read the same host from a host in brackets, an IPv6 address, and from any other of these bytes and labels
abbrev pub is_plain_host : List ℕ → Bool
is_plain_host host =
    not (list_any is_converted host)
    && (starts_with nat_eq host (codes "[") || (not (ends_in_number_and_dot host) && is_decimal_if_number host))

-- the authority has no backslash, which the standard takes for a `/`
abbrev pub is_plain_authority : List ℕ → Bool
is_plain_authority authority = not (list_any (λ b. b == 92) authority) && is_plain_host (host_in authority)

-- what follows the scheme has an authority, which the standard may find elsewhere if there is none or an empty one
abbrev pub names_host : List ℕ → Bool
names_host rest =
    has_slashes rest
    && (not (length (authority_in (drop 2 rest)) == 0) && is_plain_authority (authority_in (drop 2 rest)))

-- the same for the scheme `file`, with which the standard takes each backslash for a `/`
abbrev pub is_plain_file : List ℕ → Bool
is_plain_file rest =
    not (list_any (λ b. b == 92) rest)
    && (not (has_slashes rest) || is_plain_authority (authority_in (drop 2 rest)))

-- all parsers read the same host from what follows the scheme
abbrev pub has_plain_host : List ℕ → List ℕ → Bool
has_plain_host scheme rest =
    if has_host_scheme scheme then names_host rest
    else (if is_scheme scheme (codes "file") then is_plain_file rest else true)

-- all parsers read the same host from the URL; the standard drops some control characters, others do not
unfoldable pub is_unambiguous : List ℕ → Bool
is_unambiguous url =
    not (list_any is_control_or_space url) && has_plain_host (scheme_of url) (after_scheme url)

-- the URL that a string parses to, unless it is ambiguous
unfoldable pub unambiguous_url : List ℕ → Option Parts
unambiguous_url text = if is_unambiguous text then url_at text else None
