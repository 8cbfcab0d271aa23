-- The host that the domain field of a line names. curl writes an IPv6 address without brackets, wget writes the port after a host, and
-- Python writes `.local` after `localhost` and after an IPv6 address.
use Rattle.std.specs.Prelude.{ℕ, ◌-◌, ◌==◌, Bool, not, ◌&&◌, ◌||◌, List, [], ◌∷◌, ◌++◌, bytes_eq, codes, length, map, nat_eq, take, if◌then◌else◌}
use Rattle.std.specs.Char.{is_ascii_digit, to_ascii_lowercase}
use Rattle.std.specs.List.{after_first, before_first, ends_with, list_all, list_any, starts_with}
use Rattle.std.specs.Str.{str_eq_ignore_ascii_case}
use Rattle.cookie_words.specs.Strings.{without_dot}

-- the byte is a colon
abbrev pub is_colon : ℕ → Bool
is_colon b = b == 58

-- a host with two colons is an IPv6 address, here without its brackets
abbrev pub is_bare_address : List ℕ → Bool
is_bare_address host = not (starts_with nat_eq host (codes "[")) && list_any is_colon (after_first is_colon host)

-- the digits of a port
abbrev pub is_port : List ℕ → Bool
is_port digits = not (length digits == 0) && list_all is_ascii_digit digits

-- the host without the port after it
unfoldable pub without_port : List ℕ → List ℕ
without_port host = if is_port (after_first is_colon host) then before_first is_colon host else host

-- `localhost`, or an IPv6 address
abbrev pub is_localhost_or_ipv6 : List ℕ → Bool
is_localhost_or_ipv6 host = str_eq_ignore_ascii_case host (codes "localhost") || starts_with nat_eq host (codes "[")

-- the string without its last n bytes
abbrev pub cut_by : ℕ → List ℕ → List ℕ
cut_by n text = take (length text - n) text

-- the host without the `.local` after it
unfoldable pub without_local : List ℕ → List ℕ
without_local host =
    if ends_with nat_eq host (codes ".local") && is_localhost_or_ipv6 (cut_by 6 host) then cut_by 6 host else host

-- the host without what wget and Python write after it
abbrev pub plain_host : List ℕ → List ℕ
plain_host field = without_local (without_port field)

-- an IPv6 address gets its brackets
abbrev pub bracketed : List ℕ → List ℕ
bracketed host = if is_bare_address host then 91 ∷ host ++ 93 ∷ [] else host

-- the host of a field
abbrev pub host_from : List ℕ → List ℕ
host_from field = bracketed (plain_host field)

-- the domain of a field: a leading dot is dropped, and it is read in lower case
abbrev pub domain_from : List ℕ → List ℕ
domain_from field = map to_ascii_lowercase (host_from (without_dot field))

-- a host as curl writes it: an IPv6 address without its brackets
unfoldable pub written_host : List ℕ → List ℕ
written_host [] = []
written_host (b ∷ rest) =
    if (b == 91) && ends_with nat_eq rest (codes "]") && is_bare_address (cut_by 1 rest) then cut_by 1 rest else b ∷ rest

-- a line can hold the host: as it is written, it reads back as the same host
abbrev pub is_representable_host : List ℕ → Bool
is_representable_host host = not (is_bare_address host) && bytes_eq (plain_host (written_host host)) (written_host host)
