-- Which URLs are secure, draft-ietf-httpbis-rfc6265bis 5.7 and 5.8.3, by the names of this machine, RFC 6761 6.3.
use Rattle.std.specs.Prelude.{ℕ, Bool, not, ◌&&◌, ◌||◌, List, bytes_eq, codes, nat_eq, unwrap_or, if◌then◌else◌}
use Rattle.std.specs.List.{ends_with}
use Rattle.std.specs.Result.{result_ok}
use Rattle.url.specs.Parts.{Parts}
use Rattle.url.specs.Setters.{set_scheme}
use Rattle.cookie_parts.specs.Hosts.{host_of, is_secure, passes}

-- RFC 6761 6.3: `localhost` or a name below it, with or without a dot at the end
abbrev pub is_local_name : List ℕ → Bool
is_local_name name =
    bytes_eq name (codes "localhost") || bytes_eq name (codes "localhost.")
    || ends_with nat_eq name (codes ".localhost") || ends_with nat_eq name (codes ".localhost.")

-- the host of the URL is such a name
abbrev pub has_local_name : Parts → Bool
has_local_name url = passes is_local_name (host_of url)

-- the URL is secure: as RFC 6265 has it, or its host is a name of this machine
unfoldable pub is_secure_url : Parts → Bool
is_secure_url url = is_secure url || has_local_name url

-- the scheme is `http`, and the URL is secure by its name alone
abbrev pub is_raised : Parts → Bool
is_raised url = bytes_eq url.scheme (codes "http") && (not (is_secure url) && has_local_name url)

-- the URL with the scheme `https`, or the same URL if it cannot have that
abbrev pub with_https : Parts → Parts
with_https url = unwrap_or (result_ok (set_scheme url (codes "https"))) url

-- the URL by which Secure cookies are found: with `https` if it is secure by its name alone
abbrev pub as_secure : Parts → Parts
as_secure url = if is_raised url then with_https url else url
