-- Calls by the root of the host that they are for, so that they can be spread over several stores.
use Rattle.std.specs.Prelude.{◌≡◌, ℕ, ◌==◌, Bool, false, not, ◌&&◌, List, bytes_eq, filter, Option, Some, None, is_some}
use Rattle.std.specs.List.{list_any}
use Rattle.url.specs.Parts.{Parts}
use Rattle.cookie_parts.specs.Hosts.{host_of, is_host_name, is_ipv4, passes}
use Rattle.cookie_psl.specs.Rules.{RuleList}
use Rattle.cookie_laws.specs.Related.{after_dots, passes_or_none}
use Rattle.cookie_laws.specs.Runs.{Call, Set, Insert, Remove, Clear}
use Rattle.cookie_core.specs.Overlaid.{are_related}
use Rattle.cookie_strict.specs.Roots.{is_registrable, root_of}
use Rattle.cookie_strict.specs.SecureUrl.{is_secure_url}

-- the host that a call is for: that of its URL, or the domain of its key; `Clear` is for all hosts
abbrev pub call_host : Call → Option (List ℕ)
call_host (Set text url now) = host_of url
call_host (Insert cookie url now) = host_of url
call_host (Remove key) = Some key.domain
call_host Clear = None

-- the call is for a host with this root, or for no one host
abbrev pub is_for_root : RuleList → List ℕ → Call → Bool
is_for_root rules root call = passes_or_none (λ host. bytes_eq root (root_of rules host)) (call_host call)

-- the call is for a host whose root has this number, or for no one host
abbrev pub is_for_shard : RuleList → (List ℕ → ℕ) → ℕ → Call → Bool
is_for_shard rules shard number call = passes_or_none (λ host. shard (root_of rules host) == number) (call_host call)

-- the calls of the shard of a host
abbrev pub shard_calls : RuleList → (List ℕ → ℕ) → List ℕ → List Call → List Call
shard_calls rules shard host calls = filter (is_for_shard rules shard (shard (root_of rules host))) calls

-- the host ends with a dot and an IPv4 address, as that of no `http` or `https` URL does
abbrev pub is_below_ipv4 : List ℕ → Bool
is_below_ipv4 host = list_any is_ipv4 (after_dots host)

-- one of the host and this root covers the other, but the host has another root
abbrev pub is_beside : RuleList → List ℕ → List ℕ → Bool
is_beside rules root host = are_related host root && not (bytes_eq root (root_of rules host))

-- the URL of an insertion
abbrev pub insertion_url : Call → Option Parts
insertion_url (Set text url now) = Some url
insertion_url (Insert cookie url now) = Some url
insertion_url (Remove key) = None
insertion_url Clear = None

-- an insertion from an insecure URL
abbrev pub is_insecure_insertion : Call → Bool
is_insecure_insertion call = passes (λ url. not (is_secure_url url)) (insertion_url call)

-- an insertion from a secure URL
abbrev pub is_secure_insertion : Call → Bool
is_secure_insertion call = passes is_secure_url (insertion_url call)

-- an insertion from a host name that is a public suffix
abbrev pub is_from_suffix : RuleList → Call → Bool
is_from_suffix rules call =
    is_some (insertion_url call) && passes (λ host. is_host_name host && not (is_registrable rules host)) (call_host call)

-- an insertion from an insecure URL whose host has this root
abbrev pub is_insecure_at : RuleList → List ℕ → Call → Bool
is_insecure_at rules root call = is_insecure_insertion call && passes (λ host. bytes_eq root (root_of rules host)) (call_host call)

-- an insertion from a secure URL whose host is beside this root
abbrev pub is_secure_beside : RuleList → List ℕ → Call → Bool
is_secure_beside rules root call = is_secure_insertion call && passes (is_beside rules root) (call_host call)

-- neither this host nor that of a call lies below an IPv4 address
abbrev pub HasNoneBelowIpv4 : List ℕ → List Call → Type 0
HasNoneBelowIpv4 host calls = (is_below_ipv4 host ≡ false) × (list_any (λ call. passes is_below_ipv4 (call_host call)) calls ≡ false)

-- no host lies below an IPv4 address, and "leave secure cookies alone" compares no cookie at the root of this host with one
-- beside it: there is no insecure insertion at the root, or no secure one beside it
abbrev pub IsSeparate : RuleList → List ℕ → List Call → Type 0
IsSeparate rules host calls =
    HasNoneBelowIpv4 host calls
    × (list_any (is_insecure_at rules (root_of rules host)) calls && list_any (is_secure_beside rules (root_of rules host)) calls ≡ false)
