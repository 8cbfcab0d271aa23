-- The candidate domains and paths of a URL: those that can match it, RFC 6265 5.1.3 and 5.1.4.
use Rattle.std.specs.Prelude.{◌≡◌, true, ◌⊎◌, ℕ, zero, suc, ◌+◌, ◌-◌, ◌*◌, Bool, ◌&&◌, ◌||◌, ◌==◌, List, [], ◌∷◌, ◌++◌, length, take, slice_index, nat_eq, nat_le, nat_lt, count_by, None, Some, if◌then◌else◌}
use Rattle.std.specs.List.{ends_with, starts_with}
use Rattle.url.specs.Parts.{Parts}
use Rattle.cookie_parts.specs.Hosts.{host_of}
use Rattle.cookie_laws.specs.Related.{after_dots}

-- 5.1.3: a domain that covers a host is the host, or follows one of its dots
abbrev pub IsCandidateDomain : List ℕ → List ℕ → Type 0
IsCandidateDomain host text = (text ≡ host) ⊎ ((prefix : List ℕ) × (host ≡ prefix ++ 46 ∷ text))

-- the candidate domains of a host, longest first
abbrev pub candidate_domains : List ℕ → List (List ℕ)
candidate_domains host = host ∷ after_dots host

-- the candidate domains of a URL; none without a host
abbrev pub url_candidate_domains : Parts → List (List ℕ)
url_candidate_domains url = elim (host_of url) [ None ↦ [] | Some host ↦ candidate_domains host ]

-- the domain is a candidate of the host, tested without listing the candidates
abbrev pub is_candidate_domain : List ℕ → List ℕ → Bool
is_candidate_domain host text =
    ((length text == length host) || nat_lt (length text) (length host) && (slice_index host (length host - length text - 1) == 46))
    && ends_with nat_eq host text

-- 5.1.4: a path that path-matches begins with `/`, and is the request path, or the part before one
-- of its slashes, or the part that ends with one
abbrev pub IsCandidatePath : List ℕ → List ℕ → Type 0
IsCandidatePath path text = (starts_with nat_eq text (47 ∷ []) ≡ true)
    × ((text ≡ path) ⊎ ((prefix : List ℕ) × (rest : List ℕ) × (path ≡ prefix ++ 47 ∷ rest) × ((text ≡ prefix) ⊎ (text ≡ prefix ++ 47 ∷ []))))

-- the byte at this position is the last one, or a slash, or followed by a slash
abbrev pub ends_candidate : List ℕ → ℕ → Bool
ends_candidate path at = at + 1 == length path || slice_index path at == 47 || slice_index path (at + 1) == 47

-- the starts of a path that end, by `ends_candidate`, at one of its first bytes, shortest first
abbrev pub front_texts : List ℕ → ℕ → List (List ℕ)
front_texts path zero = []
front_texts path (suc at) = front_texts path at ++ (if ends_candidate path at then take (suc at) path ∷ [] else [])

-- the candidate paths of a request path, shortest first; none if it does not begin with a slash
abbrev pub candidate_paths : List ℕ → List (List ℕ)
candidate_paths path = if starts_with nat_eq path (47 ∷ []) then front_texts path (length path) else []

-- the path is a candidate of the request path, tested without listing the candidates
abbrev pub is_candidate_path : List ℕ → List ℕ → Bool
is_candidate_path path text =
    starts_with nat_eq text (47 ∷ []) && nat_le (length text) (length path) && ends_candidate path (length text - 1)
    && starts_with nat_eq path text

-- how many dots there are
abbrev pub dots : List ℕ → ℕ
dots text = count_by (λ b. b == 46) text

-- how many slashes there are
abbrev pub slashes : List ℕ → ℕ
slashes text = count_by (λ b. b == 47) text

-- the most lookups of domains for a URL: one more than the dots of its host, none without a host
abbrev pub most_domains : Parts → ℕ
most_domains url = elim (host_of url) [ None ↦ 0 | Some host ↦ 1 + dots host ]

-- the most lookups of paths in each domain that is found: one more than twice the slashes of the
-- URL's path
abbrev pub most_paths : Parts → ℕ
most_paths url = 1 + 2 * slashes url.path
