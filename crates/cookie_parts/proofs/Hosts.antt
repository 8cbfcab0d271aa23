-- Domain-match of a domain and a host.
use Rattle.std.proofs.Common.{◌≡◌, ◌≢◌, ℕ, Bool, false, ◌&&◌, List, [], ◌∷◌, ◌++◌, Option, Some, nat_eq, Decides, sym, ap, ◌∙◌, append_assoc}
use Rattle.std.specs.List.{ends_with}
use Rattle.std.specs.Str.{bytes_eq}
use Rattle.std.proofs.lemmas.Bool.{false≢true}
use Rattle.std.proofs.lemmas.Bool.Decides.{Decides-and, Decides-at, Decides-like, Decides-or, same_from_decides}
use Rattle.std.proofs.lemmas.List.{append_cancel_right}
use Rattle.std.proofs.lemmas.Slice.Eq.{bytes_eq-Decides}
use Rattle.cookie_parts.specs.Domain.{DomainValue, Suffix, IsForHost}
use Rattle.cookie_parts.specs.Hosts.{covers, is_host_name, Covers}
use Rattle.cookie_parts.proofs.Affixes.{Decides-ends_with}

-- the test `covers` decides `Covers`
pub covers-Decides : (domain host : List ℕ) → Decides (covers domain host) (Covers domain host)
covers-Decides domain host =
    let below = ends_with nat_eq host (46 ∷ domain) in
    let named = is_host_name host in
    Decides-or (bytes_eq domain host) (below && named) (bytes_eq-Decides domain host)
    (Decides-like (below && named) (λ w. (w.1, w.0)) (λ w. (w.1, w.0))
    (Decides-and below named (Decides-ends_with host (46 ∷ domain)) (λ e. e, λ e. e)))

-- a host that ends in a domain ends in a dot and the domain exactly if what precedes the domain ends in a dot
pub ends_in_dot : (host domain prefix : List ℕ) (r : Bool) → host ≡ prefix ++ domain
    → Decides r ((rest : List ℕ) × (prefix ≡ rest ++ 46 ∷ []))
    → r ≡ ends_with nat_eq host (46 ∷ domain)
ends_in_dot host domain prefix r split dotted =
    same_from_decides r _ (Decides-like r
    (λ w. (w.0, split ∙ ap (λ x. x ++ domain) w.1 ∙ append_assoc w.0 (46 ∷ []) domain))
    (λ w. (w.0, append_cancel_right prefix (w.0 ++ 46 ∷ []) domain (sym split ∙ w.1 ∙ sym (append_assoc w.0 (46 ∷ []) domain))))
    dotted)
    (Decides-ends_with host (46 ∷ domain))

-- a host that does not end in a domain does not end in a dot and the domain
pub ends_otherwise : (host domain : List ℕ) → ((prefix : List ℕ) → host ≢ prefix ++ domain)
    → false ≡ ends_with nat_eq host (46 ∷ domain)
ends_otherwise host domain other =
    same_from_decides false _
    (λ e. absurd (false≢true e), λ w. absurd (other (w.0 ++ 46 ∷ []) (w.1 ∙ sym (append_assoc w.0 (46 ∷ []) domain))))
    (Decides-ends_with host (46 ∷ domain))

-- `covers` decides whether a `Suffix` matches the host of a URL
pub for_host-Decides : (domain : DomainValue) (host : Option (List ℕ)) (text name : List ℕ) (r : Bool)
    → domain ≡ Suffix text → host ≡ Some name → r ≡ covers text name → Decides r (IsForHost domain host)
for_host-Decides domain host text name r is_suffix is_name told =
    rw (is_suffix, is_name) (Decides-at r (covers text name) told (covers-Decides text name))
