-- A domain that passes the test `covers` covers the host as `Covers` defines it.
use Rattle.std.proofs.Common.{◌≡◌, ℕ, ◌-◌, true, List, ◌∷◌, ◌++◌, length, take, nat_eq, ⊎_elim, inl, inr, refl}
use Rattle.std.specs.List.{ends_with}
use Rattle.std.specs.Str.{bytes_eq}
use Rattle.std.proofs.lemmas.Bool.{and_parts, or_cases}
use Rattle.std.proofs.lemmas.Bool.Decides.{Decides-eqb}
use Rattle.std.proofs.lemmas.Slice.Eq.{bytes_eq-Decides, ends_is}
use Rattle.cookie_parts.specs.Hosts.{covers, Covers}

-- a string that ends with another is a prefix and that one
pub front-ends_with : (text end : List ℕ) → ends_with nat_eq text end ≡ true → (prefix : List ℕ) × (text ≡ prefix ++ end)
front-ends_with text end is =
    (take (length text - length end) text, (ends_is Decides-eqb text end (ends_with nat_eq text end) refl).0 is)

-- a domain that passes the test covers the host
pub Covers-covers : (domain host : List ℕ) → covers domain host ≡ true → Covers domain host
Covers-covers domain host is =
    ⊎_elim (λ same. inl ((bytes_eq-Decides domain host).0 same))
    (λ below.
    let parts = and_parts _ _ below in
    inr (parts.1, front-ends_with host (46 ∷ domain) parts.0))
    (or_cases (bytes_eq domain host) _ is)
