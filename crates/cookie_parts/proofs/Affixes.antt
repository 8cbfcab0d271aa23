-- Whether a list of bytes begins or ends with another.
use Rattle.std.proofs.Common.{◌≡◌, ℕ, ◌-◌, List, ◌++◌, length, take, drop, nat_eq, Decides, refl}
use Rattle.std.specs.List.{starts_with, ends_with}
use Rattle.std.proofs.lemmas.Bool.Decides.{Decides-eqb}
use Rattle.std.proofs.lemmas.Slice.Eq.{starts_is, ends_is}

-- a list begins with another exactly if it is that one and a rest
pub Decides-starts_with : (s p : List ℕ) → Decides (starts_with nat_eq s p) ((rest : List ℕ) × (s ≡ p ++ rest))
Decides-starts_with s p =
    let told = starts_is Decides-eqb s p (starts_with nat_eq s p) refl in
    (λ e. (drop (length p) s, told.0 e), λ w. told.1 w.0 w.1)

-- a list ends with another exactly if it is a prefix and that one
pub Decides-ends_with : (s p : List ℕ) → Decides (ends_with nat_eq s p) ((prefix : List ℕ) × (s ≡ prefix ++ p))
Decides-ends_with s p =
    let told = ends_is Decides-eqb s p (ends_with nat_eq s p) refl in
    (λ e. (take (length s - length p) s, told.0 e), λ w. told.1 w.0 w.1)
