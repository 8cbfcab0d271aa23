-- A written host, read back.
use Rattle.std.proofs.Common.{◌≡◌, ℕ, ◌==◌, ◌&&◌, true, false, List, [], ◌∷◌, codes, nat_eq, refl, sym, ap, ◌∙◌, ⊎_elim}
use Rattle.std.specs.List.{ends_with}
use Rattle.std.proofs.lemmas.Bool.{and_parts, cases_Bool, cond-false, cond-true, eqb-true, not-true}
use Rattle.std.proofs.lemmas.Slice.Eq.{bytes_eq-Decides}
use Rattle.cookie_netscape.specs.HostFields.{bracketed, cut_by, host_from, is_bare_address, is_representable_host, plain_host, written_host}
use Rattle.cookie_netscape.proofs.HostEnds.{front_of}

-- an IPv6 address gets the brackets that it had
address_back : (b : ℕ) (rest : List ℕ) → (b == 91) ≡ true → ends_with nat_eq rest (codes "]") ≡ true
    → is_bare_address (cut_by 1 rest) ≡ true → bracketed (cut_by 1 rest) ≡ b ∷ rest
address_back b rest first ends address =
    cond-true _ _ _ address ∙ ap (λ host. 91 ∷ host) (sym (front_of rest (codes "]") ends)) ∙ ap (λ c. c ∷ rest) (sym (eqb-true b 91 first))

-- the brackets come back, if the host had them
brackets_back : (host : List ℕ) → is_bare_address host ≡ false → bracketed (written_host host) ≡ host
unfolding written_host
brackets_back [] none = refl
brackets_back (b ∷ rest) none =
    ⊎_elim (λ is. ap bracketed (cond-true _ _ _ is)
    ∙ (let parts = and_parts _ _ is in let front = and_parts _ _ parts.0 in address_back b rest front.0 front.1 parts.1))
    (λ other. ap bracketed (cond-false _ _ _ other) ∙ cond-false _ _ _ none)
    (cases_Bool ((b == 91) && ends_with nat_eq rest (codes "]") && is_bare_address (cut_by 1 rest)))

-- nothing is dropped behind a written host
pub plain_back : (host : List ℕ) → is_representable_host host ≡ true → plain_host (written_host host) ≡ written_host host
plain_back host own = (bytes_eq-Decides _ _).0 (and_parts _ _ own).1

-- a written host is read as the host
pub host_back : (host : List ℕ) → is_representable_host host ≡ true → host_from (written_host host) ≡ host
host_back host own = ap bracketed (plain_back host own) ∙ brackets_back host (not-true _ (and_parts _ _ own).0)
