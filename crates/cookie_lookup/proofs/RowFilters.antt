-- The tests left for a row under candidates of the URL decide whether it is given.
use Rattle.std.proofs.Common.{◌≡◌, ℕ, ◌<◌, ◌⊎◌, Bool, true, false, not, ◌&&◌, ◌||◌, List, [], ◌∷◌, ◌++◌, length, refl, ap, inl, inr, eqb, bytes_eq, nat_eq, arith, length-append, Some}
use Rattle.std.specs.Prelude.{slice_index, IsTrue}
use Rattle.std.specs.List.{ends_with, starts_with}
use Rattle.std.proofs.lemmas.Bool.Decides.{nat_tests}
use Rattle.std.proofs.lemmas.Bool.Decides.{Decides-eqb}
use Rattle.std.proofs.lemmas.Slice.Eq.{bytes_eq-Decides, ends_is}
use Rattle.url.specs.Parts.{Parts, cannot_be_a_base}
use Rattle.cookie_words.specs.Moments.{Moment}
use Rattle.cookie_parts.specs.Cookie.{is_expired, is_http_only, is_secure_only}
use Rattle.cookie_parts.specs.Domain as Domain
use Rattle.cookie_parts.specs.Domain.{DomainValue, domain_text, domain_matches}
use Rattle.cookie_parts.specs.Hosts.{host_of, covers, is_host_name, is_http_scheme, is_secure}
use Rattle.cookie_parts.specs.Path.{covers_path, is_absolute, path_matches, CoversPath}
use Rattle.cookie_laws.specs.Given.{is_given}
use Rattle.cookie_lookup.specs.RowFilter.{is_given_under, is_host, is_name, covers_host, kind_matches, AgreesUnder}
use Rattle.cookie_lookup.specs.Candidates.{IsCandidatePath, IsCandidateDomain}
use Rattle.cookie_lookup.proofs.CoveringPaths.{covers_it}
use Rattle.cookie_lookup.proofs.CandidateCuts.{bool_cases}

-- a candidate domain is the host if and only if it is as long
same_length : (host text : List ℕ) → IsCandidateDomain host text → bytes_eq text host ≡ eqb (length text) (length host)
same_length host text related = elim related [
  | inl same ↦ rw (same, (bytes_eq-Decides host host).1 refl) (grind (arith, nat_tests))
  | inr w ↦
      let shorter : length text < length host = omega (arith, ap length w.1, length-append w.0 (46 ∷ text)) in
      elim (bool_cases (bytes_eq text host)) [
        | inl e ↦ let same : length text ≡ length host = ap length ((bytes_eq-Decides text host).0 e) in absurd (omega arith)
        | inr e ↦ rw e (grind (arith, nat_tests, shorter))
      ]
]

-- 5.1.3: and it covers the host if it is the host, or the host is a name
covers_candidate : (host text : List ℕ) → IsCandidateDomain host text → covers text host ≡ (eqb (length text) (length host) || is_host_name host)
covers_candidate host text related = rw (← same_length host text related) (either (bytes_eq text host) (ends_with nat_eq host (46 ∷ text)) (is_host_name host) (where_not related))
  where
    either : (same ends name : Bool) → (same ≡ true) ⊎ (ends ≡ true) → (same || ends && name) ≡ (same || name)
    either same ends name (inl e) = rw e refl
    either same ends name (inr e) = rw e refl

    where_not : IsCandidateDomain host text → (bytes_eq text host ≡ true) ⊎ (ends_with nat_eq host (46 ∷ text) ≡ true)
    where_not (inl same) = inl ((bytes_eq-Decides text host).1 same)
    where_not (inr w) = inr ((ends_is Decides-eqb host (46 ∷ text) (ends_with nat_eq host (46 ∷ text)) refl).1 w.0 w.1)

module _ (url : Parts) (host text : List ℕ) (here : Some host ≡ host_of url) (related : IsCandidateDomain host text) where
  kinds : (domain : DomainValue) → domain_text domain ≡ text
      → kind_matches (is_host text host) (covers_host text host) domain
      ≡ (domain_matches domain url && is_name (domain_text domain))
  kinds (Domain.HostOnly d) e = rw (← here, e, same_length host text related) (grind (arith, nat_tests))
  kinds (Domain.Suffix d) e = rw (← here, e, covers_candidate host text related) (grind (arith, nat_tests))
  kinds Domain.NotPresent e = rw (← here) refl
  kinds Domain.Empty e = rw (← here) refl

-- a path that begins with a slash is one of a URL that can be a base
can_be_a_base : (url : Parts) (text : List ℕ) → IsCandidatePath url.path text → cannot_be_a_base url ≡ false
can_be_a_base url text is = let w = covers_it url.path text is in slashed url text w.0 w.1 is.0
  where
    slashed : (url : Parts) (text rest : List ℕ) → url.path ≡ text ++ rest → starts_with nat_eq text (47 ∷ []) ≡ true → cannot_be_a_base url ≡ false
    slashed url [] rest e begins = absurd (cc)
    slashed url (b ∷ text) rest e begins =
        let slash : b ≡ 47 = grind (arith, nat_tests, begins) in
        let first : eqb (slice_index url.path 0) 47 ≡ true = rw (e, slash) refl in
        grind (arith, nat_tests, first)

module _ (ended secure http : Bool) where
  other_order : (k d p n b : Bool) → k ≡ (d && n) → p ≡ true → b ≡ true
      → (k && not ended && secure && http) ≡ (not ended && (d && p && secure && http) && n && b)
  other_order k d p n b is covered absolute = rw (is, covered, absolute) (turned d n ended)
    where
      turned : (d n ended : Bool) → (d && n && not ended && secure && http) ≡ (not ended && (d && true && secure && http) && n && true)
      turned false n true = refl
      turned false n false = refl
      turned true false true = refl
      turned true false false = grind (arith, nat_tests)
      turned true true true = refl
      turned true true false = grind (arith, nat_tests)

-- so the tests left decide whether the row is given
pub candidates_given : (url : Parts) (now : Moment) (host text : List ℕ) → Some host ≡ host_of url → IsCandidateDomain host text
    → ((path request : List ℕ) → CoversPath path request → IsTrue (covers_path path request))
    → AgreesUnder text (is_given_under (is_host text host) (covers_host text host) url now) (is_given url now) url.path
candidates_given url now host text here related match row of path =
    let covered : covers_path row.path.text url.path ≡ true = match row.path.text url.path (covers_it url.path row.path.text path) in
    let path_is : path_matches row.path.text url ≡ true = rw (can_be_a_base url row.path.text path, covered) refl in
    other_order (is_expired now row) (not (is_secure_only row.raw) || is_secure url) (not (is_http_only row.raw) || is_http_scheme url)
    (kind_matches (is_host text host) (covers_host text host) row.domain) (domain_matches row.domain url) (path_matches row.path.text url) (is_name (domain_text row.domain))
    (is_absolute row.path.text) (kinds url host text here related row.domain of) path_is path.0
