-- Path-match and the default-path.
use Rattle.std.proofs.Common.{◌≡◌, ◌≢◌, ℕ, ◌+◌, ◌-◌, ◌==◌, ◌<◌, ◌≤◌, true, false, not, ◌&&◌, ◌||◌, List, [], ◌∷◌, ◌++◌, length, take, drop, get_or, nat_eq, codes, Decides, if◌then◌else◌, ◌⊎◌, inl, inr, sym, ap, ap₂, ◌∙◌, arith, length-append}
use Rattle.std.specs.List.{before_last, ends_with, starts_with}
use Rattle.std.proofs.lemmas.Bool.{eq-eqb, ne_eqb}
use Rattle.std.proofs.lemmas.Bool.Decides.{Decides-and, Decides-eqb, Decides-like, Decides-or}
use Rattle.std.proofs.lemmas.List.{nil_from_length, length-take-le}
use Rattle.std.proofs.lemmas.List.Elements.{All-from_get_or}
use Rattle.std.proofs.lemmas.List.Folds.{list_any_at, list_any_none}
use Rattle.std.proofs.lemmas.List.Prefix.{front_rest}
use Rattle.std.proofs.lemmas.List.Sums.{suffix_len_is}
use Rattle.url.specs.Parts.{Parts, cannot_be_a_base}
use Rattle.cookie_parts.specs.Path.{covers_path, default_path, directory, is_slash, CoversPath}
use Rattle.cookie_parts.proofs.Affixes.{Decides-ends_with, Decides-starts_with}

-- the path ends with `/`
abbrev EndsInSlash : List ℕ → Type 0
EndsInSlash path = (prefix : List ℕ) × (path ≡ prefix ++ 47 ∷ [])

-- the rest begins with `/`
abbrev BeginsWithSlash : List ℕ → Type 0
BeginsWithSlash rest = (more : List ℕ) × (rest ≡ 47 ∷ more)

-- what `covers_path` tests, part by part
abbrev TestHolds : List ℕ → List ℕ → Type 0
TestHolds path request = ((rest : List ℕ) × (request ≡ path ++ rest))
    × (((length path ≡ length request) ⊎ EndsInSlash path) ⊎ BeginsWithSlash (drop (length path) request))

-- the rest is empty if the two lengths are equal
rest_empty : (path request rest : List ℕ) → request ≡ path ++ rest → length path ≡ length request → rest ≡ []
rest_empty path request rest e same = nil_from_length rest (omega (arith, length-append path rest, ap length e))

-- the two lengths are equal if the rest is empty
same_length : (path request rest : List ℕ) → request ≡ path ++ rest → rest ≡ [] → length path ≡ length request
same_length path request rest e empty = omega (arith, length-append path rest, ap length e, ap length empty)

-- a path that passes the test path-matches
covers_from_test : (path request : List ℕ) → TestHolds path request → CoversPath path request
covers_from_test path request w =
    let cut = front_rest request path w.0.0 w.0.1 in (
      w.0.0,
      w.0.1,
      elim w.1 [
        | inl a ↦ elim a [
          | inl same ↦ inl (rest_empty path request w.0.0 w.0.1 same)
          | inr ends ↦ inr (inl ends)
        ]
        | inr begins ↦ inr (inr (begins.0, sym cut ∙ begins.1))
      ],
    )

-- a path that path-matches passes the test
test_from_covers : (path request : List ℕ) → CoversPath path request → TestHolds path request
test_from_covers path request w =
    let cut = front_rest request path w.0 w.1 in (
      (w.0, w.1),
      elim w.2 [
        | inl empty ↦ inl (inl (same_length path request w.0 w.1 empty))
        | inr a ↦ elim a [
          | inl ends ↦ inl (inr ends)
          | inr begins ↦ inr (begins.0, cut ∙ begins.1)
        ]
      ],
    )

-- the test `covers_path` decides `CoversPath`
pub covers_path_decides : (path request : List ℕ) → Decides (covers_path path request) (CoversPath path request)
covers_path_decides path request =
    let begins = starts_with nat_eq request path in
    let same = length path == length request in
    let ends = ends_with nat_eq path (47 ∷ []) in
    let goes_on = starts_with nat_eq (drop (length path) request) (47 ∷ []) in
    Decides-like (begins && (same || ends || goes_on)) (covers_from_test path request) (test_from_covers path request)
    (Decides-and begins (same || ends || goes_on) (Decides-starts_with request path)
    (Decides-or (same || ends) goes_on
    (Decides-or same ends (Decides-eqb (length path) (length request)) (Decides-ends_with path (47 ∷ [])))
    (Decides-starts_with (drop (length path) request) (47 ∷ []))))

-- the last `/` of a path is at index `at`
pub record IsLastSlash (path : List ℕ) (at : ℕ) : Type 0 where
  pub fits : at < length path
  pub is : get_or path at 0 ≡ 47
  pub last : (k : ℕ) → at < k → k < length path → get_or path k 0 ≢ 47

-- the path before the last `/`
before_last_slash : (path : List ℕ) (at : ℕ) → IsLastSlash path at → before_last is_slash path ≡ take at path
before_last_slash path at h =
    let same : at + 1 - 1 ≡ at = omega arith in
    let slash : get_or path (at + 1 - 1) 0 ≡ 47 = ap (λ k. get_or path k 0) same ∙ h.is in
    let other : (k : ℕ) → at + 1 ≤ k → k < length path → not (get_or path k 0 == 47) ≡ true = λ k low high. ap not (ne_eqb _ 47 (h.last k (omega arith) high)) in
    let after = suffix_len_is (λ b. not (b == 47)) path (at + 1) 0 (omega (arith, h.fits)) other (λ _. ap not (eq-eqb _ 47 slash)) in
    ap (λ n. take n path) (omega (arith, after, h.fits))

-- the directory of a path: up to its last `/`, but at least its first byte
directory-at : (path : List ℕ) (at : ℕ) → IsLastSlash path at → directory path ≡ (if at == 0 then take 1 path else take at path)
directory-at path at h =
    ap (λ before. if length before == 0 then take 1 path else before) (before_last_slash path at h)
    ∙ ap (λ n. if n == 0 then take 1 path else take at path) (length-take-le at path (omega (arith, h.fits)))

-- the default-path of a URL whose path has a `/`
default_path-directory : (url : Parts) (at : ℕ) → cannot_be_a_base url ≡ false → IsLastSlash url.path at → default_path url ≡ directory url.path
default_path-directory url at base h =
    ap₂ (λ none any. if none || not any then codes "/" else directory url.path) base
    (list_any_at is_slash url.path at 0 h.fits (eq-eqb (get_or url.path at 0) 47 h.is))

-- the default-path if the last `/` is the first byte
pub default_path-root : (url : Parts) (at : ℕ) → cannot_be_a_base url ≡ false → IsLastSlash url.path at → at ≡ 0 → default_path url ≡ take 1 url.path
default_path-root url at base h first =
    default_path-directory url at base h ∙ directory-at url.path at h
    ∙ ap (λ first. if first then take 1 url.path else take at url.path) (eq-eqb at 0 first)

-- the default-path if the last `/` is not the first byte
pub default_path-below : (url : Parts) (at : ℕ) → cannot_be_a_base url ≡ false → IsLastSlash url.path at → at ≢ 0 → default_path url ≡ take at url.path
default_path-below url at base h later =
    default_path-directory url at base h ∙ directory-at url.path at h
    ∙ ap (λ first. if first then take 1 url.path else take at url.path) (ne_eqb at 0 later)

-- the default-path of a URL whose path has no `/`
pub default_path-none : (url : Parts) → cannot_be_a_base url ≡ false
    → ((k : ℕ) → k < length url.path → get_or url.path k 0 ≢ 47) → default_path url ≡ codes "/"
default_path-none url base other =
    ap₂ (λ none any. if none || not any then codes "/" else directory url.path) base
    (list_any_none is_slash url.path (All-from_get_or (λ b. is_slash b ≡ false) url.path 0
    (λ k high. ne_eqb (get_or url.path k 0) 47 (other k high))))
