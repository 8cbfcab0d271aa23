-- The path of a cookie, default-path and path-match, RFC 6265 5.1.4 and 5.2.4.
use Rattle.std.specs.Prelude.{◌≡◌, ℕ, ◌==◌, Bool, true, false, not, ◌&&◌, ◌||◌, List, [], ◌∷◌, ◌++◌, length, take, drop, nat_eq, codes, Option, Some, None, unwrap_or, ◌⊎◌, if◌then◌else◌}
use Rattle.std.specs.Bool.{beq}
use Rattle.std.specs.Cmp.{IsEquivalence, and_equiv, on_equiv, bool_eq_equiv}
use Rattle.std.specs.Cmp.Lexicographic.{on_texts_equal, pointwise, slice_cmp}
use Rattle.std.specs.Ordering.{bool_cmp, eq_of_both, nat_cmp, on, then_cmp}
use Rattle.std.specs.declared.cmp.Ordering.{Ordering}
use Rattle.std.specs.List.{before_last, ends_with, list_any, starts_with}
use Rattle.url.specs.Parts.{Parts, cannot_be_a_base}

-- the path, and whether a Path attribute set it
pub record PathValue : Type 0 where
  pub text : List ℕ
  pub is_from_attribute : Bool

-- the byte is `/`
abbrev pub is_slash : ℕ → Bool
is_slash b = b == 47

-- the path begins with `/`
abbrev pub IsAbsolute : List ℕ → Type 0
IsAbsolute path = (rest : List ℕ) × (path ≡ 47 ∷ rest)

-- `IsAbsolute` as a test
abbrev pub is_absolute : List ℕ → Bool
is_absolute path = starts_with nat_eq path (47 ∷ [])

-- 5.1.4: the path up to, but not including, the right-most `/`; its first byte if nothing precedes that
abbrev pub directory : List ℕ → List ℕ
directory path =
    if length (before_last is_slash path) == 0 then take 1 path else before_last is_slash path

-- 5.1.4: the default-path of a URL; `/` if its path has no `/` or it cannot be a base
abbrev pub default_path : Parts → List ℕ
default_path url =
    if cannot_be_a_base url || not (list_any is_slash url.path) then codes "/"
    else directory url.path

-- the default-path of a URL as the path of a cookie
abbrev pub from_url : Parts → PathValue
from_url url = record { text = default_path url; is_from_attribute = false }

-- a Path attribute as the path of a cookie
abbrev pub from_attribute : List ℕ → PathValue
from_attribute path = record { text = path; is_from_attribute = true }

-- a Path attribute as the path of a cookie, if it begins with `/`
abbrev pub absolute_path : List ℕ → Option PathValue
absolute_path path = if is_absolute path then Some (from_attribute path) else None

-- 5.2.4: the Path attribute if it begins with `/`, else the default-path
abbrev pub path_or_default : Option (List ℕ) → Parts → PathValue
path_or_default None url = from_url url
path_or_default (Some path) url = unwrap_or (absolute_path path) (from_url url)

-- 5.1.4, path-match: the cookie-path is a prefix of the request-path, and they are identical,
-- or the cookie-path ends with `/`, or the first character after the prefix is `/`
abbrev pub CoversPath : List ℕ → List ℕ → Type 0
CoversPath path request = (rest : List ℕ) × (request ≡ path ++ rest)
    × ((rest ≡ []) ⊎ (((prefix : List ℕ) × (path ≡ prefix ++ 47 ∷ [])) ⊎ ((more : List ℕ) × (rest ≡ 47 ∷ more))))

-- `CoversPath` as a test
abbrev pub covers_path : List ℕ → List ℕ → Bool
covers_path path request =
    starts_with nat_eq request path
    && ((length path == length request) || ends_with nat_eq path (47 ∷ [])
    || starts_with nat_eq (drop (length path) request) (47 ∷ []))

-- the URL can be a base, and its path path-matches the path
abbrev pub path_matches : List ℕ → Parts → Bool
path_matches path url = not (cannot_be_a_base url) && covers_path path url.path

-- the same path, and both or neither set by a Path attribute
abbrev pub same_path : PathValue → PathValue → Bool
same_path = eq_of_both (on (λ p. p.text) (pointwise nat_eq)) (on (λ p. p.is_from_attribute) beq)

-- `same_path` is an equivalence
pub same_path_equiv : IsEquivalence same_path
same_path_equiv = and_equiv (on_texts_equal (λ p. p.text)) (on_equiv (λ p. p.is_from_attribute) bool_eq_equiv)

-- ordered by path, then those that no Path attribute set before those that one set
abbrev pub compare_paths : PathValue → PathValue → Ordering
compare_paths = then_cmp (on (λ p. p.text) (slice_cmp nat_cmp)) (on (λ p. p.is_from_attribute) bool_cmp)
