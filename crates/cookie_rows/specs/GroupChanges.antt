-- Operations on rows in groups.
use Rattle.std.specs.Prelude.{ℕ, Bool, false, ◌==◌, List, [], ◌∷◌, length, map, string_bytes, String, bytes_eq, find, Option, None, if◌then◌else◌}
use Rattle.cookie_parts.specs.Cookie.{Row}

-- the entries of a map, with their keys as lists of bytes, and `g` of their values
abbrev pub texts_by : {A V X : Type 0} → (V → X) → List (String A × V) → List (List ℕ × X)
texts_by g es = map (λ e. (string_bytes e.0, g e.1)) es

-- the entries of a map, with their keys as lists of bytes
abbrev pub texts_of : {A X : Type 0} → List (String A × X) → List (List ℕ × X)
texts_of es = texts_by (λ x. x) es

-- the row has this name
abbrev pub is_named : List ℕ → Row → Bool
is_named name row = bytes_eq name row.raw.name

-- the first row of this name
abbrev pub row_named : List ℕ → List Row → Option Row
row_named name rows = find (is_named name) rows

-- groups, each under its domain or path, here `text`

module _ {X : Type 0} where
  -- what `f` finds in the group of this text
  abbrev pub found : (List X → Option Row) → List ℕ → List (List ℕ × List X) → Option Row
  found f text [] = None
  found f text (g ∷ gs) = if bytes_eq text g.0 then f g.1 else found f text gs

  -- the group of this text changed by `f`, or added at the end as `f` of an empty group
  abbrev pub put_at : (List X → List X) → List ℕ → List (List ℕ × List X) → List (List ℕ × List X)
  put_at f text [] = (text, f []) ∷ []
  put_at f text (g ∷ gs) = if bytes_eq text g.0 then (g.0, f g.1) ∷ gs else g ∷ put_at f text gs

  -- the group of this text changed by `f`, if there is one
  abbrev pub changed_at : (List X → List X) → List ℕ → List (List ℕ × List X) → List (List ℕ × List X)
  changed_at f text [] = []
  changed_at f text (g ∷ gs) = if bytes_eq text g.0 then (g.0, f g.1) ∷ gs else g ∷ changed_at f text gs

  -- there is a group of this text, and it is empty
  abbrev pub is_empty_at : List ℕ → List (List ℕ × List X) → Bool
  is_empty_at text [] = false
  is_empty_at text (g ∷ gs) = if bytes_eq text g.0 then length g.1 == 0 else is_empty_at text gs

  -- the groups with this one in front, unless it is empty
  abbrev pub unless_empty : List ℕ → List X → List (List ℕ × List X) → List (List ℕ × List X)
  unless_empty text [] gs = gs
  unless_empty text (x ∷ xs) gs = (text, x ∷ xs) ∷ gs

  -- the group of this text changed by `f`, and dropped if it is empty then
  abbrev pub lessened_at : (List X → List X) → List ℕ → List (List ℕ × List X) → List (List ℕ × List X)
  lessened_at f text [] = []
  lessened_at f text (g ∷ gs) = if bytes_eq text g.0 then unless_empty g.0 (f g.1) gs else g ∷ lessened_at f text gs
