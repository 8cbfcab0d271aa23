-- The parts of a parsed cookie are slices of the header value.
use Rattle.std.specs.Prelude.{ℕ, List, IfSome}
use Rattle.std.specs.Str.Iter.{HasSubslice}
use Rattle.cookie_raw.specs.Raw.{Raw}

-- name, value, and domain and path if present, are slices of the header value
pub record HasSlices (text : List ℕ) (cookie : Raw) : Type 0 where
  pub name : HasSubslice text cookie.name
  pub value : HasSubslice text cookie.value
  pub domain : IfSome cookie.domain (HasSubslice text)
  pub path : IfSome cookie.path (HasSubslice text)
