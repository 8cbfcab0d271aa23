-- What contracts see of a raw cookie: what its accessors return.
use Rattle.std.specs.Prelude.{ℕ, ℤ, Bool, List, Option, None}
use Rattle.cookie_words.specs.Moments.{Moment}
use Rattle.cookie_raw.specs.declared.same_site.SameSite.{SameSite}

-- the Expires attribute: a time, or the end of the session
pub data ExpiresValue : Type 0 where
  At : Moment → ExpiresValue
  Session : ExpiresValue

-- None if the attribute is absent
pub record Raw : Type 0 where
  pub name : List ℕ
  pub value : List ℕ
  -- without one leading dot
  pub domain : Option (List ℕ)
  -- as written, even if it does not begin with `/`
  pub path : Option (List ℕ)
  pub secure : Option Bool
  pub http_only : Option Bool
  pub same_site : Option SameSite
  -- in nanoseconds
  pub max_age : Option ℤ
  pub expires : Option ExpiresValue

-- a cookie with a name and a value, and no attributes
abbrev pub pair : List ℕ → List ℕ → Raw
pair name value = record {
  name = name;
  value = value;
  domain = None;
  path = None;
  secure = None;
  http_only = None;
  same_site = None;
  max_age = None;
  expires = None;
}
