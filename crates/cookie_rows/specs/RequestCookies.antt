-- What contracts know of the cookies of a request.
use Rattle.std.specs.Prelude.{ℕ, List}
use Rattle.std.specs.Borrow.{Bor}
use Rattle.cookie_parts.specs.Cookie.{Row}

-- a cookie's name and value
abbrev pub name_and_value : Row → List ℕ × List ℕ
name_and_value cookie = (cookie.raw.name, cookie.raw.value)

-- two borrowed strings
abbrev pub borrowed_pair : Bor (List ℕ) × Bor (List ℕ) → List ℕ × List ℕ
borrowed_pair pair = (pair.0.now, pair.1.now)
