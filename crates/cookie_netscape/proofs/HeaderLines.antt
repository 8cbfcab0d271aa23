-- Lines that are read by their fields or as headers.
use Rattle.std.proofs.Common.{◌≡◌, List, ℕ, Option, Some, None, IsSome, option_map, refl, ap}
use Rattle.std.specs.Option.{option_or}
use Rattle.std.proofs.lemmas.Bool.{false≢true}
use Rattle.cookie_parts.specs.Cookie.{Row}
use Rattle.cookie_netscape.specs.Lines.{content_cookie, fields_cookie, header_cookie}

-- what is read by its fields is not read as a header
pub by_fields : (text : List ℕ) (read : Option Row) → fields_cookie text ≡ Some read → content_cookie text ≡ Some read
unfolding content_cookie
by_fields text read fields = ap (λ first. option_or first (option_map Some (header_cookie text))) fields

-- the cookie of a header
by_header : (text : List ℕ) (found : Option Row) → fields_cookie text ≡ None → header_cookie text ≡ found
    → content_cookie text ≡ option_map Some found
unfolding content_cookie
by_header text found none header = rw (none, header) refl

-- a header with a cookie is read as that cookie
pub some_header : (text : List ℕ) (found : Option Row) → fields_cookie text ≡ None → header_cookie text ≡ found → IsSome found
    → (row : Row) × (content_cookie text ≡ Some (Some row))
some_header text None none header some = absurd (false≢true some)
some_header text (Some row) none header some = (row, by_header text (Some row) none header)
