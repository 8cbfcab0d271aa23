-- The name and the value of an attribute without `=`.
use Rattle.std.proofs.Common.{◌≡◌, ℕ, ◌+◌, false, List, [], drop, length, refl, ap, ◌∙◌, arith}
use Rattle.std.specs.Str.{trim_start, trim_end, chars}
use Rattle.std.proofs.lemmas.List.{drop_all}
use Rattle.cookie_raw.specs.Rfc6265bis.{name_by, trimmed, value_by}
use Rattle.cookie_raw.specs.SetCookie.{is_equals, has_equals}
use Rattle.cookie_raw.specs.declared.syntax.Syntax.{Syntax}
use Rattle.cookie_raw.specs.declared.syntax.Syntax.TheVariants.{Rfc6265, Rfc6265bis}
use Rattle.cookie_raw.proofs.JoinedPieces.{before_none, no_place}

-- the name is all of it, trimmed
pub whole_name : (syntax : Syntax) (piece : List ℕ) → has_equals piece ≡ false → name_by syntax piece ≡ trimmed syntax piece
whole_name syntax piece e = ap (trimmed syntax) (before_none is_equals piece e)

-- trimming an empty string gives an empty string
trimmed-nil : (syntax : Syntax) → trimmed syntax [] ≡ []
unfolding trim_start trim_end chars
trimmed-nil Rfc6265 = refl
trimmed-nil Rfc6265bis = refl

-- and the value is empty
pub no_value : (syntax : Syntax) (piece : List ℕ) → has_equals piece ≡ false → value_by syntax piece ≡ []
no_value syntax piece e =
    ap (λ n. trimmed syntax (drop (n + 1) piece)) (no_place is_equals piece e)
    ∙ ap (trimmed syntax) (drop_all (length piece + 1) piece (omega arith)) ∙ trimmed-nil syntax
