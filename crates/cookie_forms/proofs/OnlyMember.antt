-- The only member of an object.
use Rattle.std.proofs.Common.{◌≡◌, ◌≢◌, ℕ, List, [], ◌∷◌, length, Some, None, Option, option_map, String, Global, string_bytes, slice_get, refl, arith}
use Rattle.serde_json.specs.View.{view, members_view}
use Rattle.serde_json.specs.Find.{as_str}
use Rattle.serde_json.specs.declared.value.Value.{Value}
use Rattle.cookie_forms.specs.FromJson.{only_text}

pub not_one : (es : List (String Global × Value)) → length es ≢ 1 → None ≡ only_text (members_view es)
not_one [] h = refl
not_one (e ∷ []) h = absurd (h refl)
not_one (e ∷ f ∷ es) h = refl

-- the name and string of a member
abbrev pub of_one : Option (String Global × Value) → Option (List ℕ × List ℕ)
of_one None = None
of_one (Some e) = option_map (λ text. (string_bytes e.0, text)) (as_str (view e.1))

pub one : (es : List (String Global × Value)) → length es ≡ 1 → only_text (members_view es) ≡ of_one (slice_get es 0)
one [] h = absurd (omega (arith, h))
one (e ∷ []) h = refl
one (e ∷ f ∷ es) h = absurd (omega (arith, h))
