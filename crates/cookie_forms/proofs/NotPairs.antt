-- Lists of items that are not a pair.
use Rattle.std.proofs.Common.{◌≡◌, ◌≢◌, List, [], ◌∷◌, length, None, refl}
use Rattle.serde_json.specs.View.{items_view}
use Rattle.serde_json.specs.declared.value.Value.{Value}
use Rattle.cookie_forms.specs.FromJson.{pair_in}

pub not_pair : (vs : List Value) → length vs ≢ 2 → None ≡ pair_in (items_view vs)
not_pair [] h = refl
not_pair (v ∷ []) h = refl
not_pair (v ∷ w ∷ []) h = absurd (h refl)
not_pair (v ∷ w ∷ x ∷ vs) h = refl
