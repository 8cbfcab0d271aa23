-- What `retain` has done so far.
use Rattle.std.specs.Prelude.{◌≡◌, Bool, List, [], ◌∷◌, if◌then◌else◌}

-- std's `RetainsPairs`, where the calls have left the closure as g
abbrev pub RetainsTo : {F K X : Type 0} → (F → K → X → Bool → X → F → Type 0) → F → List (K × X) → List (K × X) → F → Type 0
RetainsTo T f [] kept g = (kept ≡ []) × (f ≡ g)
RetainsTo {F} {K} {X} T f (e ∷ es) kept g = (b : Bool) × (w : X) × (f' : F) × (rest : List (K × X)) × T f e.0 e.1 b w f' × RetainsTo T f' es rest g × (kept ≡ (if b then (e.0, w) ∷ rest else rest))
