-- The rows that remain if those for which a closure returns false are removed.
use Rattle.std.specs.Prelude.{◌≡◌, ℕ, Bool, not, List, [], ◌∷◌, bytes_eq, if◌then◌else◌}
use denote.Ref.{Bor}
use Rattle.cookie_parts.specs.Cookie.{Row}
use Rattle.cookie_parts.specs.Domain.{domain_text}
use Rattle.cookie_rows.specs.GroupChanges.{unless_empty}
use Rattle.cookie_rows.specs.Items.{Item, ItemGroups, ItemPaths}

-- the row has another domain
abbrev pub has_other_domain : List ℕ → Row → Bool
has_other_domain domain row = not (bytes_eq domain (domain_text row.domain))

-- a call of the closure with the row and its number may have this result
abbrev pub ReturnsFor : (Bor Row → ℕ → Bool → Type 0) → Item → Bool → Type 0
ReturnsFor post item result = (shown : Bor Row) × (shown.now ≡ item.row) × post shown item.number result

-- the rows of a group for which the closure returns true; `returns` relates a row and the result
abbrev pub RetainsItems : (Item → Bool → Type 0) → List Item → List Item → Type 0
RetainsItems returns [] new = new ≡ []
RetainsItems returns (x ∷ xs) new =
    (result : Bool) × (rest : List Item) × returns x result × RetainsItems returns xs rest × (new ≡ (if result then x ∷ rest else rest))

-- each group as `Retains` relates it to what remains of it, without empty groups
abbrev pub RetainsGroups : {X : Type 0} → (List X → List X → Type 0) → List (List ℕ × List X) → List (List ℕ × List X) → Type 0
RetainsGroups Retains [] new = new ≡ []
RetainsGroups {X} Retains (g ∷ gs) new =
    (kept : List X) × (rest : List (List ℕ × List X)) × Retains g.1 kept × RetainsGroups Retains gs rest × (new ≡ unless_empty g.0 kept rest)

-- the same of the groups of a domain
abbrev pub RetainsPaths : (Item → Bool → Type 0) → ItemPaths → ItemPaths → Type 0
RetainsPaths returns old new = RetainsGroups (RetainsItems returns) old new

-- the same of all groups
abbrev pub RetainsDomains : (Item → Bool → Type 0) → ItemGroups → ItemGroups → Type 0
RetainsDomains returns old new = RetainsGroups (RetainsPaths returns) old new
