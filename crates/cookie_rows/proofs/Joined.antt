-- The rows of groups, group after group.
use Rattle.std.proofs.Common.{◌≡◌, ℕ, List, [], ◌∷◌, ◌++◌, map, refl, ◌∙◌, ap}
use Rattle.std.specs.Prelude.{String}
use Rattle.std.specs.Map.{values_of}
use Rattle.std.proofs.lemmas.Grind.{flat_map-append}
use Rattle.std.proofs.lemmas.List.{map-append}
use Rattle.ordered_map.specs.Entries.{in_order}
use Rattle.cookie_lookup.specs.Groups.{flat_paths, flat}
use Rattle.cookie_lookup.specs.Positions.{paths_in_order}
use Rattle.cookie_rows.specs.GroupChanges.{texts_by}
use Rattle.cookie_rows.specs.Items.{Item, bare, bare_paths, joined, rows_of}
use Rattle.cookie_rows.specs.Stored.{StoredItems, StoredPaths, all_stored}

-- the groups of a domain, one after the other
joined_paths : (ps : List (List ℕ × StoredItems)) → rows_of (joined (map in_order (map (λ p. p.1) ps))) ≡ flat_paths (bare_paths (map (λ p. (p.0, in_order p.1)) ps))
joined_paths [] = refl
joined_paths (p ∷ ps) =
    map-append (λ (item : Item). item.row) (in_order p.1) (joined (map in_order (map (λ q. q.1) ps))) ∙ ap (λ xs. rows_of (in_order p.1) ++ xs) (joined_paths ps)

-- all groups, one after the other
pub joined_is : {A : Type 0} (es : List (String A × StoredPaths)) → rows_of (joined (map in_order (all_stored (values_of es)))) ≡ flat (bare (texts_by paths_in_order es))
joined_is [] = refl
joined_is (e ∷ es) =
    let first : List StoredItems = map (λ p. p.1) (in_order e.1) in
    let others : List StoredItems = all_stored (values_of es) in
    ap (λ gs. rows_of (joined gs)) (map-append in_order first others)
    ∙ ap rows_of (flat_map-append (λ items. items) (map in_order first) (map in_order others))
    ∙ map-append (λ (item : Item). item.row) (joined (map in_order first)) (joined (map in_order others))
    ∙ ap (λ xs. xs ++ rows_of (joined (map in_order others))) (joined_paths (in_order e.1))
    ∙ ap (λ ys. flat_paths (bare_paths (paths_in_order e.1)) ++ ys) (joined_is es)
