use Rattle.cookie_lookup.specs.Groups.{AreGroups}
use Rattle.cookie_rows.proofs.PlacedGroups.{placed, of_placed, of_groups}
use Rattle.cookie_rows.proofs.map_search.given_positions.Goals as goal

pub invariant_of-search : goal.invariant_of-search
invariant_of-search c =
    let m = c.args.groups.now in
    record {
      rows = of_groups m (λ gs others. AreGroups others) (c.rows_by_place.ensures.groups (placed m) (of_placed m (λ gs others. AreGroups gs) c.requires));
    }
