use Rattle.std.proofs.Common.{◌∙◌, ap, map, sym}
use Rattle.std.specs.Map.{values_of}
use Rattle.ordered_map.specs.Entries.{entries, in_order}
use Rattle.cookie_rows.specs.PathMaps.{stored_groups}
use Rattle.cookie_rows.proofs.StoredPaths.{values_in_order}
use Rattle.cookie_rows.proofs.paths.Paths.groups.Goals as goal

pub returns-in-Table : goal.returns-in-Table
returns-in-Table c =
    c.of_table.ensures ∙ c.values.ensures ∙ ap (λ m. values_of (entries m)) c.deref.ensures ∙ values_in_order c.in-Table.groups.value ∙ ap (λ s. map (λ p. p.1) (in_order s)) (ap stored_groups (sym c.in-Table.is) ∙ c.self.view_is)
