use Rattle.std.proofs.Common.{◌≡◌, ◌∙◌, IfSome, ap, bytes_eq, map, subst, sym}
use Rattle.std.specs.Map.{lookup}
use Rattle.cookie_lookup.specs.SearchView.{group_position, under}
use Rattle.cookie_rows.specs.PathMaps.{stored_groups}
use Rattle.cookie_rows.specs.Stored.{paths_in, stored_in}
use Rattle.cookie_rows.specs.declared.paths.PathMap.TheVariants as Groups
use Rattle.cookie_rows.proofs.StoredOrder.{shown_groups}
use Rattle.cookie_rows.proofs.paths.Paths.find.Goals as goal

pub returns-in-Table-clause-position : goal.returns-in-Table-clause-position
returns-in-Table-clause-position c =
    c.found_in.ensures.position
    ∙ ap (λ s. group_position c.args.path.now (map (λ p. p.1) s)) (ap stored_in c.as_ref.ensures ∙ ap stored_groups (sym c.in-Table.is) ∙ c.self.view_is)

pub returns-in-Table-clause-names : goal.returns-in-Table-clause-names
returns-in-Table-clause-names c =
    subst (λ s. IfSome c.found_in.result (λ found. found.1.now ≡ under found.0 (map (λ p. p.1) s)))
    (ap stored_in c.as_ref.ensures ∙ ap stored_groups (sym c.in-Table.is) ∙ c.self.view_is) c.found_in.ensures.names

pub returns-in-Table-clause-in_order : goal.returns-in-Table-clause-in_order
returns-in-Table-clause-in_order c =
    c.found_in.ensures.in_order ∙ ap (λ m. lookup (bytes_eq c.args.path.now) (paths_in m)) c.as_ref.ensures
    ∙ ap (lookup (bytes_eq c.args.path.now)) (shown_groups c.self.inside.groups (Groups.Table c.in-Table.groups) c.args.self.now c.in-Table.is c.self.view_is)
