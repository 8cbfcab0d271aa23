use Rattle.std.proofs.Common.{◌∙◌, ap, length, sym}
use Rattle.std.specs.Prelude.{string_bytes}
use Rattle.std.proofs.lemmas.List.{length-map}
use Rattle.ordered_map.specs.Entries.{entries, in_order}
use Rattle.cookie_rows.specs.declared.paths.PathMap.TheVariants as Groups
use Rattle.ordered_map.proofs.ByPlace.{length_in_order}
use Rattle.cookie_rows.proofs.StoredOrder.{shown_groups}
use Rattle.cookie_rows.proofs.paths.Paths.len.Goals as goal

pub returns-in-Table-clause-in_order : goal.returns-in-Table-clause-in_order
returns-in-Table-clause-in_order c =
    c.len.ensures.len ∙ ap (λ m. length (entries m)) c.deref.ensures
    ∙ sym (length-map (entries c.in-Table.groups.value) (λ e. (string_bytes e.0, in_order e.1)))
    ∙ ap length (shown_groups c.self.inside.groups (Groups.Table c.in-Table.groups) c.args.self.now c.in-Table.is c.self.view_is)

pub returns-in-Table-clause-stored : goal.returns-in-Table-clause-stored
returns-in-Table-clause-stored c =
    let now = c.args.self.now in
    returns-in-Table-clause-in_order c ∙ length-map (in_order now) (λ p. (p.0, in_order p.1)) ∙ length_in_order now
