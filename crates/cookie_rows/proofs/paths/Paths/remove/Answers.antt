use Rattle.std.proofs.Common.{◌≡◌, ◌∙◌, ap}
use Rattle.cookie_rows.specs.Items.{find_item_paths, remove_item_paths}
use Rattle.cookie_rows.proofs.StoredOrder.{groups_in_order, shown_groups}
use Rattle.cookie_rows.proofs.paths.Paths.remove.Goals as goal

pub returns-clause-value : goal.returns-clause-value
returns-clause-value c =
    let same : c.self.inside.groups ≡ c.replace-groups.result = cc in
    c.without_row-groups.ensures.value
    ∙ ap (find_item_paths c.args.path.now c.args.name.now) (shown_groups c.self.inside.groups c.replace-groups.result c.args.self.now same c.self.view_is)

pub returns-clause-removed : goal.returns-clause-removed
returns-clause-removed c =
    let same : c.self.inside.groups ≡ c.replace-groups.result = cc in
    groups_in_order c.without_row-groups.result.0 ∙ c.without_row-groups.ensures.removed
    ∙ ap (remove_item_paths c.args.path.now c.args.name.now) (shown_groups c.self.inside.groups c.replace-groups.result c.args.self.now same c.self.view_is)
