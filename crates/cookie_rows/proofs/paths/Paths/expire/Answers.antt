use Rattle.std.proofs.Common.{◌≡◌, ◌∙◌, ap}
use Rattle.cookie_rows.specs.Items.{expire_item_paths}
use Rattle.cookie_rows.proofs.StoredOrder.{groups_in_order, shown_groups}
use Rattle.cookie_rows.proofs.paths.Paths.expire.Goals as goal

pub returns : goal.returns
returns c =
    let same : c.self.inside.groups ≡ c.replace-groups.result = cc in
    groups_in_order c.with_expired.result ∙ c.with_expired.ensures
    ∙ ap (expire_item_paths c.args.path.now c.args.name.now) (shown_groups c.self.inside.groups c.replace-groups.result c.args.self.now same c.self.view_is)
