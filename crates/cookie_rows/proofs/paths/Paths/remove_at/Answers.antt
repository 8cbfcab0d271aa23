use Rattle.std.proofs.Common.{◌≡◌, ◌∙◌, ap, subst, sym}
use Rattle.cookie_lookup.specs.Positions.{paths_in_order}
use Rattle.cookie_rows.specs.Least.{RemovesAt, stored_at}
use Rattle.cookie_rows.specs.PathMaps.{groups_of, stored_groups}
use Rattle.cookie_rows.proofs.StoredOrder.{groups_in_order, shown_groups}
use Rattle.cookie_rows.proofs.paths.Paths.remove_at.Goals as goal

pub returns : goal.returns
returns c text item there =
    let groups = c.replace-groups.result in
    let left = c.without_row_at.result in
    let same : c.self.inside.groups ≡ groups = cc in
    let here = ap (λ s. stored_at s c.args.path c.args.row) (ap stored_groups (sym same) ∙ c.self.view_is) ∙ there in
    subst (RemovesAt item (paths_in_order c.args.self.now)) (sym (groups_in_order left))
    (subst (λ ps. RemovesAt item ps (groups_of left)) (shown_groups c.self.inside.groups groups c.args.self.now same c.self.view_is) (c.without_row_at.ensures text item here))
