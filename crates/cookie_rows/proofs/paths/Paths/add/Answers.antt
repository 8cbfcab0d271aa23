use Rattle.std.proofs.Common.{◌≡◌, ◌∙◌, ap}
use Rattle.cookie_rows.specs.Items.{find_item_paths, put_item_paths}
use Rattle.cookie_rows.proofs.Results.{on_err_map, on_ok_map}
use Rattle.cookie_rows.proofs.StoredOrder.{groups_in_order, shown_groups}
use Rattle.cookie_rows.proofs.paths.Paths.add.Goals as goal

pub with_row-groups-requires : goal.with_row-groups-requires
with_row-groups-requires c =
    let same : c.self.inside.groups ≡ c.replace-groups.result = cc in
    record {
      new = ap (find_item_paths c.args.row.row.path.text c.args.row.row.raw.name) (shown_groups c.self.inside.groups c.replace-groups.result c.args.self.now same c.self.view_is)
          ∙ c.requires.new;
    }

pub returns-clause-added : goal.returns-clause-added
returns-clause-added c =
    let same : c.self.inside.groups ≡ c.replace-groups.result = cc in
    on_ok_map c.with_row-groups.result.1
    (λ is. groups_in_order c.with_row-groups.result.0 ∙ is
    ∙ ap (put_item_paths c.args.row.row c.args.row.number) (shown_groups c.self.inside.groups c.replace-groups.result c.args.self.now same c.self.view_is))
    c.with_row-groups.ensures.added

pub returns-clause-unchanged : goal.returns-clause-unchanged
returns-clause-unchanged c =
    let same : c.self.inside.groups ≡ c.replace-groups.result = cc in
    on_err_map c.with_row-groups.result.1
    (λ is. groups_in_order c.with_row-groups.result.0 ∙ is ∙ shown_groups c.self.inside.groups c.replace-groups.result c.args.self.now same c.self.view_is)
    c.with_row-groups.ensures.unchanged
