use Rattle.std.proofs.Common.{◌∙◌, ap, refl, sym}
use Rattle.cookie_rows.specs.Items.{find_item_paths, put_item_paths}
use Rattle.cookie_rows.proofs.StoredOrder.{groups_in_order, shown_groups}
use Rattle.cookie_rows.proofs.paths.Paths.replace.Goals as goal

pub replace_path-requires : goal.replace_path-requires
replace_path-requires c =
    let groups = c.self.inside.groups in
    let cookie = c.args.cookie in
    record { stored = λ none. c.requires.stored (ap (find_item_paths cookie.path.text cookie.raw.name) (sym (shown_groups groups groups c.args.self.now refl c.self.view_is)) ∙ none) }

pub returns : goal.returns
returns c number =
    let groups = c.self.inside.groups in
    groups_in_order c.replace_path.new.groups ∙ c.replace_path.ensures number ∙ ap (put_item_paths c.args.cookie number) (shown_groups groups groups c.args.self.now refl c.self.view_is)
