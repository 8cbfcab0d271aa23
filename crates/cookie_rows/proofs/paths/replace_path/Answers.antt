use Rattle.std.proofs.Common.{◌∙◌, sym, ap}
use Rattle.cookie_rows.specs.Items.{put_item_paths}
use Rattle.cookie_rows.specs.PathMaps.{groups_of}
use Rattle.cookie_rows.specs.Stored.{paths_in}
use Rattle.cookie_rows.proofs.paths.replace_path.Goals as goal

pub returns-in-Table : goal.returns-in-Table
returns-in-Table c number =
    c.replace_in.ensures number
    ∙ ap (λ m. put_item_paths c.args.cookie number (paths_in m)) c.as_mut.ensures.value
    ∙ ap (λ groups. put_item_paths c.args.cookie number (groups_of groups)) (sym c.in-Table.is)
