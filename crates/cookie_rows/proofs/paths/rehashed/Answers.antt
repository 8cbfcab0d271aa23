use Rattle.std.proofs.Common.{◌∙◌, sym, ap}
use Rattle.ordered_map.specs.Entries.{in_order}
use Rattle.cookie_rows.specs.PathMaps.{groups_of}
use Rattle.cookie_rows.specs.Stored.{paths_in}
use Rattle.cookie_rows.proofs.Copies.{copied_texts}
use Rattle.cookie_rows.proofs.paths.rehashed.Goals as goal

pub returns-in_ok-new-in-Table : goal.returns-in_ok-new-in-Table
returns-in_ok-new-in-Table c =
    ap paths_in c.in_ok-new-in-Table.ensures.ok ∙ copied_texts in_order _ _ c.in_ok-copies-in-Table.ensures.copies ∙ ap paths_in c.deref.ensures
    ∙ ap groups_of (sym c.in-Table.is)
