use Rattle.std.proofs.Common.{◌∙◌, ap, sym}
use Rattle.cookie_lookup.specs.Positions.{paths_in_order}
use Rattle.cookie_rows.proofs.StoredOrder.{groups_in_order}
use Rattle.cookie_rows.proofs.paths.PathsRehash.rehashed.Goals as goal

pub returns : goal.returns
returns c = groups_in_order c.in_ok-rehashed.field-0 ∙ c.in_ok-rehashed.ensures ∙ sym (groups_in_order c.self.inside.groups) ∙ ap paths_in_order c.self.view_is
