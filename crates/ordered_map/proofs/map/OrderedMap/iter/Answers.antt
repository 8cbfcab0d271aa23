use Rattle.std.proofs.Common.{ap, ◌∙◌}
use Rattle.ordered_map.specs.Entries.{entries}
use Rattle.ordered_map.proofs.MapViews.{sorted}
use Rattle.ordered_map.proofs.map.OrderedMap.iter.Goals as goal

pub returns : goal.returns
returns g c =
    let own = c.self.inside in
    let all = sorted own.entries.entries own.order.items c.self.invariant.stored ∙ ap entries c.self.view_is in
    cc
