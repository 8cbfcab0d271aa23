use Rattle.std.proofs.Common.{◌≡◌, length, sym, ap, ◌∙◌, subst}
use Rattle.std.proofs.lemmas.List.{length-map}
use Rattle.ordered_map.specs.Entries.{entries}
use Rattle.ordered_map.specs.Layout.{by_position, placed_entry}
use Rattle.ordered_map.proofs.ByPlace.{length_in_order}
use Rattle.ordered_map.proofs.MapViews.{stored_distinct}
use Rattle.ordered_map.proofs.map.OrderedMap.len.Goals as goal

pub returns-clause-len : goal.returns-clause-len
returns-clause-len g c =
    let es = c.self.inside.entries.entries in
    subst (λ m. c.len.result ≡ length (entries m)) c.self.view_is (c.len.ensures.len ∙ sym (length_in_order (by_position es) ∙ length-map es placed_entry))

pub returns-clause-distinct : goal.returns-clause-distinct
returns-clause-distinct g c = stored_distinct _ _ c.self.invariant.stored c.args.self.now (ap (λ m. m.by_position) c.self.view_is)
