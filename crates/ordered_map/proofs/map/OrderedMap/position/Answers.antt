use Rattle.std.proofs.Common.{map, position, sym, ap, ◌∙◌}
use Rattle.std.proofs.lemmas.Simd.{map-map}
use Rattle.ordered_map.specs.Entries.{is_text}
use Rattle.ordered_map.specs.Layout.{placed_entry}
use Rattle.ordered_map.proofs.MapViews.{stored_distinct}
use Rattle.ordered_map.proofs.map.OrderedMap.position.Goals as goal

pub returns-clause-position : goal.returns-clause-position
returns-clause-position g c =
    c.get_index_of.ensures.index ∙ ap (position (is_text c.args.key.now)) (sym (map-map (λ p. p.1.0) placed_entry c.self.inside.entries.entries) ∙ ap (λ m. map (λ p. p.1.0) m.by_position) c.self.view_is)

pub returns-clause-distinct : goal.returns-clause-distinct
returns-clause-distinct g c = stored_distinct _ _ c.self.invariant.stored c.args.self.now (ap (λ m. m.by_position) c.self.view_is)
