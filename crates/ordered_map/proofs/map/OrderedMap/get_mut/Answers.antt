use Rattle.std.proofs.Common.{◌∙◌, refl, subst, OnSome}
use Rattle.ordered_map.specs.Borrows.{WritesValue}
use Rattle.ordered_map.proofs.MapViews.{found_text, missing_text}
use Rattle.ordered_map.proofs.map.OrderedMap.get_mut.Goals as goal

pub returns-in-Some : goal.returns-in-Some
returns-in-Some g c =
    let f = found_text c.args.self.now c.in-Some.ensures.distinct c.args.key.now c.in-Some.position c.in-Some.ensures.position in
    let writes = c.at_mut.follows in
    ((refl, λ w. subst (λ t. OnSome c.at_mut.result (WritesValue t c.args.self.now w (writes.lender w))) f.same (writes.holds w), writes.holds-at-none), c.at_mut.ensures.value ∙ f.here ∙ f.value)

pub returns-in-None : goal.returns-in-None
returns-in-None g c = ((refl, λ w. tt, refl), (missing_text c.args.self.now c.in-None.ensures.distinct c.args.key.now c.in-None.ensures.position).0)
