use Rattle.std.proofs.Common.{◌≡◌, ◌∙◌, subst}
use Rattle.std.specs.Map.{remove_entry}
use Rattle.ordered_map.specs.Entries.{entries, is_text}
use Rattle.ordered_map.proofs.PlaceViews.{if_some}
use Rattle.ordered_map.proofs.MapViews.{found_text, missing_text}
use Rattle.ordered_map.proofs.map.OrderedMap.remove.Goals as goal

pub returns-in-Some-clause-value : goal.returns-in-Some-clause-value
returns-in-Some-clause-value g c =
    let f = found_text c.args.self.now c.in-Some.ensures.distinct c.args.key.now c.in-Some.position c.in-Some.ensures.position in
    c.remove_at.ensures.value ∙ f.here ∙ f.value

pub returns-in-Some-clause-removed : goal.returns-in-Some-clause-removed
returns-in-Some-clause-removed g c =
    let f = found_text c.args.self.now c.in-Some.ensures.distinct c.args.key.now c.in-Some.position c.in-Some.ensures.position in
    subst (λ t. entries c.remove_at.new.self ≡ remove_entry (is_text t) (entries c.args.self.now)) f.same
    (if_some _ _ _ (c.remove_at.ensures.value ∙ f.here) c.remove_at.ensures.removed)

pub returns-in-None-clause-value : goal.returns-in-None-clause-value
returns-in-None-clause-value g c = (missing_text c.args.self.now c.in-None.ensures.distinct c.args.key.now c.in-None.ensures.position).0

pub returns-in-None-clause-removed : goal.returns-in-None-clause-removed
returns-in-None-clause-removed g c = (missing_text c.args.self.now c.in-None.ensures.distinct c.args.key.now c.in-None.ensures.position).1
