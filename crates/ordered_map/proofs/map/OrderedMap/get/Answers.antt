use Rattle.std.proofs.Common.{◌≡◌, sym, ◌∙◌, subst, ap, None, Some}
use Rattle.std.specs.Map.{lookup}
use Rattle.std.specs.Option.{option_map}
use Rattle.ordered_map.specs.Entries.{entries, is_text}
use Rattle.ordered_map.proofs.MapViews.{lookup_stored}
use Rattle.ordered_map.proofs.map.OrderedMap.get.Goals as goal

pub returns-in-Some : goal.returns-in-Some
returns-in-Some g c =
    subst (λ m. Some c.in-Some.placed.now.value ≡ lookup (is_text c.args.key.now) (entries m)) c.self.view_is
    (ap (option_map (λ p. p.value)) c.in-Some.ensures.value ∙ sym (lookup_stored _ _ c.self.invariant.stored c.args.key.now))

pub returns-in-None : goal.returns-in-None
returns-in-None g c =
    subst (λ m. None ≡ lookup (is_text c.args.key.now) (entries m)) c.self.view_is
    (ap (option_map (λ p. p.value)) c.in-None.ensures.value ∙ sym (lookup_stored _ _ c.self.invariant.stored c.args.key.now))
