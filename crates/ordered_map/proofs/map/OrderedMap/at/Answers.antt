use Rattle.std.proofs.Common.{ap, ◌∙◌, string_bytes, Some}
use Rattle.ordered_map.proofs.MapViews.{shown_at}
use Rattle.ordered_map.proofs.map.OrderedMap.at.Goals as goal

pub returns-in-Some-clause-place : goal.returns-in-Some-clause-place
returns-in-Some-clause-place g c = shown_at (λ p. p.0) c.self.inside.entries.entries c.args.position _ c.args.self.now c.in-Some.ensures.entry (ap (λ m. m.by_position) c.self.view_is)

pub returns-in-None-clause-place : goal.returns-in-None-clause-place
returns-in-None-clause-place g c = shown_at (λ p. p.0) c.self.inside.entries.entries c.args.position _ c.args.self.now c.in-None.ensures.entry (ap (λ m. m.by_position) c.self.view_is)

pub returns-in-Some-clause-key : goal.returns-in-Some-clause-key
returns-in-Some-clause-key g c = ap Some c.as_str.ensures.value ∙ shown_at (λ p. string_bytes p.1.0) c.self.inside.entries.entries c.args.position _ c.args.self.now c.in-Some.ensures.entry (ap (λ m. m.by_position) c.self.view_is)

pub returns-in-None-clause-key : goal.returns-in-None-clause-key
returns-in-None-clause-key g c = shown_at (λ p. string_bytes p.1.0) c.self.inside.entries.entries c.args.position _ c.args.self.now c.in-None.ensures.entry (ap (λ m. m.by_position) c.self.view_is)

pub returns-in-Some-clause-value : goal.returns-in-Some-clause-value
returns-in-Some-clause-value g c = shown_at (λ p. p.1.1) c.self.inside.entries.entries c.args.position _ c.args.self.now c.in-Some.ensures.entry (ap (λ m. m.by_position) c.self.view_is)

pub returns-in-None-clause-value : goal.returns-in-None-clause-value
returns-in-None-clause-value g c = shown_at (λ p. p.1.1) c.self.inside.entries.entries c.args.position _ c.args.self.now c.in-None.ensures.entry (ap (λ m. m.by_position) c.self.view_is)
