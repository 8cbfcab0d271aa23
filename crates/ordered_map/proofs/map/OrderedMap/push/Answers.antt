use Rattle.std.proofs.Common.{◌∙◌, ap, arith, ◌++◌, ◌∷◌, []}
use Rattle.ordered_map.specs.Entries.{entries}
use Rattle.ordered_map.specs.Layout.{by_position}
use Rattle.ordered_map.proofs.MapViews.{on_err, push_view}
use Rattle.ordered_map.proofs.map.OrderedMap.push.Goals as goal

pub returns-in_err-insert-clause-unchanged : goal.returns-in_err-insert-clause-unchanged
returns-in_err-insert-clause-unchanged g c = on_err _ (ap by_position c.in_err-insert.ensures.err ∙ ap (λ m. m.by_position) c.self.view_is)

pub invariant_of-self-2 : goal.invariant_of-self-2
invariant_of-self-2 g c = record {
  stored =
      (push_view _ _ c.self.invariant.stored c.insert.new.self.entries c.push_reserved.new.self.items c.args.key c.args.value c.len-position.result c.len-place.result
      (entries c.args.self.now) (ap entries c.self.view_is) c.requires.new c.len-position.ensures.len (omega (arith, c.len-position.ensures.small)) (omega (arith, c.len-place.ensures, c.reserve.ensures.len)) c.in_ok-insert.ensures.entries
      (c.push_reserved.ensures.items ∙ ap (λ l. l ++ c.len-position.result ∷ []) c.reserve.ensures.items) c.insert.ensures.unique).0;
  free = λ some. omega (arith, c.reserve.ensures.len, c.in_ok-reserve.ensures.ok, c.push_reserved.ensures.len, c.push_reserved.ensures.capacity);
}

pub returns-clause-pushed : goal.returns-clause-pushed
returns-clause-pushed g c =
    (push_view _ _ c.self.invariant.stored c.insert.new.self.entries c.push_reserved.new.self.items c.args.key c.args.value c.len-position.result c.len-place.result
    (entries c.args.self.now) (ap entries c.self.view_is) c.requires.new c.len-position.ensures.len (omega (arith, c.len-position.ensures.small)) (omega (arith, c.len-place.ensures, c.reserve.ensures.len)) c.in_ok-insert.ensures.entries
    (c.push_reserved.ensures.items ∙ ap (λ l. l ++ c.len-position.result ∷ []) c.reserve.ensures.items) c.insert.ensures.unique).1
