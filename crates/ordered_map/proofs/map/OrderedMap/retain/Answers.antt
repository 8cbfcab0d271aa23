use Rattle.std.proofs.Common.{refl, ap, sym, subst, ◌∙◌, arith}
use Rattle.std.specs.Map.Calls.{CallableOnEachPair, CalledAtPair, RetainsPairs, TakesPair}
use Rattle.ordered_map.specs.Entries.{entries, in_order}
use Rattle.ordered_map.specs.Layout.{by_position}
use Rattle.ordered_map.proofs.RetainedViews.{so_far_all, so_far_callable, so_far_more, so_far_none}
use Rattle.ordered_map.proofs.MapViews.{sorted}
use Rattle.ordered_map.proofs.map.OrderedMap.retain.Goals as goal

pub loop-place-init : goal.loop-place-init
loop-place-init g c = record {
  stored = c.self.invariant.stored;
  so_far = so_far_none (CalledAtPair g.F.FnMut) c.args.keep c.self.inside.entries.entries c.self.inside.order.items;
  end = c.len-place-end.ensures;
  places = refl;
  capacity = refl;
  len = omega arith;
  spare = omega arith;
  hasher = refl;
}

pub retain_place-requires-clause-callable : goal.retain_place-requires-clause-callable
retain_place-requires-clause-callable g c =
    so_far_callable (CalledAtPair g.F.FnMut) (TakesPair g.F.FnMut) c.args.keep c.loop-place.keep _ c.loop-place.self-inside.entries.entries c.loop-place.self-inside.order.items c.loop-place.place c.loop-place.invariant.so_far
    (omega (arith, c.loop-place.invariant.end, c.loop-place.invariant.places))
    (subst (CallableOnEachPair (CalledAtPair g.F.FnMut) (TakesPair g.F.FnMut) c.args.keep) (sym (sorted _ _ c.self.invariant.stored ∙ ap entries c.self.view_is)) c.requires)

pub loop-place-preserved : goal.loop-place-preserved
loop-place-preserved g c = record {
  stored = c.retain_place.ensures.stored;
  so_far = so_far_more (CalledAtPair g.F.FnMut) c.args.keep c.loop-place.keep c.retain_place.new.keep _ c.loop-place.self-inside.entries.entries c.retain_place.new.entries.entries c.loop-place.self-inside.order.items c.retain_place.new.order.items c.loop-place.place c.loop-place.invariant.so_far
      (omega (arith, c.loop-place.invariant.end, c.loop-place.invariant.places)) (omega (arith, c.retain_place.ensures.places)) c.retain_place.ensures.before c.retain_place.ensures.here c.retain_place.ensures.after;
  end = c.loop-place.invariant.end;
  places = c.retain_place.ensures.places ∙ c.loop-place.invariant.places;
  capacity = c.retain_place.ensures.capacity ∙ c.loop-place.invariant.capacity;
  len = omega (arith, c.retain_place.ensures.len, c.loop-place.invariant.len);
  spare = omega (arith, c.retain_place.ensures.spare, c.loop-place.invariant.spare);
  hasher = c.retain_place.ensures.hasher ∙ c.loop-place.invariant.hasher;
}

pub returns-clause-retained : goal.returns-clause-retained
returns-clause-retained g c =
    let own = c.self.inside in
    let kept = so_far_all (CalledAtPair g.F.FnMut) c.args.keep c.loop-place.keep _ c.loop-place.self-inside.entries.entries c.loop-place.self-inside.order.items c.loop-place.place c.loop-place.invariant.stored c.loop-place.invariant.so_far (omega (arith, c.loop-place.invariant.end, c.loop-place.invariant.places)) in
    subst (RetainsPairs (CalledAtPair g.F.FnMut) c.args.keep (entries c.args.self.now)) (sym c.close_many_gaps.ensures.entries)
    (subst (λ l. RetainsPairs (CalledAtPair g.F.FnMut) c.args.keep l (in_order (by_position c.loop-place.self-inside.entries.entries))) (sorted own.entries.entries own.order.items c.self.invariant.stored ∙ ap entries c.self.view_is) kept)
