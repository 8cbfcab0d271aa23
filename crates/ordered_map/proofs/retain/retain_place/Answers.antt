use Rattle.std.proofs.Common.{[], ◌∷◌, sym, ap, subst, ◌∙◌, arith, All, String, cond}
use Rattle.std.specs.declared.alloc.Global.{Global}
use Rattle.std.specs.Map.Calls.{CalledAtPair, TakesPair}
use Rattle.std.proofs.lemmas.List.Elements.{All-head}
use Rattle.ordered_map.proofs.PlaceViews.{write_place, write_removed}
use Rattle.ordered_map.proofs.Retaining.{retains_one}
use Rattle.ordered_map.proofs.retain.retain_place.Goals as goal

pub keeps-requires : goal.keeps-requires
keeps-requires g c =
    let w = write_place c.args.entries.now.entries c.args.order.now.items c.requires.stored c.args.place c.pair_mut-placed.result.0.now c.pair_mut-placed.result.1.now c.index-position.result.now c.pair_mut-placed.result.1.now.value (omega (arith, c.requires.within)) c.index-position.ensures c.pair_mut-placed.ensures.value in
    All-head (λ (e : String Global × g.row.V.Denot). TakesPair g.F.FnMut c.args.keep.now e.0 e.1) (c.pair_mut-placed.result.0.now, c.pair_mut-placed.result.1.now.value) [] (subst (All (λ (e : String Global × g.row.V.Denot). TakesPair g.F.FnMut c.args.keep.now e.0 e.1)) w.was c.requires.callable)

pub swap_remove_placed-requires : goal.swap_remove_placed-requires
swap_remove_placed-requires g c =
    let w = write_place c.args.entries.now.entries c.args.order.now.items c.requires.stored c.args.place c.pair_mut-placed.result.0.now c.pair_mut-placed.result.1.now c.index-position.result.now c.keeps.new.value (omega (arith, c.requires.within)) c.index-position.ensures c.pair_mut-placed.ensures.value in
    w.stored

pub returns-then-not-keeps-clause-before : goal.returns-then-not-keeps-clause-before
returns-then-not-keeps-clause-before g c =
    let w = write_place c.args.entries.now.entries c.args.order.now.items c.requires.stored c.args.place c.pair_mut-placed.result.0.now c.pair_mut-placed.result.1.now c.index-position.result.now c.keeps.new.value (omega (arith, c.requires.within)) c.index-position.ensures c.pair_mut-placed.ensures.value in
    let gap = write_removed _ _ c.requires.stored _ _ _ _ _ _ w _ _ _ c.swap_remove_placed.ensures.removed c.swap_remove_placed.ensures.gap in
    gap.before ∙ w.before

pub returns-then-not-keeps-clause-here : goal.returns-then-not-keeps-clause-here
returns-then-not-keeps-clause-here g c =
    let w = write_place c.args.entries.now.entries c.args.order.now.items c.requires.stored c.args.place c.pair_mut-placed.result.0.now c.pair_mut-placed.result.1.now c.index-position.result.now c.keeps.new.value (omega (arith, c.requires.within)) c.index-position.ensures c.pair_mut-placed.ensures.value in
    let gap = write_removed _ _ c.requires.stored _ _ _ _ _ _ w _ _ _ c.swap_remove_placed.ensures.removed c.swap_remove_placed.ensures.gap in
    retains_one (CalledAtPair g.F.FnMut) c.args.keep.now c.keeps.new.keep c.pair_mut-placed.result.0.now c.pair_mut-placed.result.1.now.value c.keeps.result c.keeps.new.value _ _ c.keeps.ensures w.was
    (gap.here ∙ sym (ap (λ b. cond b ((c.pair_mut-placed.result.0.now, c.keeps.new.value) ∷ []) []) c.if-not-keeps.true))

pub returns-then-not-keeps-clause-after : goal.returns-then-not-keeps-clause-after
returns-then-not-keeps-clause-after g c =
    let w = write_place c.args.entries.now.entries c.args.order.now.items c.requires.stored c.args.place c.pair_mut-placed.result.0.now c.pair_mut-placed.result.1.now c.index-position.result.now c.keeps.new.value (omega (arith, c.requires.within)) c.index-position.ensures c.pair_mut-placed.ensures.value in
    let gap = write_removed _ _ c.requires.stored _ _ _ _ _ _ w _ _ _ c.swap_remove_placed.ensures.removed c.swap_remove_placed.ensures.gap in
    gap.after ∙ w.after

pub returns-then-not-keeps-clause-len : goal.returns-then-not-keeps-clause-len
returns-then-not-keeps-clause-len g c =
    let w = write_place c.args.entries.now.entries c.args.order.now.items c.requires.stored c.args.place c.pair_mut-placed.result.0.now c.pair_mut-placed.result.1.now c.index-position.result.now c.keeps.new.value (omega (arith, c.requires.within)) c.index-position.ensures c.pair_mut-placed.ensures.value in
    omega (arith, c.swap_remove_placed.ensures.len, w.same_length)

pub returns-else-not-keeps-clause-stored : goal.returns-else-not-keeps-clause-stored
returns-else-not-keeps-clause-stored g c =
    let w = write_place c.args.entries.now.entries c.args.order.now.items c.requires.stored c.args.place c.pair_mut-placed.result.0.now c.pair_mut-placed.result.1.now c.index-position.result.now c.keeps.new.value (omega (arith, c.requires.within)) c.index-position.ensures c.pair_mut-placed.ensures.value in
    w.stored

pub returns-else-not-keeps-clause-before : goal.returns-else-not-keeps-clause-before
returns-else-not-keeps-clause-before g c =
    let w = write_place c.args.entries.now.entries c.args.order.now.items c.requires.stored c.args.place c.pair_mut-placed.result.0.now c.pair_mut-placed.result.1.now c.index-position.result.now c.keeps.new.value (omega (arith, c.requires.within)) c.index-position.ensures c.pair_mut-placed.ensures.value in
    w.before

pub returns-else-not-keeps-clause-here : goal.returns-else-not-keeps-clause-here
returns-else-not-keeps-clause-here g c =
    let w = write_place c.args.entries.now.entries c.args.order.now.items c.requires.stored c.args.place c.pair_mut-placed.result.0.now c.pair_mut-placed.result.1.now c.index-position.result.now c.keeps.new.value (omega (arith, c.requires.within)) c.index-position.ensures c.pair_mut-placed.ensures.value in
    retains_one (CalledAtPair g.F.FnMut) c.args.keep.now c.keeps.new.keep c.pair_mut-placed.result.0.now c.pair_mut-placed.result.1.now.value c.keeps.result c.keeps.new.value _ _ c.keeps.ensures w.was
    (w.here ∙ sym (ap (λ b. cond b ((c.pair_mut-placed.result.0.now, c.keeps.new.value) ∷ []) []) c.if-not-keeps.false))

pub returns-else-not-keeps-clause-after : goal.returns-else-not-keeps-clause-after
returns-else-not-keeps-clause-after g c =
    let w = write_place c.args.entries.now.entries c.args.order.now.items c.requires.stored c.args.place c.pair_mut-placed.result.0.now c.pair_mut-placed.result.1.now c.index-position.result.now c.keeps.new.value (omega (arith, c.requires.within)) c.index-position.ensures c.pair_mut-placed.ensures.value in
    w.after

pub returns-else-not-keeps-clause-len : goal.returns-else-not-keeps-clause-len
returns-else-not-keeps-clause-len g c =
    let w = write_place c.args.entries.now.entries c.args.order.now.items c.requires.stored c.args.place c.pair_mut-placed.result.0.now c.pair_mut-placed.result.1.now c.index-position.result.now c.keeps.new.value (omega (arith, c.requires.within)) c.index-position.ensures c.pair_mut-placed.ensures.value in
    omega (arith, w.same_length)
