use Rattle.std.proofs.Common.{arith}
use Rattle.ordered_map.proofs.PlaceViews.{removal}
use Rattle.ordered_map.proofs.gaps.swap_remove_placed.Goals as goal

pub index_mut-requires : goal.index_mut-requires
index_mut-requires g c =
    let w = c.in-Some-swap_remove_index in
    let r = removal _ _ c.requires c.args.position _ _ _ w.ensures.entry c.in-Some.ensures.entry w.ensures.entries w.ensures.unique in
    omega (arith, r.last_within)

pub index_mut-requires-2 : goal.index_mut-requires-2
index_mut-requires-2 g c =
    let w = c.in-Some-swap_remove_index in
    let r = removal _ _ c.requires c.args.position _ _ _ w.ensures.entry c.in-Some.ensures.entry w.ensures.entries w.ensures.unique in
    omega (arith, r.gone_within)

pub returns-clause-stored : goal.returns-clause-stored
returns-clause-stored g c =
    let w = c.in-Some-swap_remove_index in
    let r = removal _ _ c.requires c.args.position _ _ _ w.ensures.entry c.in-Some.ensures.entry w.ensures.entries w.ensures.unique in
    r.stored

pub returns-clause-gap : goal.returns-clause-gap
returns-clause-gap g c =
    let w = c.in-Some-swap_remove_index in
    let r = removal _ _ c.requires c.args.position _ _ _ w.ensures.entry c.in-Some.ensures.entry w.ensures.entries w.ensures.unique in
    r.gap
