use Rattle.std.proofs.Common.{◌≡◌, sym, ap, subst, ◌∙◌, arith, ◌≤◌, ◌+◌, ◌-◌, vec_capacity, vec_len}
use Rattle.ordered_map.specs.Entries.{entries, is_text, moved_to_end}
use Rattle.ordered_map.specs.Layout.{IsStored}
use Rattle.indexmap.specs.IndexMap.{index_map_len, spare}
use Rattle.indexmap.specs.Layout.{length-set_value_at}
use Rattle.ordered_map.specs.Layout.{room_of}
use Rattle.ordered_map.proofs.Moved.{move, none_of, room_moved, unmoved}
use Rattle.ordered_map.proofs.map.OrderedMap.move_to_end.Goals as goal

pub returns-in_default-clause-moved : goal.returns-in_default-clause-moved
returns-in_default-clause-moved g c =
    subst (λ m. entries m ≡ moved_to_end (is_text c.args.key.now) (entries m)) c.self.view_is (unmoved _ _ c.self.invariant.stored c.args.key.now (none_of _ c.in_default.ensures.found))

pub index_mut-requires : goal.index_mut-requires
index_mut-requires g c =
    let m = move _ _ c.self.invariant.stored c.args.key.now _ _ c.len-end.result (omega (arith, c.len-end.ensures)) c.in-Some.ensures.index c.in-Some-get_index_mut.ensures.value in
    omega (arith, m.within)

pub free_place-requires-clause-stored : goal.free_place-requires-clause-stored
free_place-requires-clause-stored g c =
    let m = move _ _ c.self.invariant.stored c.args.key.now _ _ c.len-end.result (omega (arith, c.len-end.ensures)) c.in-Some.ensures.index c.in-Some-get_index_mut.ensures.value in
    subst (IsStored _) (sym c.push_reserved.ensures.items) m.stored

pub free_place-requires-clause-gap : goal.free_place-requires-clause-gap
free_place-requires-clause-gap g c =
    let m = move _ _ c.self.invariant.stored c.args.key.now _ _ c.len-end.result (omega (arith, c.len-end.ensures)) c.in-Some.ensures.index c.in-Some-get_index_mut.ensures.value in
    omega (arith, m.fewer, c.push_reserved.ensures.len)

pub returns-clause-moved : goal.returns-clause-moved
returns-clause-moved g c =
    let m = move _ _ c.self.invariant.stored c.args.key.now _ _ c.len-end.result (omega (arith, c.len-end.ensures)) c.in-Some.ensures.index c.in-Some-get_index_mut.ensures.value in
    c.free_place.ensures.entries ∙ m.entries ∙ ap (λ o. moved_to_end (is_text c.args.key.now) (entries o)) c.self.view_is

pub returns-clause-room : goal.returns-clause-room
returns-clause-room g c =
    let own = c.self.inside in
    let more = room_moved (spare own.entries) (vec_capacity own.order - vec_len own.order) (index_map_len own.entries) (spare c.free_place.new.entries) (vec_capacity c.free_place.new.order - vec_len c.free_place.new.order) (index_map_len c.free_place.new.entries)
    c.free_place.ensures.spare (omega (arith, c.free_place.ensures.capacity, c.free_place.ensures.shorter, c.push_reserved.ensures.len, c.push_reserved.ensures.capacity)) (c.free_place.ensures.len ∙ length-set_value_at own.entries.entries c.in-Some.position _) in
    subst (λ n. n ≤ room_of (spare c.free_place.new.entries) (vec_capacity c.free_place.new.order - vec_len c.free_place.new.order) (index_map_len c.free_place.new.entries) + 1) (ap (λ m. m.room) c.self.view_is) more
