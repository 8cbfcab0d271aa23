use Rattle.std.proofs.Common.{◌-◌, ◌≤◌, ap, subst, sym, vec_capacity, vec_len, ◌∙◌, arith}
use Rattle.std.proofs.lemmas.Option.{slice_get-map}
use Rattle.indexmap.specs.IndexMap.{index_map_len, spare}
use Rattle.ordered_map.specs.Layout.{by_position, room_of}
use Rattle.ordered_map.proofs.MapViews.{value_at}
use Rattle.ordered_map.proofs.PlaceViews.{removal_seen}
use Rattle.ordered_map.proofs.Removal.{room_kept}
use Rattle.ordered_map.proofs.map.OrderedMap.remove_at.Goals as goal

pub returns-clause-removed : goal.returns-clause-removed
returns-clause-removed g c =
    let w = c.in-Some.ensures in
    c.close_many_gaps.ensures.entries ∙ removal_seen _ _ c.self.invariant.stored c.args.self.now (ap (λ m. m.by_position) c.self.view_is) c.args.position _ w.removed _ _ w.stored (omega (arith, w.places)) w.gap

pub returns-clause-value : goal.returns-clause-value
returns-clause-value g c =
    let own = c.self.inside in
    let w = c.in-Some.ensures in
    value_at own.entries.entries c.args.position _ c.args.self.now (w.removed ∙ sym (slice_get-map (λ e. e.1) own.entries.entries c.args.position)) (ap (λ m. m.by_position) c.self.view_is)

pub returns-clause-hasher : goal.returns-clause-hasher
returns-clause-hasher g c =
    let w = c.in-Some.ensures in
    c.close_many_gaps.ensures.hasher ∙ w.hasher ∙ ap (λ m. m.hasher) c.self.view_is

pub returns-clause-room : goal.returns-clause-room
returns-clause-room g c =
    let own = c.self.inside in
    let new = c.close_many_gaps.new in
    let w = c.in-Some.ensures in
    let closed = c.close_many_gaps.ensures in
    subst (λ m. m.room ≤ room_of (spare new.entries) (vec_capacity new.order - vec_len new.order) (index_map_len new.entries)) c.self.view_is
    (room_kept (spare own.entries) (vec_capacity own.order - vec_len own.order) (index_map_len own.entries) (spare new.entries) (vec_capacity new.order - vec_len new.order) (index_map_len new.entries) (omega (arith, w.spare, closed.spare)) (omega (arith, w.capacity, w.places, closed.capacity, closed.shorter)) (omega (arith, w.len, closed.len)))

pub returns-in_default-clause-value : goal.returns-in_default-clause-value
returns-in_default-clause-value g c =
    let own = c.self.inside in
    let w = c.in_default.ensures in
    value_at own.entries.entries c.args.position _ c.args.self.now (w.removed ∙ sym (slice_get-map (λ e. e.1) own.entries.entries c.args.position)) (ap (λ m. m.by_position) c.self.view_is)

pub returns-in_default-clause-hasher : goal.returns-in_default-clause-hasher
returns-in_default-clause-hasher g c =
    let w = c.in_default.ensures in
    w.hasher ∙ ap (λ m. m.hasher) c.self.view_is

pub returns-in_default-clause-room : goal.returns-in_default-clause-room
returns-in_default-clause-room g c =
    let own = c.self.inside in
    let new = c.swap_remove_placed.new in
    let w = c.in_default.ensures in
    subst (λ m. m.room ≤ room_of (spare new.entries) (vec_capacity new.order - vec_len new.order) (index_map_len new.entries)) c.self.view_is
    (room_kept (spare own.entries) (vec_capacity own.order - vec_len own.order) (index_map_len own.entries) (spare new.entries) (vec_capacity new.order - vec_len new.order) (index_map_len new.entries) w.spare (omega (arith, w.capacity, w.places)) w.len)

pub returns-in_default-clause-unchanged : goal.returns-in_default-clause-unchanged
returns-in_default-clause-unchanged g c =
    let w = c.in_default.ensures in
    ap by_position w.unchanged ∙ ap (λ m. m.by_position) c.self.view_is
