use Rattle.std.proofs.Common.{◌<◌, ◌≤◌, ◌∙◌, ap, arith, length, length-append}
use Rattle.std.specs.List.{flat_map}
use Rattle.ordered_map.specs.Entries.{in_order}
use Rattle.cookie_lookup.specs.Positions.{paths_in_order}
use Rattle.cookie_rows.specs.Least.{items_in_paths}
use Rattle.cookie_rows.proofs.StoredPaths.{each_path}
use Rattle.cookie_rows.proofs.paths.Paths.room.Goals as goal

pub loop-names-preserved : goal.loop-names-preserved
loop-names-preserved c =
    let next = ap (λ gs. length (flat_map in_order gs)) c.in-Some.ensures.steps ∙ length-append (in_order c.in-Some.names.now) (flat_map in_order c.next.new.self) in
    record { room = omega (arith, next, c.loop-names.invariant.room, c.len.ensures.in_order, c.in_ok-room.ensures) }

pub returns-in_err-room-clause-none : goal.returns-in_err-room-clause-none
returns-in_err-room-clause-none c =
    let more = λ (less : c.len.result ≤ c.loop-names.room). c.in_err-room.ensures less in
    let next = ap (λ gs. length (flat_map in_order gs)) c.in-Some.ensures.steps ∙ length-append (in_order c.in-Some.names.now) (flat_map in_order c.next.new.self) in
    let all = ap (λ gs. length (flat_map in_order gs)) (c.into_iter-names-iterator.ensures.into_iter_gives ∙ c.groups-names-items.ensures) ∙ ap length (each_path (λ xs. xs) (in_order c.args.self.now)) in
    let past : c.args.limit < length (items_in_paths (paths_in_order c.args.self.now)) = omega (arith, more, next, all, c.loop-names.invariant.room, c.len.ensures.in_order) in
    rw c.from_residual.ensures past

pub returns-clause-room : goal.returns-clause-room
returns-clause-room c =
    let none = ap (λ gs. length (flat_map in_order gs)) c.in-None.ensures.steps.0 in
    let all = ap (λ gs. length (flat_map in_order gs)) (c.into_iter-names-iterator.ensures.into_iter_gives ∙ c.groups-names-items.ensures) ∙ ap length (each_path (λ xs. xs) (in_order c.args.self.now)) in
    omega (arith, none, all, c.loop-names.invariant.room)
