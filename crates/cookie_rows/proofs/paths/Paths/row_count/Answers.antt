use Rattle.std.proofs.Common.{◌∙◌, ap, arith, length, length-append}
use Rattle.std.specs.List.{flat_map}
use Rattle.ordered_map.specs.Entries.{in_order}
use Rattle.cookie_rows.proofs.StoredPaths.{each_path}
use Rattle.cookie_rows.proofs.paths.Paths.row_count.Goals as goal

pub overflow_add-count : goal.overflow_add-count
overflow_add-count c =
    let next = ap (λ gs. length (flat_map in_order gs)) c.in-Some.ensures.steps ∙ length-append (in_order c.in-Some.names.now) (flat_map in_order c.next.new.self) in
    let all = ap (λ gs. length (flat_map in_order gs)) (c.into_iter-names-iterator.ensures.into_iter_gives ∙ c.groups-names-items.ensures) ∙ ap length (each_path (λ xs. xs) (in_order c.args.self.now)) in
    omega (arith, next, all, c.loop-names.invariant.counted, c.len-count.ensures.in_order, c.requires.few)

pub loop-names-preserved : goal.loop-names-preserved
loop-names-preserved c =
    let next = ap (λ gs. length (flat_map in_order gs)) c.in-Some.ensures.steps ∙ length-append (in_order c.in-Some.names.now) (flat_map in_order c.next.new.self) in
    record { counted = omega (arith, next, c.loop-names.invariant.counted, c.len-count.ensures.in_order) }

pub returns : goal.returns
returns c =
    let none = ap (λ gs. length (flat_map in_order gs)) c.in-None.ensures.steps.0 in
    let all = ap (λ gs. length (flat_map in_order gs)) (c.into_iter-names-iterator.ensures.into_iter_gives ∙ c.groups-names-items.ensures) ∙ ap length (each_path (λ xs. xs) (in_order c.args.self.now)) in
    omega (arith, none, all, c.loop-names.invariant.counted)
