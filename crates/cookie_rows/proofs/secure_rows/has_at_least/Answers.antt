use Rattle.std.proofs.Common.{◌≡◌, ℕ, ◌-◌, ◌==◌, ap, arith, filter, length, length-append, ◌∙◌}
use Rattle.std.specs.Prelude.{nat_le}
use Rattle.std.specs.List.{flat_map}
use Rattle.std.proofs.lemmas.Bool.Decides.{nat_tests}
use Rattle.std.proofs.lemmas.List.Elements.{filter-append}
use Rattle.ordered_map.specs.Entries.{in_order}
use Rattle.cookie_words.specs.Moments.{moment_of}
use Rattle.cookie_lookup.specs.Positions.{paths_in_order}
use Rattle.cookie_rows.specs.Eviction.{count_secure, is_secure_item}
use Rattle.cookie_rows.proofs.StoredPaths.{each_path}
use Rattle.cookie_rows.proofs.secure_rows.has_at_least.Goals as goal

-- no room is left if and only if there are at least as many as the limit
no_room : (room limit count : ℕ) → room ≡ limit - count → (room == 0) ≡ nat_le limit count
no_room room limit count is = grind (arith, nat_tests, is)

pub loop-names-preserved : goal.loop-names-preserved
loop-names-preserved c =
    let secure = is_secure_item (moment_of c.args.now) in
    let next = ap (λ gs. length (filter secure (flat_map in_order gs))) c.in-Some.ensures.steps
    ∙ ap length (filter-append secure (in_order c.in-Some.names.now) (flat_map in_order c.next.new.self))
    ∙ length-append (filter secure (in_order c.in-Some.names.now)) (filter secure (flat_map in_order c.next.new.self)) in
    record { room = omega (arith, next, c.loop-names.invariant.room, c.count_in.ensures.count, c.saturating_sub-room.ensures) }

pub returns : goal.returns
returns c =
    let secure = is_secure_item (moment_of c.args.now) in
    let none = ap (λ gs. length (filter secure (flat_map in_order gs))) c.in-None.ensures.steps.0 in
    let all = ap (λ gs. length (filter secure (flat_map in_order gs))) (c.into_iter-names-iterator.ensures.into_iter_gives ∙ c.groups-names-items.ensures)
    ∙ ap (λ items. length (filter secure items)) (each_path (λ xs. xs) (in_order c.args.paths.now)) in
    no_room c.loop-names.room c.args.limit (count_secure (moment_of c.args.now) (paths_in_order c.args.paths.now)) (omega (arith, none, all, c.loop-names.invariant.room))
