use Rattle.std.proofs.Common.{◌≡◌, ◌∙◌, ap, arith, length, refl, rules, subst, sym}
use Rattle.cookie_words.specs.Moments.{moment_of}
use Rattle.cookie_lookup.specs.Positions.{paths_in_order}
use Rattle.cookie_rows.specs.Eviction.{EvictsInPaths, is_single, moved_to_end_if}
use Rattle.cookie_rows.specs.Least.{items_in_paths}
use Rattle.cookie_rows.proofs.RowCounts.{count_moved}
use Rattle.cookie_rows.proofs.StoredOrder.{groups_in_order, shown_groups}
use Rattle.cookie_rows.proofs.paths.Paths.insert_at_limit.Goals as goal

pub returns-clause-evicts : goal.returns-clause-evicts
returns-clause-evicts c =
    let groups = c.self.inside.groups in
    let mid = c.add_and_evict.new.self in
    let path : c.as_str-2.result.now ≡ c.args.row.row.path.text = search rules in
    let moved = groups_in_order c.move_path_to_end.new.groups ∙ c.move_path_to_end.ensures ∙ ap (moved_to_end_if is_single c.as_str-2.result.now) (shown_groups groups groups mid refl c.self.view_is) in
    subst (EvictsInPaths c.args.limit c.args.order (moment_of c.args.now) c.args.row.row c.args.row.number (paths_in_order c.args.self.now))
    (sym (moved ∙ ap (λ t. moved_to_end_if is_single t (paths_in_order mid)) path)) c.in_ok-evicted.ensures.evicts

pub returns-clause-evicted : goal.returns-clause-evicted
returns-clause-evicted c =
    let groups = c.self.inside.groups in
    let mid = c.add_and_evict.new.self in
    let moved = groups_in_order c.move_path_to_end.new.groups ∙ c.move_path_to_end.ensures ∙ ap (moved_to_end_if is_single c.as_str-2.result.now) (shown_groups groups groups mid refl c.self.view_is) in
    omega (arith, ap (λ ps. length (items_in_paths ps)) moved, count_moved is_single c.as_str-2.result.now (paths_in_order mid), c.in_ok-evicted.ensures.evicted)
