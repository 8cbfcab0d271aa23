use Rattle.std.proofs.Common.{◌≡◌, ◌+◌, ◌≤◌, ◌∙◌, ℕ, Option, None, Some, IfSome, true, ap, arith, length, subst, sym}
use Rattle.std.specs.Prelude.{is_some}
use Rattle.cookie_words.specs.Moments.{moment_of}
use Rattle.cookie_lookup.specs.Positions.{paths_in_order}
use Rattle.cookie_rows.specs.Eviction.{filter_paths, is_single, moved_to_end_if, survives}
use Rattle.cookie_rows.specs.Least.{RemovesLeast, items_in_paths}
use Rattle.cookie_rows.proofs.LeastEvicted.{count_one, count_ranks, evicts_one}
use Rattle.cookie_rows.proofs.RowCounts.{count_evicted}
use Rattle.cookie_rows.proofs.paths.Paths.add_and_evict.Goals as goal

-- with some room for at least as many rows there are as many
as_many : (o : Option ℕ) (count limit : ℕ) → is_some o ≡ true → IfSome o (λ room. count + room ≡ limit) → limit ≤ count → count ≡ limit
as_many None count limit some is full = absurd (cc)
as_many (Some room) count limit some is full = omega (arith, is, full)

pub returns-then-is_some-clause-evicts : goal.returns-then-is_some-clause-evicts
returns-then-is_some-clause-evicts c =
    let now = moment_of c.args.now in
    let row = c.args.row.row in
    let n = c.args.row.number in
    let paths = paths_in_order c.args.self.now in
    let left = paths_in_order c.remove_least.new.self in
    let removes = subst (λ ps. RemovesLeast c.args.order now ps left) c.in_ok-add.ensures.added c.remove_least.ensures in
    evicts_one c.args.limit c.args.order now row n paths left c.requires.numbered c.requires.new
    (as_many c.room.result (length (items_in_paths paths)) c.args.limit (sym c.is_some.ensures ∙ c.if-is_some.true) c.room.ensures.room c.requires.full) c.requires.limit removes

pub returns-then-is_some-clause-evicted : goal.returns-then-is_some-clause-evicted
returns-then-is_some-clause-evicted c =
    let now = moment_of c.args.now in
    let row = c.args.row.row in
    let n = c.args.row.number in
    let paths = paths_in_order c.args.self.now in
    let left = paths_in_order c.remove_least.new.self in
    let removes = subst (λ ps. RemovesLeast c.args.order now ps left) c.in_ok-add.ensures.added c.remove_least.ensures in
    let count = as_many c.room.result (length (items_in_paths paths)) c.args.limit (sym c.is_some.ensures ∙ c.if-is_some.true) c.room.ensures.room c.requires.full in
    omega (arith, count, count_one c.args.limit c.args.order now row n paths left c.requires.numbered c.requires.new count c.requires.limit removes)

pub row_count-requires : goal.row_count-requires
row_count-requires c =
    let test = survives c.args.order (moment_of c.args.now) c.in_ok-first.first in
    let left = c.evict_before.ensures ∙ ap (filter_paths test) c.in_ok-add-2.ensures.added in
    -- the number of rows before fits its type
    let fits = rw c.in_ok-first.was at c.first_survivor.type_inv in
    record {
      few = omega (arith, fits, ap (λ ps. length (items_in_paths ps)) left, count_evicted c.args.row.row c.args.row.number (paths_in_order c.args.self.now) test c.requires.new, c.in_ok-first.ensures.count);
    }

pub overflow_sub-result : goal.overflow_sub-result
overflow_sub-result c =
    let test = survives c.args.order (moment_of c.args.now) c.in_ok-first.first in
    let left = c.evict_before.ensures ∙ ap (filter_paths test) c.in_ok-add-2.ensures.added in
    omega (arith, c.row_count.ensures, ap (λ ps. length (items_in_paths ps)) left, count_evicted c.args.row.row c.args.row.number (paths_in_order c.args.self.now) test c.requires.new, c.in_ok-first.ensures.count)

pub returns-clause-evicts : goal.returns-clause-evicts
returns-clause-evicts c =
    let now = moment_of c.args.now in
    let first = c.in_ok-first.first in (
      first,
      c.in_ok-first.ensures.first,
      omega (arith, c.requires.full, count_ranks c.args.order now (paths_in_order c.args.self.now)),
      ap (moved_to_end_if is_single c.args.row.row.path.text) (c.evict_before.ensures ∙ ap (filter_paths (survives c.args.order now first)) c.in_ok-add-2.ensures.added),
    )

pub returns-clause-evicted : goal.returns-clause-evicted
returns-clause-evicted c = omega (arith, c.row_count.ensures, overflow_sub-result c, c.in_ok-first.ensures.count)
