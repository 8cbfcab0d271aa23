use Rattle.std.proofs.Common.{◌≡◌, ◌≢◌, ◌∙◌, ℕ, ◌==◌, false, ap, sym, arith}
use Rattle.std.proofs.lemmas.Bool.Decides.{nat_tests}
use Rattle.ordered_map.specs.Entries.{entries, in_order}
use Rattle.cookie_rows.specs.GroupChanges.{texts_by}
use Rattle.cookie_rows.specs.Eviction.{is_single}
use Rattle.cookie_rows.proofs.OrderedDomains.{map_stays, map_stays_none, moved_last}
use Rattle.cookie_rows.proofs.path_table.move_to_end_in.Goals as goal

-- another number than 1
not_one : (n : ℕ) → n ≢ 1 → (n == 1) ≡ false
not_one n other = grind (arith, nat_tests, other)

pub returns-then-len-eq1 : goal.returns-then-len-eq1
returns-then-len-eq1 c =
    ap (texts_by in_order) c.move_to_end.ensures.moved
    ∙ moved_last in_order is_single c.args.path.now (entries c.args.groups.now) c.in-Some.names.now c.in-Some.ensures
    (ap (λ n. n == 1) (sym c.len.ensures.in_order ∙ c.if-len-eq1.true))

pub returns-else-len-eq1 : goal.returns-else-len-eq1
returns-else-len-eq1 c =
    sym (map_stays in_order is_single c.args.path.now (entries c.args.groups.now) c.in-Some.names.now c.in-Some.ensures
    (ap (λ n. n == 1) (sym c.len.ensures.in_order) ∙ not_one c.len.result c.if-len-eq1.false))

pub returns-in_default : goal.returns-in_default
returns-in_default c = sym (map_stays_none in_order is_single c.args.path.now (entries c.args.groups.now) c.in_default.ensures)
