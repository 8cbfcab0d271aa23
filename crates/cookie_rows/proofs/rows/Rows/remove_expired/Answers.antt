use Rattle.std.proofs.Common.{◌∙◌, None, ap, arith, length, rules}
use Rattle.ordered_map.specs.Entries.{entries}
use Rattle.cookie_words.specs.Moments.{moment_of}
use Rattle.cookie_laws.specs.Contents.{contents_of, unexpired, rows_in_order}
use Rattle.cookie_laws.specs.Rows.{RowsInOrder}
use Rattle.cookie_rows.specs.Stored.{domains_in}
use Rattle.cookie_rows.proofs.RetainedGroups.{fewer_retained, items_retained}
use Rattle.cookie_rows.proofs.RetainedItems.{kept_unexpired}
use Rattle.cookie_rows.proofs.RowLengths.{count_all}
use Rattle.cookie_rows.proofs.rows.Rows.remove_expired.Goals as goal

pub count_rows-self-inside-requires : goal.count_rows-self-inside-requires
count_rows-self-inside-requires c =
    let few = fewer_retained _ c.self.inside.created (domains_in c.self.inside.groups) (domains_in c.retain_groups.new.groups) c.self.invariant.0 c.retain_groups.ensures in
    let count = count_all _ (entries c.retain_groups.new.groups) c.values.ensures in
    record { few = omega (arith, few, count, c.self.invariant.1) }

pub invariant_of-self : goal.invariant_of-self
invariant_of-self c = (
  items_retained _ c.self.inside.created (domains_in c.self.inside.groups) (domains_in c.retain_groups.new.groups) c.self.invariant.0 c.retain_groups.ensures,
  c.count_rows-self-inside.ensures ∙ count_all _ (entries c.retain_groups.new.groups) c.values.ensures,
)

pub returns-clause-rows : goal.returns-clause-rows
returns-clause-rows c =
    let now = moment_of c.args.now in
    kept_unexpired _ c.self.inside.created (domains_in c.self.inside.groups) (domains_in c.retain_groups.new.groups) c.self.invariant.0 c.retain_groups.ensures
    now (λ row result call. search rules)
    ∙ ap (λ (k : RowsInOrder). rows_in_order (unexpired now (contents_of k None None))) c.self.view_is

pub overflow_sub-result : goal.overflow_sub-result
overflow_sub-result c =
    let few = fewer_retained _ c.self.inside.created (domains_in c.self.inside.groups) (domains_in c.retain_groups.new.groups) c.self.invariant.0 c.retain_groups.ensures in
    let count = c.count_rows-self-inside.ensures ∙ count_all _ (entries c.retain_groups.new.groups) c.values.ensures in
    omega (arith, few, count, c.self.invariant.1)

pub returns-clause-removed : goal.returns-clause-removed
returns-clause-removed c =
    let count = c.count_rows-self-inside.ensures ∙ count_all _ (entries c.retain_groups.new.groups) c.values.ensures in
    let before = ap (λ (k : RowsInOrder). length k.rows) c.self.view_is in
    omega (arith, count, before, c.self.invariant.1, overflow_sub-result c)
