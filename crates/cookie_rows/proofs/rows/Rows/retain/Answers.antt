use Rattle.std.proofs.Common.{◌∙◌, None, ap, arith, rules, subst}
use Rattle.std.specs.Fn.{FnReturnsAt}
use Rattle.ordered_map.specs.Entries.{entries}
use Rattle.cookie_laws.specs.Contents.{contents_of, retained, rows_in_order}
use Rattle.cookie_laws.specs.Rows.{RowsInOrder}
use Rattle.cookie_rows.specs.Stored.{domains_in}
use Rattle.cookie_rows.proofs.RetainedGroups.{fewer_retained, items_retained}
use Rattle.cookie_rows.proofs.RetainedItems.{kept_retained}
use Rattle.cookie_rows.proofs.RowLengths.{count_all}
use Rattle.cookie_rows.proofs.rows.Rows.retain.Goals as goal

pub count_rows-self-inside-requires : goal.count_rows-self-inside-requires
count_rows-self-inside-requires g c =
    let few = fewer_retained _ c.self.inside.created (domains_in c.self.inside.groups) (domains_in c.retain_groups.new.groups) c.self.invariant.0 c.retain_groups.ensures in
    let count = count_all _ (entries c.retain_groups.new.groups) c.values.ensures in
    record { few = omega (arith, few, count, c.self.invariant.1) }

pub invariant_of-self : goal.invariant_of-self
invariant_of-self g c = (
  items_retained _ c.self.inside.created (domains_in c.self.inside.groups) (domains_in c.retain_groups.new.groups) c.self.invariant.0 c.retain_groups.ensures,
  c.count_rows-self-inside.ensures ∙ count_all _ (entries c.retain_groups.new.groups) c.values.ensures,
)

pub returns : goal.returns
returns g c = λ test computes.
    kept_retained _ c.self.inside.created (domains_in c.self.inside.groups) (domains_in c.retain_groups.new.groups) c.self.invariant.0 c.retain_groups.ensures
    test (λ row result call. computes row.row result (subst (λ x. FnReturnsAt g.F.Fn c.args.keep x result) call.1 (search rules)))
    ∙ ap (λ (k : RowsInOrder). rows_in_order (retained test (contents_of k None None))) c.self.view_is
