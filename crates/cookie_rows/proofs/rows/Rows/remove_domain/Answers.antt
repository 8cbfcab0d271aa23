use Rattle.std.proofs.Common.{◌≡◌, ◌∙◌, ◌+◌, None, Some, ap, arith, bytes_eq, length, sym}
use Rattle.std.specs.Map.{lookup}
use Rattle.std.specs.Option.{option_copied}
use Rattle.ordered_map.specs.Entries.{entries}
use Rattle.cookie_laws.specs.Contents.{contents_of, retained, rows_in_order}
use Rattle.cookie_laws.specs.Rows.{RowsInOrder, removed}
use Rattle.cookie_lookup.specs.Positions.{paths_in_order}
use Rattle.cookie_rows.specs.GroupChanges.{texts_by}
use Rattle.cookie_rows.specs.Least.{items_in_paths}
use Rattle.cookie_rows.specs.Retained.{has_other_domain}
use Rattle.cookie_rows.specs.Stored.{domains_in}
use Rattle.cookie_rows.proofs.Maps.{at_text, texts_removed}
use Rattle.cookie_rows.proofs.RemovedDomain.{count_others, none_removed, others_are_items, others_retained, rows_left}
use Rattle.cookie_rows.proofs.RowLengths.{row_count}
use Rattle.cookie_rows.proofs.rows.Rows.remove_domain.Goals as goal

pub returns-in_default-clause-rows : goal.returns-in_default-clause-rows
returns-in_default-clause-rows c =
    let d = c.args.domain.now in
    let es = entries c.self.inside.groups in
    let none : None ≡ lookup (at_text d) es = ap option_copied (sym c.in_default.is) ∙ c.get.ensures in
    let gs = domains_in c.self.inside.groups in
    sym c.self.view_is ∙ others_retained d c.self.inside.created gs gs c.self.invariant.0 (none_removed d es none)
    ∙ ap (λ (k : RowsInOrder). rows_in_order (retained (has_other_domain d) (contents_of k None None))) c.self.view_is

-- the groups that are left
left_are : (c : goal.Joined-remove) → domains_in c.remove.new.self ≡ removed (λ g. bytes_eq c.args.domain.now g.0) (domains_in c.self.inside.groups)
left_are c = ap (texts_by paths_in_order) c.remove.ensures.removed ∙ texts_removed paths_in_order c.args.domain.now (entries c.self.inside.groups)

-- the rows of the domain and those that are left are all
counted : (c : goal.Joined-remove)
    → length (items_in_paths (paths_in_order c.in-Some.paths.now)) + row_count (domains_in c.remove.new.self) ≡ row_count (domains_in c.self.inside.groups)
counted c =
    let d = c.args.domain.now in
    let es = entries c.self.inside.groups in
    let own = length (items_in_paths (paths_in_order c.in-Some.paths.now)) in
    let some : Some c.in-Some.paths.now ≡ lookup (at_text d) es = ap option_copied (sym c.in-Some.is) ∙ c.get.ensures in
    ap (λ es. own + row_count (texts_by paths_in_order es)) c.remove.ensures.removed ∙ count_others d es c.in-Some.paths.now some

-- how many are left
left_count : (c : goal.Joined-remove) → c.unwrap_or-self-inside.result ≡ row_count (domains_in c.remove.new.self)
left_count c =
    c.unwrap_or-self-inside.ensures
    ∙ rows_left c.room.result c.self.inside.len _ (row_count (domains_in c.remove.new.self)) (row_count (domains_in c.self.inside.groups)) (counted c)
    c.self.invariant.1 c.room.ensures.room c.room.ensures.none

pub invariant_of-self : goal.invariant_of-self
invariant_of-self c = (
  others_are_items c.args.domain.now c.self.inside.created (domains_in c.self.inside.groups) (domains_in c.remove.new.self) c.self.invariant.0 (left_are c),
  left_count c,
)

pub returns-clause-rows : goal.returns-clause-rows
returns-clause-rows c =
    let d = c.args.domain.now in
    others_retained d c.self.inside.created (domains_in c.self.inside.groups) (domains_in c.remove.new.self) c.self.invariant.0 (left_are c)
    ∙ ap (λ (k : RowsInOrder). rows_in_order (retained (has_other_domain d) (contents_of k None None))) c.self.view_is

pub returns-clause-removed : goal.returns-clause-removed
returns-clause-removed c =
    let before = ap (λ (k : RowsInOrder). length k.rows) c.self.view_is in
    omega (arith, counted c, left_count c, before, c.self.invariant.1)
