use Rattle.std.proofs.Common.{◌≡◌, ◌∙◌, ◌+◌, ap, arith, inl, inr, None, refl, subst, sym}
use Rattle.std.specs.Prelude.{◌≢◌, is_none}
use Rattle.std.proofs.lemmas.Bool.{not-true}
use Rattle.cookie_laws.specs.Rows.{RowsInOrder, key_of, add_created, put, row_of}
use Rattle.cookie_rows.specs.Items.{AreItems, find_items, groups_in_order}
use Rattle.cookie_rows.specs.Stored.{domains_in}
use Rattle.cookie_rows.proofs.AreItems.{found_items, items_put, kept_put}
use Rattle.cookie_rows.proofs.Results.{either_way}
use Rattle.cookie_rows.proofs.RowLengths.{count_new, count_stored, few_rows, none_unless, row_count}
use Rattle.cookie_rows.proofs.rows.Rows.put.Goals as goal

pub overflow_add-self : goal.overflow_add-self
overflow_add-self c =
    let few = few_rows c.self.inside.created (domains_in c.self.inside.groups) c.self.invariant.0 in
    omega (arith, few, c.self.invariant.1, c.in-Some.ensures)

pub invariant_of-self-then-branch : goal.invariant_of-self-then-branch
invariant_of-self-then-branch c =
    let n = c.self.inside.created in
    let gs = domains_in c.self.inside.groups in
    let new : find_items (key_of c.args.cookie) gs ≡ None = none_unless _ (not-true _ (sym c.in_ok-put_row.ensures.is_new ∙ c.if-branch.true)) in (
      subst (λ m. AreItems m (domains_in c.put_row.new.groups)) (sym c.in-Some.ensures.1)
          (subst (AreItems (n + 1)) (sym c.in_ok-put_row.ensures.put) (items_put n gs c.self.invariant.0 c.args.cookie (n + 1) (inl refl))),
      ap (λ l. l + 1) c.self.invariant.1 ∙ sym (ap row_count c.in_ok-put_row.ensures.put ∙ count_new n gs c.self.invariant.0 c.args.cookie new),
    )

pub returns-then-branch-clause-put : goal.returns-then-branch-clause-put
returns-then-branch-clause-put c =
    let n = c.self.inside.created in
    let gs = domains_in c.self.inside.groups in
    ap groups_in_order c.in_ok-put_row.ensures.put
    ∙ kept_put n gs c.self.invariant.0 c.args.cookie
    ∙ ap (λ (k : RowsInOrder). record { rows = put k.rows c.args.cookie; created = add_created k.created (key_of c.args.cookie) }) c.self.view_is

pub returns-else-branch-clause-put : goal.returns-else-branch-clause-put
returns-else-branch-clause-put c =
    let n = c.self.inside.created in
    let gs = domains_in c.self.inside.groups in
    ap groups_in_order c.in_ok-put_row.ensures.put
    ∙ kept_put n gs c.self.invariant.0 c.args.cookie
    ∙ ap (λ (k : RowsInOrder). record { rows = put k.rows c.args.cookie; created = add_created k.created (key_of c.args.cookie) }) c.self.view_is

pub invariant_of-self-else-branch : goal.invariant_of-self-else-branch
invariant_of-self-else-branch c =
    let n = c.self.inside.created in
    let gs = domains_in c.self.inside.groups in
    let stored : find_items (key_of c.args.cookie) gs ≢ None
    = λ none. let is_new = sym (ap is_none none) ∙ sym c.in_ok-put_row.ensures.is_new ∙ c.if-branch.false in absurd (cc) in (
      subst (AreItems n) (sym c.in_ok-put_row.ensures.put) (items_put n gs c.self.invariant.0 c.args.cookie n (inr (refl, stored))),
      c.self.invariant.1 ∙ sym (ap row_count c.in_ok-put_row.ensures.put ∙ count_stored n gs c.self.invariant.0 c.args.cookie stored),
    )

pub returns-in_err-put_row-clause-memory : goal.returns-in_err-put_row-clause-memory
returns-in_err-put_row-clause-memory c =
    let n = c.self.inside.created in
    let gs = domains_in c.self.inside.groups in
    let key = key_of c.args.cookie in
    either_way c.from_residual.result
    (ap (λ (k : RowsInOrder). row_of key k.rows) (sym c.self.view_is) ∙ sym (found_items n gs c.self.invariant.0 key) ∙ c.in_err-put_row.ensures.memory)
