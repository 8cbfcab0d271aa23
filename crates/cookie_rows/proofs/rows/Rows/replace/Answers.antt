use Rattle.std.proofs.Common.{◌∙◌, sym, ap, inr, None, refl, subst}
use Rattle.std.specs.Prelude.{◌≢◌}
use Rattle.cookie_laws.specs.Rows.{RowsInOrder, key_of, add_created, put, row_of}
use Rattle.cookie_rows.specs.Items.{AreItems, find_items, groups_in_order}
use Rattle.cookie_rows.specs.Stored.{domains_in}
use Rattle.cookie_rows.proofs.AreItems.{found_items, items_put, kept_put}
use Rattle.cookie_rows.proofs.RowLengths.{count_stored, row_count}
use Rattle.cookie_rows.proofs.rows.Rows.replace.Goals as goal

pub replace_row-requires : goal.replace_row-requires
replace_row-requires c =
    let key = key_of c.args.cookie in
    record {
      stored = λ none. c.requires.stored (ap (λ (k : RowsInOrder). row_of key k.rows) (sym c.self.view_is)
          ∙ sym (found_items c.self.inside.created (domains_in c.self.inside.groups) c.self.invariant.0 key) ∙ none);
    }

pub invariant_of-self : goal.invariant_of-self
invariant_of-self c =
    let n = c.self.inside.created in
    let gs = domains_in c.self.inside.groups in
    let key = key_of c.args.cookie in
    let stored : find_items key gs ≢ None
    = λ none. c.requires.stored (ap (λ (k : RowsInOrder). row_of key k.rows) (sym c.self.view_is) ∙ sym (found_items n gs c.self.invariant.0 key) ∙ none) in (
      subst (AreItems n) (sym (c.replace_row.ensures n)) (items_put n gs c.self.invariant.0 c.args.cookie n (inr (refl, stored))),
      c.self.invariant.1 ∙ sym (ap row_count (c.replace_row.ensures n) ∙ count_stored n gs c.self.invariant.0 c.args.cookie stored),
    )

pub returns : goal.returns
returns c =
    let n = c.self.inside.created in
    let gs = domains_in c.self.inside.groups in
    ap groups_in_order (c.replace_row.ensures n)
    ∙ kept_put n gs c.self.invariant.0 c.args.cookie
    ∙ ap (λ (k : RowsInOrder). record { rows = put k.rows c.args.cookie; created = add_created k.created (key_of c.args.cookie) }) c.self.view_is
