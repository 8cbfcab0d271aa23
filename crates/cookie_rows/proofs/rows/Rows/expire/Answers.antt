use Rattle.std.proofs.Common.{◌∙◌, ap, subst, sym}
use Rattle.cookie_parts.specs.Cookie.{expired_row}
use Rattle.cookie_laws.specs.Rows.{RowsInOrder, changed, has_key, key_of}
use Rattle.cookie_rows.specs.Items.{AreItems, groups_in_order}
use Rattle.cookie_rows.specs.Stored.{domains_in}
use Rattle.cookie_rows.proofs.AreItems.{items_expired, kept_expired}
use Rattle.cookie_rows.proofs.RowLengths.{count_expired, row_count}
use Rattle.cookie_rows.proofs.rows.Rows.expire.Goals as goal

pub invariant_of-self : goal.invariant_of-self
invariant_of-self c =
    let n = c.self.inside.created in
    let gs = domains_in c.self.inside.groups in
    let key = key_of c.args.cookie.now in (
      subst (AreItems n) (sym c.expire_row.ensures) (items_expired n gs c.self.invariant.0 key),
      c.self.invariant.1 ∙ sym (ap row_count c.expire_row.ensures ∙ count_expired n gs c.self.invariant.0 key),
    )

pub returns : goal.returns
returns c =
    let key = key_of c.args.cookie.now in
    ap groups_in_order c.expire_row.ensures ∙ kept_expired c.self.inside.created (domains_in c.self.inside.groups) c.self.invariant.0 key
    ∙ ap (λ (k : RowsInOrder). record k { rows = changed (has_key key) expired_row k.rows }) c.self.view_is
