use Rattle.std.proofs.Common.{◌∙◌, ap, None, subst}
use Rattle.cookie_laws.specs.Contents.{HasCreationOrder, contents_of}
use Rattle.cookie_laws.specs.Rows.{RowsInOrder, key_at, row_of}
use Rattle.cookie_rows.specs.Stored.{domains_in}
use Rattle.cookie_rows.proofs.Created.{created_once}
use Rattle.cookie_rows.proofs.AreItems.{found_items}
use Rattle.cookie_rows.proofs.rows.Rows.named.Goals as goal

pub returns-clause-value : goal.returns-clause-value
returns-clause-value c =
    let key = key_at c.args.domain.now c.args.path.now c.args.name.now in
    c.find_row.ensures ∙ found_items c.self.inside.created (domains_in c.self.inside.groups) c.self.invariant.0 key
    ∙ ap (λ (k : RowsInOrder). row_of key k.rows) c.self.view_is

pub returns-clause-has_creation_order : goal.returns-clause-has_creation_order
returns-clause-has_creation_order c =
    subst (λ kept. HasCreationOrder (contents_of kept None None)) c.self.view_is
    (created_once c.self.inside.created (domains_in c.self.inside.groups) c.self.invariant.0)
