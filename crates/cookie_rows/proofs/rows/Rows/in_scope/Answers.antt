use Rattle.std.proofs.Common.{◌∙◌, ap, List, ℕ}
use Rattle.cookie_laws.specs.Rows.{RowsInOrder, key_at, row_of}
use Rattle.cookie_rows.specs.Stored.{domains_in}
use Rattle.cookie_rows.proofs.AreItems.{found_items}
use Rattle.cookie_rows.proofs.rows.Rows.in_scope.Goals as goal

pub returns-clause-row : goal.returns-clause-row
returns-clause-row c =
    let scope = c.args.scope.now in
    let name = c.args.name.now in
    let rows = c.args.self.now.rows in
    let key = key_at c.domain.result.now c.path.result.now name in
    c.find_row.ensures ∙ found_items c.self.inside.created (domains_in c.self.inside.groups) c.self.invariant.0 key
    ∙ ap (λ (kept : RowsInOrder). row_of key kept.rows) c.self.view_is
    ∙ ap (λ (domain : List ℕ). row_of (key_at domain c.path.result.now name) rows) c.domain.ensures
    ∙ ap (λ (path : List ℕ). row_of (key_at scope.domain path name) rows) c.path.ensures
