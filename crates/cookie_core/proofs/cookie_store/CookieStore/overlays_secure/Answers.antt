use Rattle.std.proofs.Common.{◌≡◌, ◌∙◌, ℕ, List, Some, ap}
use Rattle.std.specs.List.{list_any}
use Rattle.cookie_words.specs.Moments.{moment_of}
use Rattle.cookie_laws.specs.Contents.{Contents}
use Rattle.cookie_rows.specs.SecureKeys.{ScopeValue, scopes_named}
use Rattle.cookie_core.specs.Overlaid.{is_overlaid, is_overlaid_in}
use Rattle.cookie_core.proofs.KeyedRows.{keyed_by}
use Rattle.cookie_core.proofs.OverlaidRows.{overlaid_in_scopes}
use Rattle.cookie_core.proofs.cookie_store.CookieStore.overlays_secure.Goals as goal

pub returns-in-Some : goal.returns-in-Some
returns-in-Some c =
    let rows = c.self.inside.rows.rows in
    let keys = c.in-Some.index in
    let cookie = c.args.cookie.now in
    let now = moment_of c.args.now in
    let is : c.self.inside.secure ≡ Some keys = cc in
    c.overlays_in_scopes.ensures
    ∙ ap (λ (scopes : List ScopeValue). list_any (λ scope. list_any (is_overlaid_in cookie now scope) rows) scopes)
    (c.scopes.ensures ∙ ap (λ (name : List ℕ). scopes_named name keys) c.name.ensures)
    ∙ overlaid_in_scopes keys cookie now rows (keyed_by c.self.inside.secure keys rows is c.self.invariant)
    ∙ ap (λ (store : Contents). list_any (is_overlaid cookie now) store.rows) c.self.view_is
