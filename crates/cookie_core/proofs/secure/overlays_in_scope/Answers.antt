use Rattle.std.proofs.Common.{◌≡◌, ◌∙◌, ℕ, List, Option, None, Some, ap}
use Rattle.cookie_words.specs.Moments.{moment_of}
use Rattle.cookie_parts.specs.Cookie.{Row}
use Rattle.cookie_parts.specs.Hosts.{passes}
use Rattle.cookie_laws.specs.Rows.{key_at, row_of}
use Rattle.cookie_core.specs.Overlaid.{is_overlaid}
use Rattle.cookie_core.proofs.OverlaidRows.{keys_differ, row_passes}
use Rattle.cookie_core.proofs.secure.overlays_in_scope.Goals as goal

pub returns-in-Some : goal.returns-in-Some
returns-in-Some c =
    let rows = c.args.rows.now.rows in
    let scope = c.args.scope.now in
    let cookie = c.args.cookie.now in
    let test = is_overlaid cookie (moment_of c.args.now) in
    let found : Some c.in-Some.row.now ≡ row_of (key_at scope.domain scope.path cookie.raw.name) rows =
    c.in-Some.ensures.row ∙ ap (λ (name : List ℕ). row_of (key_at scope.domain scope.path name) rows) c.name.ensures in
    c.is_overlaid.ensures ∙ ap (λ (row : Option Row). passes test row) found
    ∙ row_passes (key_at scope.domain scope.path cookie.raw.name) test rows (keys_differ rows c.in_scope.ensures.in_order)

pub returns-in-None : goal.returns-in-None
returns-in-None c =
    let rows = c.args.rows.now.rows in
    let scope = c.args.scope.now in
    let cookie = c.args.cookie.now in
    let test = is_overlaid cookie (moment_of c.args.now) in
    let none : None ≡ row_of (key_at scope.domain scope.path cookie.raw.name) rows =
    c.in-None.ensures.row ∙ ap (λ (name : List ℕ). row_of (key_at scope.domain scope.path name) rows) c.name.ensures in
    ap (λ (row : Option Row). passes test row) none
    ∙ row_passes (key_at scope.domain scope.path cookie.raw.name) test rows (keys_differ rows c.in_scope.ensures.in_order)
