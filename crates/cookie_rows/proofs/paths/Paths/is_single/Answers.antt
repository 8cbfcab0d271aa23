use Rattle.std.proofs.Common.{◌≡◌, ◌==◌, ◌∙◌, ap, length}
use Rattle.cookie_rows.proofs.StoredPaths.{single_there}
use Rattle.cookie_rows.proofs.paths.Paths.is_single.Goals as goal

pub returns-in-1-Some : goal.returns-in-1-Some
returns-in-1-Some c =
    let now = c.args.self.now in
    let one : length now ≡ 1 = cc in
    ap (λ n. n == 1) c.len-in-1-Some.ensures.in_order ∙ single_there now c.in-1-Some.names.now one c.in-1-Some.ensures.names
