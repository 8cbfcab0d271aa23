use Rattle.std.proofs.Common.{rules}
use Rattle.std.proofs.lemmas.Bool.Decides.{Decides-at}
use Rattle.cookie_parts.specs.Path.{covers_path}
use Rattle.cookie_parts.proofs.Paths.{covers_path_decides}
use Rattle.cookie_parts.proofs.cookie_path.covers.Goals as goal

pub returns-then-ends_with-clause-meaning : goal.returns-then-ends_with-clause-meaning
returns-then-ends_with-clause-meaning c =
    let path = c.args.path.now in
    let request = c.args.request.now in
    Decides-at c.if-path-request.value (covers_path path request) (search rules) (covers_path_decides path request)

pub returns-else-ends_with-clause-meaning : goal.returns-else-ends_with-clause-meaning
returns-else-ends_with-clause-meaning c =
    let path = c.args.path.now in
    let request = c.args.request.now in
    Decides-at c.starts_with-else-ends_with.result (covers_path path request) (search rules) (covers_path_decides path request)

pub returns-else-starts_with-clause-meaning : goal.returns-else-starts_with-clause-meaning
returns-else-starts_with-clause-meaning c =
    let path = c.args.path.now in
    let request = c.args.request.now in
    Decides-at c.starts_with.result (covers_path path request) (search rules) (covers_path_decides path request)
