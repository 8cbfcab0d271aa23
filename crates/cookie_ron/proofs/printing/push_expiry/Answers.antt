use Rattle.std.proofs.Common.{◌++◌, Some, ap, string_bytes, ◌∙◌}
use Rattle.std.proofs.lemmas.Result.{on_ok_weaker}
use Rattle.cookie_ron.specs.Printed.{printed_expiry}
use Rattle.cookie_ron.proofs.printing.push_expiry.Goals as goal

pub returns-in-AtUtc : goal.returns-in-AtUtc
returns-in-AtUtc c =
    let read = rw c.unwrap.ensures at c.from_utf8.ensures.cases in
    let text = read.0 ∙ c.moment_bytes-ascii.ensures.text in
    rw c.in-AtUtc.is (
    on_ok_weaker c.push_tagged.result (λ e. e ∙ ap (λ s. string_bytes c.args.text.now ++ printed_expiry (Some s)) text) c.push_tagged.ensures
    )
