use Rattle.std.proofs.Common.{◌++◌, string_bytes, ap, ◌∙◌}
use Rattle.cookie_ron.proofs.texts.push_run.Goals as goal

pub returns : goal.returns
returns c =
    let run = c.run_at.ensures in
    (run.0, c.in_ok-push_str.ensures.bytes ∙ ap (λ t. string_bytes c.args.text.now ++ t) run.1, run.2, run.3)
