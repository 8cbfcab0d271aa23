use Rattle.std.proofs.Common.{◌+◌, ◌==◌, ◌∙◌, rules}
use Rattle.std.proofs.lemmas.List.{take_rest}
use Rattle.cookie_inputs.proofs.Positions.{after_last-all, after_last-at}
use Rattle.cookie_inputs.proofs.urls.after_last.Goals as goal

pub returns-in-Some : goal.returns-in-Some
returns-in-Some c =
    take_rest c.args.text.now (c.in-Some.at + 1)
    ∙ after_last-at (λ b. b == c.args.byte) c.args.text.now c.in-Some.at (search rules) (search rules) (search rules)

pub returns-in-None : goal.returns-in-None
returns-in-None c = after_last-all (λ b. b == c.args.byte) c.args.text.now (search rules)
