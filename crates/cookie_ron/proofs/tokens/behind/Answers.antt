use Rattle.std.proofs.Common.{◌++◌, refl, ap, sym, ◌∙◌}
use Rattle.cookie_ron.proofs.Chars.{behind_none, behind_read}
use Rattle.cookie_ron.proofs.tokens.behind.Goals as goal

pub returns-in-Some-clause-read : goal.returns-in-Some-clause-read
returns-in-Some-clause-read c =
    let found = c.in-Some.ensures.cases in
    behind_read c.args.token.now c.args.input.now c.in-Some.rest.now c.requires (found.1.1 ∙ ap (λ t. c.args.token.now ++ t) (sym found.2))

pub returns-in-None-clause-errors : goal.returns-in-None-clause-errors
returns-in-None-clause-errors c = (refl, behind_none c.args.token.now c.args.input.now c.requires c.utf8.input c.in-None.ensures.cases)
