use Rattle.std.proofs.Common.{◌==◌, length, ap, ◌∙◌}
use Rattle.cookie_ron.proofs.Chars.{end_test}
use Rattle.cookie_ron.proofs.tokens.is_at_end.Goals as goal

pub returns : goal.returns
returns c = c.is_empty.ensures ∙ end_test c.drop_blanks.result.now c.drop_blanks.utf8 ∙ ap (λ t. length t == 0) c.drop_blanks.ensures
