use Rattle.std.proofs.Common.{◌++◌, length, ap, sym, ◌∙◌}
use Rattle.std.specs.Char.{encode_utf8}
use Rattle.std.specs.Str.{chars}
use Rattle.std.proofs.lemmas.List.{nil_from_length}
use Rattle.std.proofs.lemmas.Str.{chars-nil, chars_past_char}
use Rattle.cookie_ron.proofs.texts.first_of.Goals as goal

pub returns : goal.returns
returns c =
    chars_past_char c.args.input.now c.as_str.result.now c.in_ok-first.first c.utf8.input
    (sym c.chars-rest.ensures.rest ∙ c.in_ok-first.ensures.steps.0 ∙ ap (λ t. encode_utf8 c.in_ok-first.first ++ t) (sym c.as_str.ensures))

pub returns-in_err-first : goal.returns-in_err-first
returns-in_err-first c =
    rw c.from_residual.ensures (ap chars (nil_from_length c.args.input.now (ap length (sym c.chars-rest.ensures.rest) ∙ c.in_err-first.ensures.steps.0.0)) ∙ chars-nil)
