use Rattle.std.proofs.Common.{◌∙◌, w64}
use Rattle.std.proofs.lemmas.Int.{to_z-of_z}
use Rattle.cookie_raw.proofs.Ages.{seconds_read}
use Rattle.cookie_raw.proofs.attributes.seconds.Goals as goal

pub returns : goal.returns
returns c =
    to_z-of_z w64 c.unwrap_or.result (record { sfits = c.unwrap_or.type_inv })
    ∙ (c.unwrap_or.ensures ∙ seconds_read c.args.digits.now c.parse.result c.requires.several c.requires.digits c.parse.ensures.value.0)
