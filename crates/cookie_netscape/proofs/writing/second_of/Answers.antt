use Rattle.std.proofs.Common.{ap, ◌∙◌, w64}
use Rattle.std.proofs.lemmas.Int.{to_z-of_z}
use Rattle.cookie_netscape.specs.Written.{not_negative}
use Rattle.cookie_netscape.proofs.CutSeconds.{unsigned_or_0}
use Rattle.cookie_netscape.proofs.writing.second_of.Goals as goal

pub returns : goal.returns
returns c =
    let seconds = to_z-of_z w64 c.epoch_second.result (record { sfits = c.epoch_second.type_inv }) in
    c.unwrap_or.ensures
    ∙ unsigned_or_0 c.try_from.result c.epoch_second.result (record { sfits = c.epoch_second.type_inv }) (rw seconds at c.try_from.ensures)
    ∙ ap not_negative c.epoch_second.ensures
