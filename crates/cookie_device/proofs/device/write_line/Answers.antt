use Rattle.cookie_device.proofs.Appending.{beginning_after, longer_beginning}
use Rattle.cookie_device.proofs.device.write_line.Goals as goal

pub returns-in_err-write_all-clause-part : goal.returns-in_err-write_all-clause-part
returns-in_err-write_all-clause-part g c = longer_beginning _ _ _ _ c.in_err-write_all.ensures.part

pub returns-clause-part : goal.returns-clause-part
returns-clause-part g c = beginning_after _ _ _ _ _ c.in_ok-write_all.ensures.whole c.write_all-2.ensures.part
