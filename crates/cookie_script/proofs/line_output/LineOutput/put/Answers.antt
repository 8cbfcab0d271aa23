use Rattle.cookie_script.proofs.Gathering.{gathers_nothing}
use Rattle.cookie_script.proofs.line_output.LineOutput.put.Goals as goal

pub returns-in-Nothing : goal.returns-in-Nothing
returns-in-Nothing g c = rw c.in-Nothing.is (gathers_nothing _ _)
