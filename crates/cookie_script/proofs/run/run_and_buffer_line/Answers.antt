use Rattle.cookie_device.proofs.Sending.{nothing_part}
use Rattle.cookie_script.proofs.run.run_and_buffer_line.Goals as goal

pub returns-in_err-line_result-clause-part : goal.returns-in_err-line_result-clause-part
returns-in_err-line_result-clause-part g c = nothing_part _ _

pub returns-in_err-line_output-clause-part : goal.returns-in_err-line_output-clause-part
returns-in_err-line_output-clause-part g c = nothing_part _ _
