use Rattle.std.proofs.Common.{refl}
use Rattle.cookies.specs.FileNames.{output_name}
use Rattle.cookies.proofs.OtherNames.{written_file}
use Rattle.cookies.proofs.files.output_name.Goals as goal

pub returns-in-text : goal.returns-in-text
unfolding output_name
returns-in-text c = rw c.in-text.is refl

pub returns-in_default : goal.returns-in_default
returns-in_default c = written_file c.args.name.now c.in_default.not-text
