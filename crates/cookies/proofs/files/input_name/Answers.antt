use Rattle.std.proofs.Common.{refl}
use Rattle.cookies.specs.FileNames.{input_name}
use Rattle.cookies.proofs.OtherNames.{read_file}
use Rattle.cookies.proofs.files.input_name.Goals as goal

pub returns-in-text : goal.returns-in-text
unfolding input_name
returns-in-text c = rw c.in-text.is refl

pub returns-in_default : goal.returns-in_default
returns-in_default c = read_file c.args.name.now c.in_default.not-text
