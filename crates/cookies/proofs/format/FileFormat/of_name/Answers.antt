use Rattle.std.proofs.Common.{refl}
use Rattle.cookies.specs.FileFormats.{format_of_name}
use Rattle.cookies.proofs.OtherNames.{no_format}
use Rattle.cookies.proofs.format.FileFormat.of_name.Goals as goal

pub returns-in-json : goal.returns-in-json
unfolding format_of_name
returns-in-json c = rw c.in-json.is refl

pub returns-in-jsonl : goal.returns-in-jsonl
unfolding format_of_name
returns-in-jsonl c = rw c.in-jsonl.is refl

pub returns-in-ron : goal.returns-in-ron
unfolding format_of_name
returns-in-ron c = rw c.in-ron.is refl

pub returns-in-txt : goal.returns-in-txt
unfolding format_of_name
returns-in-txt c = rw c.in-txt.is refl

pub returns-in_default : goal.returns-in_default
returns-in_default c =
    no_format c.args.name.now c.in_default.not-json c.in_default.not-jsonl c.in_default.not-ron c.in_default.not-txt
