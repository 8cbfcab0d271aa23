use Rattle.cookie_ron.proofs.CharFronts.{braces_read}
use Rattle.cookie_ron.proofs.texts.in_braces.Goals as goal

pub returns : goal.returns
returns c = braces_read c.args.input.now c.split_once.result c.utf8.input c.split_once.ensures.cases
