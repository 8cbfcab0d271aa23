use Rattle.std.proofs.Common.{lit<}
use Rattle.std.proofs.lemmas.Str.Pattern.{split_once_first}
use Rattle.cookie_netscape.proofs.Tabs.{first_field}
use Rattle.cookie_netscape.proofs.fields.split_field.Goals as goal

pub returns : goal.returns
returns c = first_field c.args.text.now c.split_once.result (split_once_first 9 c.args.text.now c.split_once.result c.split_once.ensures.cases (lit< tt))
