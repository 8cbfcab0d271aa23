use Rattle.std.proofs.Common.{refl, rules, tests, lit<}
use Rattle.std.proofs.lemmas.Iterator.Search.{any_from_yields_List}
use Rattle.std.proofs.lemmas.Iterator.Consumers.{YieldsList-at}
use Rattle.std.proofs.lemmas.Iterator.Splits.{YieldsList-from_str_split}
use Rattle.cookie_netscape.specs.Files.{has_empty_expiry}
use Rattle.cookie_edit.proofs.put.has_empty_expiries.Goals as goal

pub returns : goal.returns
returns c =
    any_from_yields_List has_empty_expiry _ _ _ c.any.ensures.ran
    (YieldsList-at refl (YieldsList-from_str_split 10 c.args.text.now (lit< tt) c.split.ensures.text c.split.ensures.has_more c.split.ensures.pattern))
    (λ x b q k. search (rules, tests))
