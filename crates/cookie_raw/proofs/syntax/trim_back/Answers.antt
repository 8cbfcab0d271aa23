use Rattle.std.proofs.Common.{take, ap, ◌∙◌, arith, rules, tests}
use Rattle.std.specs.Prelude.{reverse}
use Rattle.std.proofs.lemmas.Iterator.Adapters.{YieldsList-from_rev_slice}
use Rattle.std.proofs.lemmas.Iterator.Consumers.{count_from_yields_List}
use Rattle.std.proofs.lemmas.Iterator.Search.{YieldsList-from_take_while}
use Rattle.std.proofs.lemmas.List.Folds.{length-prefix_len}
use Rattle.cookie_raw.specs.Rfc6265bis.{is_white_space}
use Rattle.cookie_raw.proofs.syntax.trim_back.Goals as goal

pub returns : goal.returns
returns c =
    let text = c.args.text.now in
    let counted = count_from_yields_List c.take_while.result _ c.count-spaces.ensures.ran
    (YieldsList-from_take_while _ is_white_space (YieldsList-from_rev_slice text (cc))
    c.take_while.ensures.closure c.take_while.ensures.done (λ x b q k. search (rules, tests)))
    ∙ length-prefix_len is_white_space (reverse text) in
    c.range.ensures.value ∙ ap (λ n. take n text) (omega (arith, counted))
