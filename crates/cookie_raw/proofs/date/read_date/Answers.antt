-- The loop visits the tokens of the date, and each adds to the parts found.
use Rattle.std.proofs.Common.{not, ap, ◌∙◌, length, rules, tests}
use Rattle.std.specs.Prelude.{◌==◌}
use Rattle.std.proofs.lemmas.Iterator.Consumers.{YieldsList-at, YieldsList-end, YieldsList-from_filter}
use Rattle.std.proofs.lemmas.Iterator.Splits.{YieldsList-from_slice_split}
use Rattle.cookie_raw.specs.CookieDate.{is_delimiter, parts_of, moment_of_parts}
use Rattle.cookie_raw.proofs.DateTokens.{with_next_token}
use Rattle.cookie_raw.proofs.date.read_date.Goals as goal

pub loop-token-preserved : goal.loop-token-preserved
loop-token-preserved c =
    c.take.ensures ∙ with_next_token c.loop-token.found c.loop-token.yielded c.in-Some.token c.loop-token.invariant

pub returns : goal.returns
returns c =
    let seen = YieldsList-end
    (YieldsList-at c.into_iter-token-iterator.ensures.into_iter_gives
    (YieldsList-from_filter _ (λ token. not (length token == 0))
    (YieldsList-at c.filter-token-items.ensures.source
    (YieldsList-from_slice_split _ is_delimiter c.args.text.now (cc) c.split.ensures.done c.split.ensures.closure (λ x r q k. search (rules, tests))))
    c.filter-token-items.ensures.closure (λ x r q k. search (rules, tests))))
    c.loop-token.yielded _ c.loop-token.yielded_by _ _ c.in-None.is c.next.ensures.steps in
    c.moment.ensures ∙ ap moment_of_parts (c.loop-token.invariant ∙ ap parts_of seen.0)
