use Rattle.std.proofs.Common.{◌∙◌, ◌<◌, length, rules, tests, arith}
use Rattle.std.proofs.lemmas.Grind.{common_steps}
use Rattle.std.proofs.lemmas.Iterator.{YieldsList-from_slice, cases_from_all}
use Rattle.cookie_store.specs.Groups.{HasDomainAndPath}
use Rattle.cookie_store_tests.proofs.GroupLists.{all_from}
use Rattle.cookie_store_tests.proofs.list_search.is_path.Goals as goal

pub returns-then-not-is_empty : goal.returns-then-not-is_empty
returns-then-not-is_empty c = λ t.
    let path = c.args.path.now in
    let r = cases_from_all _ _ c.all.result (HasDomainAndPath c.args.domain.now path.0) (λ x. Unit {0}) c.all.ensures.ran
    (YieldsList-from_slice path.1 (c.iter.ensures.rest ∙ c.items-cookies.ensures)) (λ x q k. search (rules, tests)) (λ x q k. tt) in
    let some : 0 < length path.1 = grind (arith, common_steps) in
    let whole = rw t at r in
    (some, all_from (HasDomainAndPath c.args.domain.now path.0) path.1 whole)
