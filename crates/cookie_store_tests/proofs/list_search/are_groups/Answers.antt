use Rattle.std.proofs.Common.{◌<◌, length, rules, tests}
use Rattle.std.proofs.lemmas.Iterator.{YieldsList-from_slice, cases_from_all}
use Rattle.cookie_store.specs.Groups.{ArePaths}
use Rattle.cookie_store_tests.proofs.GroupLists.{all_from}
use Rattle.cookie_store_tests.proofs.list_search.are_groups.Goals as goal

pub returns-then-names_differ : goal.returns-then-names_differ
returns-then-names_differ c = λ t.
    let groups = c.args.groups.now in
    let r = cases_from_all _ _ c.all.result (λ g. (0 < length g.1) × ArePaths g.0 g.1) (λ x. Unit {0}) c.all.ensures.ran
    (YieldsList-from_slice groups c.iter.ensures.rest) (λ x q k. search (rules, tests)) (λ x q k. tt) in
    let whole = rw t at r in
    (c.names_differ.ensures c.if-names_differ.true, all_from (λ g. (0 < length g.1) × ArePaths g.0 g.1) groups whole)
