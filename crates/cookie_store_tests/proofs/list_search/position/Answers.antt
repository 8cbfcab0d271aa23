use Rattle.std.proofs.Common.{◌∙◌, bytes_eq, rules, tests}
use Rattle.std.proofs.lemmas.Iterator.{YieldsList-from_slice}
use Rattle.std.proofs.lemmas.Iterator.Search.{position_from_yields_List}
use Rattle.cookie_store_tests.proofs.GroupLists.{position_is}
use Rattle.cookie_store_tests.proofs.list_search.position.Goals as goal

pub returns-clause-position : goal.returns-clause-position
returns-clause-position g c =
    position_from_yields_List (λ group. bytes_eq c.args.name.now group.0) _ _ c.position.result c.position.ensures.ran
    (YieldsList-from_slice c.args.groups.now c.iter.ensures.rest) (λ x b q k. search (rules, tests))
    ∙ position_is c.args.name.now c.args.groups.now
