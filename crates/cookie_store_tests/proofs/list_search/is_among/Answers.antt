use Rattle.std.proofs.Common.{◌∙◌, bytes_eq, rules, tests}
use Rattle.std.proofs.lemmas.Iterator.{YieldsList-from_slice}
use Rattle.std.proofs.lemmas.Iterator.Search.{any_from_yields_List}
use Rattle.cookie_store_tests.proofs.GroupLists.{among_is}
use Rattle.cookie_store_tests.proofs.list_search.is_among.Goals as goal

pub returns : goal.returns
returns g c =
    let e = any_from_yields_List (λ group. bytes_eq c.args.name.now group.0) _ _ c.any.result c.any.ensures.ran
    (YieldsList-from_slice c.args.groups.now c.iter.ensures.rest) (λ x b q k. search (rules, tests)) in
    e ∙ among_is c.args.name.now c.args.groups.now
