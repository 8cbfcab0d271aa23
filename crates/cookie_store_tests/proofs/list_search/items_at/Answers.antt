use Rattle.std.proofs.Common.{◌∙◌, sym, ap}
use Rattle.cookie_store_tests.proofs.GroupLists.{under_is}
use Rattle.cookie_store_tests.proofs.list_search.items_at.Goals as goal

pub returns : goal.returns
returns g c =
    c.items.ensures ∙ ap (λ group. group.1) c.index-groups-at.is
    ∙ sym (under_is c.args.groups.now c.args.at c.index-groups-at.result c.requires)
