use Rattle.cookie_lookup.proofs.GroupsInOrder.{rows_in_any_order, same_domains, same_paths, still_groups}
use Rattle.cookie_lookup.proofs.PlaceOrder.{places_exact}
use Rattle.cookie_lookup.proofs.RowsByPlace.{rows_sorted_by_place}
use Rattle.cookie_lookup.proofs.laws.rows_by_place.Goals as goal

pub returns-clause-groups : goal.returns-clause-groups
returns-clause-groups c = still_groups

pub returns-clause-order : goal.returns-clause-order
returns-clause-order c = λ placed. (places_exact placed).total

pub returns-clause-sorted : goal.returns-clause-sorted
returns-clause-sorted c = rows_sorted_by_place

pub returns-clause-any_order : goal.returns-clause-any_order
returns-clause-any_order c = rows_in_any_order

pub returns-clause-domains : goal.returns-clause-domains
returns-clause-domains c = same_domains

pub returns-clause-paths : goal.returns-clause-paths
returns-clause-paths c = same_paths
