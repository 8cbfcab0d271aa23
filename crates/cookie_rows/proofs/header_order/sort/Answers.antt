use Rattle.std.proofs.Common.{◌≡◌, ap, rules}
use Rattle.std.specs.Ordering.{is_lt}
use Rattle.std.proofs.lemmas.List.Sorted.{IsPermutation-map, answers_always}
use Rattle.cookie_rows.specs.HeaderItems.{item_order}
use Rattle.cookie_rows.proofs.HeaderItems.{refs_order, refs_sorted}
use Rattle.cookie_rows.proofs.header_order.sort.Goals as goal

pub returns-clause-moved : goal.returns-clause-moved
returns-clause-moved c = IsPermutation-map (λ r. r.now) _ _ c.sort_unstable_by.ensures.permutation

pub returns-clause-sorted : goal.returns-clause-sorted
returns-clause-sorted c = refs_sorted c.sort_unstable_by.new.self.items
    (c.sort_unstable_by.ensures.sorted (λ a b. is_lt (item_order a.now b.now)) refs_order
    (answers_always _ _ _ (λ f a r g k. let is : r ≡ item_order a.0.now.now a.1.0.now.now = search rules in ap is_lt is)))
