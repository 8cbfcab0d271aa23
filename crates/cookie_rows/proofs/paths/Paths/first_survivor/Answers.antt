use Rattle.std.proofs.Common.{◌∙◌, ◌++◌, ◌∷◌, [], ap, arith, length, subst, IsPermutation}
use Rattle.std.proofs.lemmas.List.{length_push}
use Rattle.cookie_words.specs.Moments.{moment_of}
use Rattle.cookie_lookup.specs.Positions.{paths_in_order}
use Rattle.cookie_rows.specs.Eviction.{rank_of, ranks_of}
use Rattle.cookie_rows.proofs.ChosenRank.{first_between}
use Rattle.cookie_rows.proofs.LeastEvicted.{count_ranks}
use Rattle.cookie_rows.proofs.paths.Paths.first_survivor.Goals as goal

pub overflow_sub-place : goal.overflow_sub-place
overflow_sub-place c =
    omega (arith, ap length c.in_ok-ranks.ensures, count_ranks c.args.order (moment_of c.args.now) (paths_in_order c.args.self.now))

pub returns-clause-first : goal.returns-clause-first
returns-clause-first c =
    let now = moment_of c.args.now in
    let rank = rank_of c.args.order now c.args.row.now in
    let split = c.select_nth_unstable-first.result in
    let all = split.0.now ++ split.1.now ∷ split.2.now in
    let pushed = c.deref_mut.ensures.value ∙ c.in_ok-push.ensures.items ∙ ap (λ t. c.in_ok-ranks.ranks.items ++ t ∷ []) c.rank.ensures ∙ ap (λ ts. ts ++ rank ∷ []) c.in_ok-ranks.ensures in
    first_between split.0.now split.1.now split.2.now c.args.limit c.args.order now rank (paths_in_order c.args.self.now)
    (subst (λ ts. IsPermutation ts all) pushed c.select_nth_unstable-first.ensures.permutation)
    c.select_nth_unstable-first.ensures.partitioned
    (omega (arith, ap length pushed, length_push (ranks_of c.args.order now (paths_in_order c.args.self.now)) rank, count_ranks c.args.order now (paths_in_order c.args.self.now)))

pub returns-clause-count : goal.returns-clause-count
returns-clause-count c =
    omega (arith, ap length c.in_ok-push.ensures.items, length_push c.in_ok-ranks.ranks.items c.rank.result, ap length c.in_ok-ranks.ensures, count_ranks c.args.order (moment_of c.args.now) (paths_in_order c.args.self.now))
