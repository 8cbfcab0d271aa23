use Rattle.std.proofs.Common.{◌∙◌, [], ◌∷◌, ◌++◌, List, map, ap, append-nil, append_assoc, sym}
use Rattle.cookie_words.specs.Moments.{moment_of}
use Rattle.cookie_rows.specs.Eviction.{EvictionRank, rank_of}
use Rattle.cookie_rows.specs.Items.{Item}
use Rattle.cookie_rows.proofs.boxed.push_ranks.Goals as goal

pub loop-row-preserved : goal.loop-row-preserved
loop-row-preserved c =
    let rank = rank_of c.args.order (moment_of c.args.now) in
    let before = c.loop-row.ranks.items in
    let rest : List Item = c.next.new.self in
    record {
      pushed = ap (λ ts. ts ++ map rank rest) (c.in_ok-push.ensures.items ∙ ap (λ (t : EvictionRank). before ++ t ∷ []) c.rank.ensures)
          ∙ append_assoc before (rank c.in-Some.row.now ∷ []) (map rank rest)
          ∙ ap (λ (rows : List Item). before ++ map rank rows) (sym c.in-Some.ensures.steps) ∙ c.loop-row.invariant.pushed;
    }

pub returns : goal.returns
returns c =
    let rank = rank_of c.args.order (moment_of c.args.now) in
    let pushed = c.loop-row.ranks.items in
    sym (append-nil pushed) ∙ ap (λ (rows : List Item). pushed ++ map rank rows) (sym c.in-None.ensures.steps.0) ∙ c.loop-row.invariant.pushed
    ∙ ap (λ (rows : List Item). c.args.ranks.now.items ++ map rank rows) (c.into_iter-row-iterator.ensures.into_iter_gives ∙ c.rows-row-items.ensures)
