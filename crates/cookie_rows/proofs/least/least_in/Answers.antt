use Rattle.std.proofs.Common.{◌+◌, ◌∙◌, Some, ap, arith, subst, sym, take}
use Rattle.std.proofs.lemmas.List.{length-map}
use Rattle.cookie_words.specs.Moments.{moment_of}
use Rattle.cookie_rows.specs.Eviction.{EvictionRank}
use Rattle.cookie_rows.specs.Least.{IsLeastOfGroup, lesser, stored_items}
use Rattle.cookie_rows.proofs.LeastSearch.{group_step, none_past}
use Rattle.cookie_rows.proofs.least.least_in.Goals.{in-Some, in_default}
use Rattle.cookie_rows.proofs.least.least_in.Goals as goal

pub loop-row-preserved : goal.loop-row-preserved
loop-row-preserved c =
    let order = c.args.order in
    let now = moment_of c.args.now in
    let names = c.args.names.now in
    let n = c.loop-row.row in
    elim c.match-at.branch [
      | in-Some w ↦
          let least = c.loop-row.least in
          let found = w.least-is ∙ w.lesser-least.ensures ∙ ap (λ (rank : EvictionRank). lesser least (Some (record { path = c.args.path; row = n; rank = rank }))) w.rank-rank.ensures in
          subst (IsLeastOfGroup order now c.args.path (take (n + 1) (stored_items names))) (sym found)
          (group_step order now c.args.path (stored_items names) n w.in-Some.item.now least (sym w.in-Some.ensures.item) c.loop-row.invariant)
      | in_default w ↦
          absurd (omega (arith, none_past (stored_items names) n w.in_default.ensures.item, length-map names (λ i. i.1), c.len-row-end.ensures.stored, c.loop-row-test.true))
    ]
