use Rattle.std.proofs.Common.{◌≡◌, ap, sym, rules, ◌∙◌, ◌++◌, ◌∷◌, [], List, ℤ}
use Rattle.cookie_durable.proofs.GoneIds.{gone_more, kept_more}
use Rattle.cookie_durable.proofs.sweeping.find_gone.Goals as goal
use Rattle.cookie_durable.proofs.sweeping.find_gone.Goals.{then-not-is_kept+in_ok-push, else-not-is_kept}

pub loop-at-preserved : goal.loop-at-preserved
loop-at-preserved c = record {
  gone = elim c.if-not-is_kept.branch [
    | then-not-is_kept+in_ok-push w ↦
        let pushed : c.if-not-is_kept.gone.items ≡ c.loop-at.gone.items ++ c.unwrap.result.1.now ∷ [] = search rules in
        pushed ∙ ap (λ (gone : List ℤ). gone ++ c.unwrap.result.1.now ∷ []) c.loop-at.invariant.gone
        ∙ sym (gone_more c.args.store.now c.args.ids.now.entries c.loop-at.at (c.unwrap.result.0.now, c.unwrap.result.1.now)
        (search rules) (search rules))
    | else-not-is_kept w ↦
        ap (λ v. v.items) w.gone-is ∙ c.loop-at.invariant.gone
        ∙ sym (kept_more c.args.store.now c.args.ids.now.entries c.loop-at.at (c.unwrap.result.0.now, c.unwrap.result.1.now)
        (search rules) (search rules))
  ];
}
