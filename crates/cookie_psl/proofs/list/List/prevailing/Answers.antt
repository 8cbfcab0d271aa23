use Rattle.std.proofs.Common.{arith}
use Rattle.cookie_psl.proofs.BareLabels.{bare_labels_fit}
use Rattle.cookie_psl.proofs.list.List.prevailing.Goals as goal

pub longest-exception-requires : goal.longest-exception-requires
longest-exception-requires c = rw c.without_final_dot.ensures (bare_labels_fit c.args.domain.now (omega arith))

pub longest-rule-requires : goal.longest-rule-requires
longest-rule-requires c = rw c.without_final_dot-2.ensures (bare_labels_fit c.args.domain.now (omega arith))
