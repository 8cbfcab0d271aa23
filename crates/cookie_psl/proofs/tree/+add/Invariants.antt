use Rattle.std.proofs.Common.{vec_len}
use Rattle.cookie_psl.proofs.tree.+add.Given as goal

abbrev pub decreases-add : goal.decreases-add
decreases-add l = vec_len l.labels
