use Rattle.std.proofs.Common.{[], ◌∷◌, ◌++◌}
use Rattle.cookie_netscape.proofs.host.without_brackets.Goals as goal

pub returns-in_err-strip_prefix : goal.returns-in_err-strip_prefix
returns-in_err-strip_prefix c =
    rw c.from_residual.ensures (λ inner is. (rw c.in_err-strip_prefix.was at c.strip_prefix.ensures.cases) (inner ++ 93 ∷ []) is)
