use Rattle.std.proofs.Common.{arith}
use Rattle.cookie_forms.proofs.NotPairs.{not_pair}
use Rattle.cookie_forms.proofs.value_reader.pair_in.Goals as goal

pub returns-in-empty : goal.returns-in-empty
returns-in-empty c = not_pair _ (λ h. omega arith)

pub returns-in-len3-up : goal.returns-in-len3-up
returns-in-len3-up c = not_pair _ (λ h. omega arith)
