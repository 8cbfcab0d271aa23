use Rattle.cookie_strict.specs.Roots.{root_of}
use Rattle.cookie_strict.proofs.SeparateCalls.{separate-secure, separate-without_suffixes}
use Rattle.cookie_strict.proofs.laws.separate.Goals as goal

pub returns : goal.returns
returns c = record {
  secure = λ rules host calls below secure. (below, separate-secure rules (root_of rules host) calls secure);
  suffixes = λ rules host calls below proper. (below, separate-without_suffixes rules (root_of rules host) calls below.1 proper);
}
