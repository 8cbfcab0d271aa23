use Rattle.std.proofs.Common.{ℤ, rules}
use Rattle.indexmap.proofs.CallerLemmas.{filter-RetainsPairs}
use Rattle.cookie_durable.specs.Numbering.{Names, key_in}
use Rattle.cookie_durable.specs.Sweeping.{has_cookie}
use Rattle.cookie_durable.proofs.sweeping.sweep.Goals as goal

pub returns-clause-ids : goal.returns-clause-ids
returns-clause-ids c =
    filter-RetainsPairs _ (λ (e : Names × ℤ). has_cookie c.args.store.now (key_in e.0)) _ (λ k v b w g call. search rules) _ _
    c.retain.ensures.filtered
