use Rattle.std.proofs.Common.{ap, sym, ◌∙◌}
use Rattle.cookie_store_c.specs.Roots.{shard_outcome}
use Rattle.cookie_store_c.specs.declared.status.Status.TheVariants.{Done}
use Rattle.cookie_store_c.proofs.roots.cookie_store_shard.Goals as goal

pub returns-in-Ok : goal.returns-in-Ok
returns-in-Ok c = (Done, c.code.ensures, ap shard_outcome (sym c.in-Ok.is ∙ c.shard_in.ensures))
