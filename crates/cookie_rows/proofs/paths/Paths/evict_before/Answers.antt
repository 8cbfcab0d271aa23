use Rattle.std.proofs.Common.{rules}
use Rattle.cookie_words.specs.Moments.{moment_of}
use Rattle.cookie_lookup.specs.Positions.{paths_in_order}
use Rattle.cookie_rows.specs.Eviction.{survives}
use Rattle.cookie_rows.proofs.RetainedItems.{paths_tested}
use Rattle.cookie_rows.proofs.paths.Paths.evict_before.Goals as goal

pub returns : goal.returns
returns c =
    paths_tested _ (survives c.args.order (moment_of c.args.now) c.args.first) (λ row result call. search rules) (paths_in_order c.args.self.now) (paths_in_order c.retain.new.self) c.retain.ensures
