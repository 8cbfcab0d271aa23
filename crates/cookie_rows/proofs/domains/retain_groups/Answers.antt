use Rattle.std.proofs.Common.{rules}
use Rattle.ordered_map.specs.Entries.{entries}
use Rattle.cookie_lookup.specs.Positions.{paths_in_order}
use Rattle.cookie_rows.proofs.RetainedItems.{texts_retained}
use Rattle.cookie_rows.proofs.domains.retain_groups.Goals as goal

pub returns : goal.returns
returns g c = texts_retained paths_in_order _ _ _ (λ k v b w f call. search rules) (entries c.args.groups.now) (entries c.retain.new.self) c.retain.ensures.retained
