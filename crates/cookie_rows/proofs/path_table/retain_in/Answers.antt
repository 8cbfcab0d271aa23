use Rattle.std.proofs.Common.{rules}
use Rattle.ordered_map.specs.Entries.{entries, in_order}
use Rattle.cookie_rows.proofs.RetainedItems.{texts_retained}
use Rattle.cookie_rows.proofs.path_table.retain_in.Goals as goal

pub returns : goal.returns
returns g c = texts_retained in_order _ _ _ (λ k v b w f call. search rules) (entries c.args.groups.now) (entries c.retain.new.self) c.retain.ensures.retained
