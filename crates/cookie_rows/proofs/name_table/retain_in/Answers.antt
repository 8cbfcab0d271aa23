use Rattle.std.proofs.Common.{rules}
use Rattle.ordered_map.specs.Entries.{entries}
use Rattle.cookie_rows.proofs.RetainedItems.{named_retained, values_retained}
use Rattle.cookie_rows.proofs.name_table.retain_in.Goals as goal

pub returns-clause-retained : goal.returns-clause-retained
returns-clause-retained g c =
    values_retained _ _ _ (λ k v b w f call. search rules) (entries c.args.rows.now) (entries c.retain.new.self) c.retain.ensures.retained

pub returns-clause-named : goal.returns-clause-named
returns-clause-named g c =
    named_retained _ _ (λ k v b w f call. search rules) (entries c.args.rows.now) (entries c.retain.new.self) c.retain.ensures.retained c.requires.named
