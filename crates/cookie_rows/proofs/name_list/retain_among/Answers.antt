use Rattle.std.proofs.Common.{rules}
use Rattle.cookie_rows.proofs.RetainedItems.{differ_retained, list_retained}
use Rattle.cookie_rows.proofs.name_list.retain_among.Goals as goal

pub returns-clause-retained : goal.returns-clause-retained
returns-clause-retained g c =
    list_retained _ _ _ (λ x b f call. search rules) c.args.rows.now.items c.retain.new.self.items c.retain.ensures.filtered

pub returns-clause-differ : goal.returns-clause-differ
returns-clause-differ g c = differ_retained _ c.args.rows.now.items c.retain.new.self.items (returns-clause-retained g c) c.requires.differ
