use Rattle.std.proofs.Common.{◌∙◌, ap, subst, sym}
use Rattle.std.specs.Map.{values_of}
use Rattle.ordered_map.specs.Entries.{entries, in_order, text_at}
use Rattle.cookie_rows.specs.Items.{AreNamed}
use Rattle.cookie_rows.specs.Least.{TakesOut}
use Rattle.cookie_rows.proofs.Named.{named_removed}
use Rattle.cookie_rows.proofs.Results.{known_some, some_or_none}
use Rattle.cookie_rows.proofs.TakenOut.{found_there, taken_entry}
use Rattle.cookie_rows.proofs.name_table.remove_at_in.Goals as goal

pub returns-clause-removed : goal.returns-clause-removed
returns-clause-removed c item there =
    let rows = c.args.rows.now in
    let es = entries rows in
    subst (TakesOut item (values_of es)) (sym (ap values_of (known_some c.remove_at.result (c.remove_at.ensures.value ∙ there) c.remove_at.ensures.removed)))
    (taken_entry (text_at rows c.args.position) es item (found_there rows c.len.ensures.distinct c.args.position item (sym there)))

pub returns-clause-named : goal.returns-clause-named
returns-clause-named c =
    let rows = c.args.rows.now in
    some_or_none c.remove_at.result c.remove_at.ensures.removed c.remove_at.ensures.unchanged
    (λ is. subst AreNamed (sym is) (named_removed (text_at rows c.args.position) (entries rows) c.requires.named))
    (λ same. subst AreNamed (sym (ap in_order same)) c.requires.named)
