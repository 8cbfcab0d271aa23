use Rattle.std.proofs.Common.{arith, subst, sym}
use Rattle.std.proofs.lemmas.Option.{slice_get_within}
use Rattle.cookie_rows.specs.Least.{TakesOut}
use Rattle.cookie_rows.proofs.RemovedAt.{differ_left}
use Rattle.cookie_rows.proofs.TakenOut.{taken_there}
use Rattle.cookie_rows.proofs.name_list.remove_at_among.Goals as goal

pub returns-then-position-len-clause-removed : goal.returns-then-position-len-clause-removed
returns-then-position-len-clause-removed c item there =
    let items = c.args.rows.now.items in
    subst (TakesOut item items) (sym c.remove.ensures.items) (taken_there items c.args.position item there)

pub returns-then-position-len-clause-differ : goal.returns-then-position-len-clause-differ
returns-then-position-len-clause-differ c = rw c.remove.ensures.items (differ_left c.args.rows.now.items c.args.position c.requires.differ)

pub returns-else-position-len-clause-removed : goal.returns-else-position-len-clause-removed
returns-else-position-len-clause-removed c item there =
    absurd (omega (arith, c.len.ensures, c.if-position-len.false, slice_get_within c.args.rows.now.items c.args.position item there))
