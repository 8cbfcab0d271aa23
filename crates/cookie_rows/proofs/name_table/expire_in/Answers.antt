use Rattle.std.proofs.Common.{◌∙◌, sym, ap, subst}
use Rattle.std.specs.Map.{values_of, set_value}
use Rattle.ordered_map.specs.Entries.{entries}
use Rattle.cookie_rows.specs.Items.{AreNamed}
use Rattle.cookie_rows.proofs.Named.{at_text, named_expired, expire_set, expire_none}
use Rattle.cookie_rows.proofs.Results.{known_some}
use Rattle.cookie_rows.proofs.name_table.expire_in.Goals as goal

pub returns-in-Some-clause-expired_row : goal.returns-in-Some-clause-expired_row
returns-in-Some-clause-expired_row c =
    let es = entries c.args.rows.now in
    let is = (known_some c.get_mut.result c.in-Some.is (c.get_mut.follows.holds c.expire.new.self)).written ∙ ap (set_value (at_text c.args.name.now) es) c.expire.ensures in
    ap values_of is ∙ expire_set c.args.name.now c.in-Some.row.now es c.requires.named c.in-Some.ensures.value

pub returns-in-Some-clause-named : goal.returns-in-Some-clause-named
returns-in-Some-clause-named c =
    let es = entries c.args.rows.now in
    let is = (known_some c.get_mut.result c.in-Some.is (c.get_mut.follows.holds c.expire.new.self)).written ∙ ap (set_value (at_text c.args.name.now) es) c.expire.ensures in
    subst AreNamed (sym is) (named_expired c.args.name.now c.in-Some.row.now es c.requires.named c.in-Some.ensures.value)

pub returns-in-None-clause-expired_row : goal.returns-in-None-clause-expired_row
returns-in-None-clause-expired_row c =
    ap (λ m. values_of (entries m)) c.get_mut.follows.holds-at-none ∙ expire_none c.args.name.now (entries c.args.rows.now) c.requires.named c.in-None.ensures.value

pub returns-in-None-clause-named : goal.returns-in-None-clause-named
returns-in-None-clause-named c = subst AreNamed (sym (ap entries c.get_mut.follows.holds-at-none)) c.requires.named
