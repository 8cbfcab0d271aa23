use Rattle.std.proofs.Common.{◌∙◌, ap, sym}
use Rattle.std.specs.Prelude.{option_map}
use Rattle.ordered_map.specs.Entries.{entries, in_order}
use Rattle.ordered_map.proofs.ByPlace.{lookup_in_order}
use Rattle.cookie_rows.proofs.StoredPaths.{absent, lookup_texts, none_found, present, stored_position, stored_under}
use Rattle.cookie_rows.proofs.path_table.found_in.Goals as goal

pub returns-in_err-position-clause-position : goal.returns-in_err-position-clause-position
returns-in_err-position-clause-position c =
    rw c.from_residual.ensures (c.in_err-position.ensures.position ∙ stored_position c.args.path.now c.args.groups.now.by_position)

pub returns-in_err-position-clause-in_order : goal.returns-in_err-position-clause-in_order
returns-in_err-position-clause-in_order c =
    let q = c.args.path.now in
    let m = c.args.groups.now in
    rw c.from_residual.ensures
    (ap (option_map in_order) (absent q m.by_position (c.in_err-position.ensures.position ∙ stored_position q m.by_position)
    ∙ sym (lookup_in_order m.by_position c.in_err-position.ensures.distinct.by_position q)) ∙ lookup_texts in_order q (entries m))

pub returns-in-Some-clause-position : goal.returns-in-Some-clause-position
returns-in-Some-clause-position c = c.in_ok-position.ensures.position ∙ stored_position c.args.path.now c.args.groups.now.by_position

pub returns-in-Some-clause-names : goal.returns-in-Some-clause-names
returns-in-Some-clause-names c = stored_under c.args.groups.now.by_position c.in_ok-position.position c.in-Some.names.now c.in-Some.ensures.value

pub returns-in-Some-clause-in_order : goal.returns-in-Some-clause-in_order
returns-in-Some-clause-in_order c =
    let q = c.args.path.now in
    let m = c.args.groups.now in
    ap (option_map in_order) (c.in-Some.ensures.value ∙ present q m.by_position c.in_ok-position.position (c.in_ok-position.ensures.position ∙ stored_position q m.by_position)
    ∙ sym (lookup_in_order m.by_position c.in_ok-position.ensures.distinct.by_position q)) ∙ lookup_texts in_order q (entries m)

pub returns-in-None-clause-position : goal.returns-in-None-clause-position
returns-in-None-clause-position c =
    absurd (none_found c.args.path.now c.args.groups.now.by_position c.in_ok-position.position (c.in_ok-position.ensures.position ∙ stored_position c.args.path.now c.args.groups.now.by_position) c.in-None.ensures.value)

pub returns-in-None-clause-in_order : goal.returns-in-None-clause-in_order
returns-in-None-clause-in_order c =
    absurd (none_found c.args.path.now c.args.groups.now.by_position c.in_ok-position.position (c.in_ok-position.ensures.position ∙ stored_position c.args.path.now c.args.groups.now.by_position) c.in-None.ensures.value)
