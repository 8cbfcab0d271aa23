use Rattle.std.proofs.Common.{◌∙◌, Some, ap, arith, map, sym}
use Rattle.std.specs.Prelude.{option_map}
use Rattle.std.proofs.lemmas.List.{length-map}
use Rattle.std.proofs.lemmas.Option.{slice_get_within}
use Rattle.cookie_rows.specs.Items.{Item}
use Rattle.cookie_rows.proofs.StoredAt.{row_there}
use Rattle.cookie_rows.proofs.names.Names.row.Goals as goal

pub returns-in-Some-clause-cookie : goal.returns-in-Some-clause-cookie
returns-in-Some-clause-cookie c =
    ap Some c.cookie.ensures ∙ ap (option_map (λ (item : Item). item.row)) c.in-Some.ensures.item ∙ row_there c.args.self.now c.args.position

pub returns-in-Some-clause-room : goal.returns-in-Some-clause-room
returns-in-Some-clause-room c =
    let now = c.args.self.now in
    omega (arith, c.len-len.ensures.small, c.len-len.ensures.stored, slice_get_within (map (λ i. i.1) now) c.args.position c.in-Some.row.now (sym c.in-Some.ensures.item), length-map now (λ i. i.1))

pub returns-in-None-clause-cookie : goal.returns-in-None-clause-cookie
returns-in-None-clause-cookie c = ap (option_map (λ (item : Item). item.row)) c.in-None.ensures.item ∙ row_there c.args.self.now c.args.position
