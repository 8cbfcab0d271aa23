use Rattle.std.proofs.Common.{rules}
use Rattle.cookie_durable.proofs.LoadedRows.{loaded_one}
use Rattle.cookie_durable.proofs.loading.add.Goals as goal

pub returns : goal.returns
returns c =
    loaded_one c.args.loaded.now.rows _ c.in_ok-cookie.cookie c.args.loaded.now.ids.entries _ c.args.loaded.now.next c.in-Int.id _ _ c.args.row.now
    c.in_ok-cookie.ensures (search rules) c.in_ok-add_id.ensures.new c.in_ok-add_id.ensures.ids (search rules) c.in_ok-take.ensures.taken (search rules)
