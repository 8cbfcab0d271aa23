use Rattle.std.proofs.Common.{map}
use Rattle.cookie_forms.specs.Saved.{saved_view}
use Rattle.cookie_serde.proofs.ParsedJson.{list_refused}
use Rattle.cookie_serde.proofs.list_format.rows_of_json.Goals as goal

pub returns-clause-failed : goal.returns-clause-failed
returns-clause-failed c =
    list_refused c.args.text.now (map saved_view c.in_ok-list.list.items) c.rows_of_list.result c.in_ok-list.ensures.saved c.rows_of_list.ensures.errors
