use Rattle.cookie_forms.proofs.ReadTexts.{list_of, list_rejected}
use Rattle.cookie_forms.proofs.text_reader.list_from_text.Goals as goal

pub returns-clause-saved : goal.returns-clause-saved
returns-clause-saved c = list_of c.list_of_value.result c.json_value.result c.args.text.now (c.json_value.ensures.tree, c.json_value.ensures.errors) c.list_of_value.ensures.unparsed c.list_of_value.ensures.saved

pub returns-clause-errors : goal.returns-clause-errors
returns-clause-errors c = list_rejected c.list_of_value.result c.json_value.result c.args.text.now (c.json_value.ensures.tree, c.json_value.ensures.errors) c.list_of_value.ensures.unparsed c.list_of_value.ensures.errors
