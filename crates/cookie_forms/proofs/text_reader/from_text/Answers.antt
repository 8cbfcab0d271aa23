use Rattle.cookie_forms.proofs.ReadTexts.{saved_of, saved_rejected}
use Rattle.cookie_forms.proofs.text_reader.from_text.Goals as goal

pub returns-clause-saved : goal.returns-clause-saved
returns-clause-saved c = saved_of c.saved_of_value.result c.json_value.result c.args.text.now (c.json_value.ensures.tree, c.json_value.ensures.errors) c.saved_of_value.ensures.unparsed c.saved_of_value.ensures.saved

pub returns-clause-errors : goal.returns-clause-errors
returns-clause-errors c = saved_rejected c.saved_of_value.result c.json_value.result c.args.text.now (c.json_value.ensures.tree, c.json_value.ensures.errors) c.saved_of_value.ensures.unparsed c.saved_of_value.ensures.errors
