use Rattle.cookie_forms.proofs.ListShapes.{list_shape_read, list_read_shaped, list_shapeless_rejected}
use Rattle.cookie_forms.proofs.laws.list_shapes_are_read.Goals as goal

pub returns-clause-read : goal.returns-clause-read
returns-clause-read c = list_shape_read

pub returns-clause-only : goal.returns-clause-only
returns-clause-only c = list_read_shaped

pub returns-clause-errors : goal.returns-clause-errors
returns-clause-errors c = list_shapeless_rejected
