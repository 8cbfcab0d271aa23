use Rattle.cookie_forms.proofs.Shapes.{shape_read, read_shaped, shapeless_rejected}
use Rattle.cookie_forms.proofs.laws.shapes_are_read.Goals as goal

pub returns-clause-read : goal.returns-clause-read
returns-clause-read c = shape_read

pub returns-clause-only : goal.returns-clause-only
returns-clause-only c = read_shaped

pub returns-clause-errors : goal.returns-clause-errors
returns-clause-errors c = shapeless_rejected
