use Rattle.cookie_forms.proofs.TreesBack.{end_is_moment}
use Rattle.cookie_forms.proofs.laws.expiries_are_moments.Goals as goal

pub returns : goal.returns
returns c saved = end_is_moment saved.expires
