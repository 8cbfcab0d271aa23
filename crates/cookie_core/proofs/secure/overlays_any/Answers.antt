use Rattle.std.proofs.Common.{rules, tests}
use Rattle.std.proofs.lemmas.Iterator.Consumers.{YieldsList-from_first}
use Rattle.std.proofs.lemmas.Iterator.Search.{any_from_yields_List}
use Rattle.cookie_words.specs.Moments.{moment_of}
use Rattle.cookie_core.specs.Overlaid.{is_overlaid}
use Rattle.cookie_core.proofs.secure.overlays_any.Goals as goal

pub returns : goal.returns
returns c =
    any_from_yields_List (is_overlaid c.args.cookie.now (moment_of c.args.now)) _ _ _ c.any.ensures.ran
    (YieldsList-from_first (λ x. x.now) (λ all. all) c.args.rows.now.rows c.iter.ensures)
    (λ x b q k. search (rules, tests))
