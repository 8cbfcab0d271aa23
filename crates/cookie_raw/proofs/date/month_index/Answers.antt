-- The names in the code are those of the definition.
use Rattle.std.proofs.Common.{take, rules, tests}
use Rattle.std.specs.Str.{str_eq_ignore_ascii_case}
use Rattle.std.proofs.lemmas.Iterator.{YieldsList-from_slice}
use Rattle.std.proofs.lemmas.Iterator.Search.{position_from_yields_List}
use Rattle.cookie_raw.specs.CookieDate.{month_names}
use Rattle.cookie_raw.proofs.date.month_index.Goals as goal

pub returns-clause-value : goal.returns-clause-value
returns-clause-value c =
    position_from_yields_List (str_eq_ignore_ascii_case (take 3 c.args.token.now)) _ _ c.position.result c.position.ensures.ran
    (YieldsList-from_slice month_names c.iter.ensures.rest) (λ x b q k. search (rules, tests))
