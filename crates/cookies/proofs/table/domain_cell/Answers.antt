use Rattle.std.proofs.Common.{codes, lit<, lit≤, string_bytes, subst, sym}
use Rattle.std.proofs.lemmas.Result.{IfOk-weaker}
use Rattle.std.proofs.lemmas.Str.{NoCharPasses-append}
use Rattle.cookies.specs.Escapes.{is_escaped}
use Rattle.cookies.proofs.SafeTexts.{IsSafe, one_ascii}
use Rattle.cookies.proofs.table.domain_cell.Goals as goal

pub returns-in-Suffix-clause-safe : goal.returns-in-Suffix-clause-safe
returns-in-Suffix-clause-safe c =
    IfOk-weaker c.format.result _ _
    (λ cell is. subst IsSafe (sym is) (NoCharPasses-append is_escaped (codes ".") (string_bytes c.in_ok-text.text) (one_ascii 46 (lit≤ tt) (lit< tt)) c.in_ok-text.ensures.safe))
    c.format.ensures.ok
