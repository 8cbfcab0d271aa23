-- The rows are built from the cookies of the lines so far.
use Rattle.std.proofs.Common.{◌≡◌, List, length, take, Some}
use Rattle.std.specs.Str.Lines.{lines}
use Rattle.cookie_parts.specs.Cookie.{Row}
use Rattle.cookie_netscape.specs.Files.{rows_in_lines}
use Rattle.cookie_serde.specs.Selections.{built_from}
use Rattle.cookie_serde.proofs.netscape.rows_of_text.Given as goal

abbrev pub invariant-loop-index : goal.invariant-loop-index
invariant-loop-index l =
    (cookies : List Row) × (rows_in_lines (take (length l.yielded) (lines l.text)) ≡ Some cookies)
    × (l.rows ≡ built_from l.which cookies)
