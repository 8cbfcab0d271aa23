use Rattle.std.proofs.Common.{◌≡◌, length, take, Some}
use Rattle.std.specs.Str.Lines.{lines}
use Rattle.cookie_netscape.specs.Files.{rows_in_lines}
use Rattle.cookie_netscape.proofs.reading.from_text.Given as goal

-- The cookies are those of the lines so far.
abbrev pub invariant-loop-index : goal.invariant-loop-index
invariant-loop-index l = rows_in_lines (take (length l.yielded) (lines l.text)) ≡ Some l.cookies.items
