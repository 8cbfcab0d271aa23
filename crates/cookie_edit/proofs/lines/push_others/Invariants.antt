-- What was appended and what is kept of the rest are what was there and what is kept of the lines.
use Rattle.std.proofs.Common.{◌≡◌, ◌++◌, length, string_bytes, IsUtf8}
use Rattle.cookie_edit.proofs.EndedLines.{kept_text}
use Rattle.cookie_edit.proofs.lines.push_others.Given as goal

abbrev pub invariant-loop-line : goal.invariant-loop-line
invariant-loop-line g l = record {
  utf8 : IsUtf8 l.rest;
  text : string_bytes l.edited ++ kept_text (g.N.NamesCookies.names l.test) l.rest
      ≡ string_bytes l.fn.edited ++ kept_text (g.N.NamesCookies.names l.test) l.lines;
}

abbrev pub decreases-loop-line : goal.decreases-loop-line
decreases-loop-line g l = length l.rest
