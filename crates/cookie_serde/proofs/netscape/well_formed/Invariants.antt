-- The rows are built from the cookies of the lines so far that are not malformed, and the numbers are those of the others.
use Rattle.std.proofs.Common.{◌≡◌, length, take}
use Rattle.std.specs.Str.Lines.{lines}
use Rattle.cookie_netscape.specs.Files.{malformed_from, well_formed_rows}
use Rattle.cookie_serde.specs.Selections.{built_from}
use Rattle.cookie_serde.proofs.netscape.well_formed.Given as goal

abbrev pub invariant-loop-index : goal.invariant-loop-index
invariant-loop-index l = record {
  rows : l.rows ≡ built_from l.which (well_formed_rows (take (length l.yielded) (lines l.text)));
  numbers : l.malformed.items ≡ malformed_from 1 (take (length l.yielded) (lines l.text));
}
