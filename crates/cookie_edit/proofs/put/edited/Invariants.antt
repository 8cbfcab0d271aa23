-- What was appended and the rest with the new line are the file with it.
use Rattle.std.proofs.Common.{◌≡◌, ◌++◌, length, string_bytes, IsUtf8}
use Rattle.cookie_laws.specs.Rows.{has_key, key_of}
use Rattle.cookie_edit.specs.Edits.{missing_end, new_line, put_line_in, put_text}
use Rattle.cookie_edit.proofs.put.edited.Given as goal

abbrev pub invariant-loop-old : goal.invariant-loop-old
invariant-loop-old l = record {
  utf8 : IsUtf8 l.rest;
  text : string_bytes l.edited ++ put_line_in (has_key (key_of l.cookie)) (new_line l.text l.cookie) (missing_end l.text) l.rest
      ≡ put_text l.text l.cookie;
}

abbrev pub decreases-loop-old : goal.decreases-loop-old
decreases-loop-old l = length l.rest
