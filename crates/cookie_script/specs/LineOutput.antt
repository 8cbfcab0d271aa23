-- The output of a line, and how it is buffered.
use Rattle.std.specs.Prelude.{◌≡◌, ℕ, ◌+◌, ◌≤◌, List, [], ◌++◌, Result, IsOk, OnOk, length, map}
use Rattle.cookie_device.specs.Device.{AppendsPrefix, CountsFailure, Sends, SinkState}
use Rattle.cookie_script.specs.Script.{header_text, line_text, rows_text}
use Rattle.cookie_script.specs.declared.line_output.LineOutput.{LineOutput}
use Rattle.cookie_script.specs.declared.line_output.LineOutput.TheVariants.{Nothing, Line, Header, Rows}

-- the bytes of the output of a line
abbrev pub line_output_text : LineOutput → List ℕ
line_output_text Nothing = []
line_output_text (Line mark text) = line_text (mark.now ++ text.now)
line_output_text (Header cookies) = line_text (header_text (map (λ c. c.now) cookies.items))
line_output_text (Rows rows) = rows_text rows

-- The buffered bytes and the text were written, except what is buffered now; if both fit the buffer, nothing was
-- written. If a write failed, a prefix of them was written.
pub record Gathers {T E : Type 0} (outcome : Result T E) (old new : SinkState) (before after text : List ℕ) : Type 0 where
  pub whole : OnOk outcome (Sends old.contents new.contents (before ++ text) after)
  pub part : AppendsPrefix old.contents new.contents (before ++ text)
  pub buffered : length before + length text ≤ 65_536 → IsOk outcome × (after ≡ before ++ text)
  pub count : CountsFailure outcome old.failed new.failed
