-- The result of a line, and its output.
use Rattle.std.specs.Prelude.{ℕ, Bool, true, false, List, [], codes}
use Rattle.cookie_parts.specs.Cookie.{Row}
use Rattle.cookie_store.specs.Given.{given}
use Rattle.cookie_store.specs.Runs as Runs
use Rattle.cookie_script.specs.Script.{State, header_text, line_text, reply_text, rows_text}
use Rattle.cookie_script.specs.declared.jar.LineResult.{LineResult}
use Rattle.cookie_script.specs.declared.jar.LineResult.TheVariants.{Nothing, BadLine, Stored, Removed, Cleared, Cookies, Rows}

-- the output, in the state after the line
abbrev pub line_result_text : LineResult → State → List ℕ
line_result_text Nothing state = []
line_result_text BadLine state = line_text (codes "bad line")
line_result_text (Stored result) state = line_text (reply_text (Runs.Stored result))
line_result_text (Removed true) state = line_text (codes "removed")
line_result_text (Removed false) state = line_text (codes "none")
line_result_text Cleared state = line_text (codes "cleared")
line_result_text (Cookies url) state = line_text (header_text (given url state.moment state.store.rows))
line_result_text Rows state = rows_text state.store.rows

-- whether the output may allocate
abbrev pub result_may_allocate : LineResult → Bool
result_may_allocate Nothing = false
result_may_allocate BadLine = false
result_may_allocate (Stored result) = false
result_may_allocate (Removed is_removed) = false
result_may_allocate Cleared = false
result_may_allocate (Cookies url) = true
result_may_allocate Rows = false

-- the cookies to be written, in the state after the line
abbrev pub cookies_to_write : LineResult → State → List Row
cookies_to_write (Cookies url) state = given url state.moment state.store.rows
cookies_to_write other state = []
