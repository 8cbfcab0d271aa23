-- The output of a script.
use Rattle.std.specs.Prelude.{ℕ, List, [], ◌∷◌, ◌++◌, codes, flat_map, Option, Some, None, Ok, Err}
use Rattle.std.specs.Str.Lines.{lines}
use Rattle.cookie_words.specs.Moments.{Moment, epoch}
use Rattle.cookie_psl.specs.Rules.{RuleList}
use Rattle.cookie_parts.specs.Cookie.{Row}
use Rattle.cookie_parts.specs.Domain.{domain_text}
use Rattle.cookie_parts.specs.Errors.{cookie_error_text}
use Rattle.cookie_parts.specs.declared.store_action.StoreAction.TheVariants.{Inserted, ExpiredExisting, UpdatedExisting}
use Rattle.cookie_store.specs.Contents.{Contents}
use Rattle.cookie_store.specs.Given.{given}
use Rattle.cookie_store.specs.Header.{cookie_string}
use Rattle.cookie_store.specs.Runs as Runs
use Rattle.cookie_store.specs.Runs.{Reply, Stored, Removed, Cleared, Step, step}
use Rattle.cookie_script.specs.Commands.{Command, Now, Set, Get, ListRows, Remove, Clear, command_of}

-- the store, and the current time of the script
pub record State : Type 0 where
  pub store : Contents
  pub moment : Moment

-- an empty store under a list and a limit, if there are any
abbrev pub empty : Option RuleList → Option ℕ → Contents
empty suffixes limit = record { rows = []; created = []; suffixes = suffixes; limit = limit }

-- a script starts with a store, at the epoch
abbrev pub start : Contents → State
start store = record { store = store; moment = epoch }

-- the output of a line, and the state after it
pub record LineOutcome : Type 0 where
  pub text : List ℕ
  pub state : State

-- the text of a reply
abbrev pub reply_text : Reply → List ℕ
reply_text (Stored (Ok Inserted)) = codes "inserted"
reply_text (Stored (Ok ExpiredExisting)) = codes "expired existing"
reply_text (Stored (Ok UpdatedExisting)) = codes "updated"
reply_text (Stored (Err rejection)) = codes "refused: " ++ cookie_error_text rejection
reply_text (Removed (Some row)) = codes "removed"
reply_text (Removed None) = codes "none"
reply_text Cleared = codes "cleared"

-- the Cookie header of cookies, RFC 6265 4.2.1, in the store's order
abbrev pub header_text : List Row → List ℕ
header_text [] = codes "Cookie:"
header_text (cookie ∷ cookies) = codes "Cookie: " ++ cookie_string (cookie ∷ cookies)

-- a string as a line
abbrev pub line_text : List ℕ → List ℕ
line_text text = text ++ 10 ∷ []

-- a string and a space
abbrev pub word_text : List ℕ → List ℕ
word_text text = text ++ codes " "

-- the domain, the path and the name of a row as a line, separated by single spaces
abbrev pub row_line : Row → List ℕ
row_line row = word_text (domain_text row.domain) ++ word_text row.path.text ++ line_text row.raw.name

-- all rows, one line each
abbrev pub rows_text : List Row → List ℕ
rows_text rows = flat_map row_line rows

-- the output of a step of the store, and the state after it
abbrev pub step_outcome : Step → State → LineOutcome
step_outcome step state = record { text = line_text (reply_text step.reply); state = record state { store = step.store } }

-- the output of a command, and the state after it; `bad line` if there is no command
unfoldable pub run_command : Option Command → State → LineOutcome
run_command None state = record { text = line_text (codes "bad line"); state = state }
run_command (Some (Now moment)) state = record { text = []; state = record state { moment = moment } }
run_command (Some (Set url text)) state =
    step_outcome (step (Runs.Set text url state.moment) state.store) state
run_command (Some (Get url)) state = record { text = line_text (header_text (given url state.moment state.store.rows)); state = state }
run_command (Some ListRows) state = record { text = rows_text state.store.rows; state = state }
run_command (Some (Remove key)) state = step_outcome (step (Runs.Remove key) state.store) state
run_command (Some Clear) state = step_outcome (step Runs.Clear state.store) state

-- the output of a line, and the state after it
abbrev pub run_line : List ℕ → State → LineOutcome
run_line line state = run_command (command_of line) state

-- the output of the lines, one after the other
abbrev pub outputs : List (List ℕ) → State → List ℕ
outputs [] state = []
outputs (line ∷ more) state = (run_line line state).text ++ outputs more (run_line line state).state

-- the output of a script that starts with a store and is read line by line
abbrev pub output_of : Contents → List ℕ → List ℕ
output_of store input = outputs (lines input) (start store)
