-- The views of a command and of two parts of a string in contracts.
use Rattle.std.specs.Prelude.{ℕ, List}
use Rattle.std.specs.Borrow.{Bor}
use Rattle.cookie_words.specs.Moments.{moment_of}
use Rattle.cookie_store.specs.Rows.{key_at}
use Rattle.cookie_script.specs.Commands as Spec
use Rattle.cookie_script.specs.declared.command.Command.{Command}
use Rattle.cookie_script.specs.declared.command.Command.TheVariants.{Now, Set, Get, ListRows, Remove, Clear}

-- a `Command` as contracts see it
abbrev pub command_view : Command → Spec.Command
command_view (Now moment) = Spec.Now (moment_of moment)
command_view (Set url text) = Spec.Set url text.now
command_view (Get url) = Spec.Get url
command_view ListRows = Spec.ListRows
command_view (Remove domain path name) = Spec.Remove (key_at domain.now path.now name.now)
command_view Clear = Spec.Clear

-- two borrowed strings as contracts see them
abbrev pub words_view : Bor (List ℕ) × Bor (List ℕ) → List ℕ × List ℕ
words_view words = (words.0.now, words.1.now)
