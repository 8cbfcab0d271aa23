use Rattle.std.proofs.Common.{◌≡◌, refl, ℕ, List, None, codes}
use Rattle.cookie_script.specs.Commands.{lone_command}
use Rattle.cookie_script.proofs.OtherWords.{differ}
use Rattle.cookie_script.proofs.command.lone_command.Goals as goal

-- any other word is no command
no_command : (word : List ℕ) → (word ≡ codes "list" → ⊥) → (word ≡ codes "clear" → ⊥) → None ≡ lone_command word
unfolding lone_command
no_command word not_list not_clear = rw (differ word (codes "list") not_list, differ word (codes "clear") not_clear)

pub returns-in-list : goal.returns-in-list
unfolding lone_command
returns-in-list c = rw c.in-list.is refl

pub returns-in-clear : goal.returns-in-clear
unfolding lone_command
returns-in-clear c = rw c.in-clear.is refl

pub returns-in_default : goal.returns-in_default
returns-in_default c = no_command c.args.word.now c.in_default.not-list c.in_default.not-clear
