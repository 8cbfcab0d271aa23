use Rattle.std.proofs.Common.{◌≡◌, ℕ, List, None, codes}
use Rattle.cookie_script.specs.Commands.{verb_command, verb_may_allocate}
use Rattle.cookie_script.proofs.OtherWords.{differ}
use Rattle.cookie_script.proofs.command.verb_command.Goals as goal

-- any other verb is no command
no_command : (verb rest : List ℕ) → (verb ≡ codes "now" → ⊥) → (verb ≡ codes "set" → ⊥) → (verb ≡ codes "get" → ⊥)
    → (verb ≡ codes "remove" → ⊥) → None ≡ verb_command (verb, rest)
unfolding verb_command
no_command verb rest not_now not_set not_get not_remove =
    rw (differ verb (codes "now") not_now, differ verb (codes "set") not_set, differ verb (codes "get") not_get, differ verb (codes "remove") not_remove)

pub returns-in-now-clause-value : goal.returns-in-now-clause-value
unfolding verb_command
returns-in-now-clause-value c = rw c.in-now.is c.now_command.ensures

pub returns-in-set-clause-value : goal.returns-in-set-clause-value
unfolding verb_command
returns-in-set-clause-value c = rw c.in-set.is c.set_command.ensures.value

pub returns-in-get-clause-value : goal.returns-in-get-clause-value
unfolding verb_command
returns-in-get-clause-value c = rw c.in-get.is c.get_command.ensures.value

pub returns-in-remove-clause-value : goal.returns-in-remove-clause-value
unfolding verb_command
returns-in-remove-clause-value c = rw c.in-remove.is c.remove_command.ensures

pub returns-in_default-clause-value : goal.returns-in_default-clause-value
returns-in_default-clause-value c =
    no_command c.args.verb.now c.args.rest.now c.in_default.not-now c.in_default.not-set c.in_default.not-get c.in_default.not-remove

pub returns-in-set-clause-memory : goal.returns-in-set-clause-memory
unfolding verb_may_allocate
returns-in-set-clause-memory c = rw c.in-set.is c.set_command.ensures.memory

pub returns-in-get-clause-memory : goal.returns-in-get-clause-memory
unfolding verb_may_allocate
returns-in-get-clause-memory c = rw c.in-get.is c.get_command.ensures.memory
