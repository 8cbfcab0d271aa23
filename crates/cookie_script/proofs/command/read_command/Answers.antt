use Rattle.std.proofs.Common.{◌≡◌, ℕ, List, Option, Some, None}
use Rattle.std.specs.Str.{IsUtf8}
use Rattle.std.proofs.lemmas.Bool.{false_from_ne_true}
use Rattle.std.proofs.lemmas.Str.{IsUtf8-from_is_utf8, is_utf8-from_IsUtf8}
use Rattle.cookie_script.specs.Commands.{command_of, first_word, may_allocate, text_command, verb_may_allocate}
use Rattle.cookie_script.proofs.command.read_command.Goals as goal

-- bytes that are not UTF-8 are a bad line
not_text : (line : List ℕ) → (IsUtf8 line → ⊥) → None ≡ command_of line
unfolding command_of
not_text line no_text = rw (false_from_ne_true _ (λ valid. no_text (IsUtf8-from_is_utf8 line valid)))

-- the command of a string is that of its first word and the rest
command_of_words : (line text : List ℕ) (words : Option (List ℕ × List ℕ)) → text ≡ line → IsUtf8 line → words ≡ first_word text
    → text_command text words ≡ command_of line
unfolding command_of
command_of_words line text words same valid cut = rw (is_utf8-from_IsUtf8 line valid, ← same, ← cut)

-- a string may allocate if its first word and the rest may
may_allocate_of_words : (line text : List ℕ) (words : List ℕ × List ℕ) → text ≡ line → IsUtf8 line → Some words ≡ first_word text
    → may_allocate line ≡ verb_may_allocate words
unfolding may_allocate
may_allocate_of_words line text words same valid cut = rw (is_utf8-from_IsUtf8 line valid, ← same, ← cut)

pub returns-in_default-clause-value : goal.returns-in_default-clause-value
returns-in_default-clause-value c = not_text _ c.in_default.ensures.cases.0

pub returns-in-Some-clause-value : goal.returns-in-Some-clause-value
returns-in-Some-clause-value c =
    rw (← command_of_words c.args.line.now c.in-Ok.text.now _ c.in-Ok.ensures.cases.0 c.in-Ok.ensures.cases.1 c.in-Some.ensures)
    c.verb_command.ensures.value

pub returns-in-None-clause-value : goal.returns-in-None-clause-value
returns-in-None-clause-value c =
    rw (← command_of_words c.args.line.now c.in-Ok.text.now _ c.in-Ok.ensures.cases.0 c.in-Ok.ensures.cases.1 c.in-None.ensures)
    c.lone_command.ensures

pub returns-in-Some-clause-memory : goal.returns-in-Some-clause-memory
returns-in-Some-clause-memory c =
    rw (may_allocate_of_words c.args.line.now c.in-Ok.text.now _ c.in-Ok.ensures.cases.0 c.in-Ok.ensures.cases.1 c.in-Some.ensures)
    c.verb_command.ensures.memory
