-- If a command may allocate, so may its line.
use Rattle.std.proofs.Common.{◌≡◌, ℕ, Bool, true, false, cond, ◌&&◌, List, Option, Some, None, option_and_then, option_map, is_some, refl, bytes_eq, codes}
use Rattle.std.specs.Option.{option_map_or}
use Rattle.std.specs.Str.{is_utf8}
use Rattle.cookie_forms.specs.MomentText.{parsed_moment}
use Rattle.cookie_parts.specs.Hosts.{url_at}
use Rattle.cookie_script.specs.Commands.{Command, Now, Get, ListRows, Clear, command_may_allocate, command_of, first_word, lone_command, may_allocate, one_word, remove_command, set_command, text_command, verb_command, verb_may_allocate}

-- a command without a URL allocates nothing
without_url : {X : Type 0} (f : X → Command) → ((x : X) → command_may_allocate (f x) ≡ false) → (o : Option X) (command : Command)
    → option_map f o ≡ Some command → command_may_allocate command ≡ false
without_url f none None command e = cc
without_url f none (Some x) command e = let same : f x ≡ command = cc in rw (← same) (none x)

-- `now` allocates nothing
now_allocates_nothing : (text : List ℕ) (command : Command) → option_map Now (parsed_moment text) ≡ Some command
    → command_may_allocate command ≡ false
now_allocates_nothing text command e = without_url Now (λ moment. refl) (parsed_moment text) command e

-- `remove` allocates nothing
remove_allocates_nothing : (words : Option (List ℕ × List ℕ)) (command : Command) → option_and_then remove_command words ≡ Some command
    → command_may_allocate command ≡ false
remove_allocates_nothing None command e = cc
remove_allocates_nothing (Some words) command e = without_url _ (λ others. refl) (first_word words.1) command e

-- `set` is followed by two words
set_words : (words : Option (List ℕ × List ℕ)) (command : Command) → option_and_then set_command words ≡ Some command
    → is_some words ≡ true
set_words None command e = cc
set_words (Some words) command e = refl

-- `get` is followed by one word
get_word : (word : Option (List ℕ)) (command : Command) → option_map Get (option_and_then url_at word) ≡ Some command
    → is_some word ≡ true
get_word None command e = cc
get_word (Some word) command e = refl

-- one of four commands, by the verb
by_verb : (now set get remove : Bool) (of_now of_set of_get of_remove : Option Command) (set_has get_has : Bool)
    → (command : Command) → (of_now ≡ Some command → command_may_allocate command ≡ false) → (of_set ≡ Some command → set_has ≡ true)
    → (of_get ≡ Some command → get_has ≡ true) → (of_remove ≡ Some command → command_may_allocate command ≡ false)
    → cond now of_now (cond set of_set (cond get of_get (cond remove of_remove None))) ≡ Some command
    → command_may_allocate command ≡ true → cond set set_has (cond get get_has false) ≡ true
by_verb true set get remove a b c d s g command ha hb hc hd e want = let none = ha e in cc
by_verb false true get remove a b c d s g command ha hb hc hd e want = hb e
by_verb false false true remove a b c d s g command ha hb hc hd e want = hc e
by_verb false false false true a b c d s g command ha hb hc hd e want = let none = hd e in cc
by_verb false false false false a b c d s g command ha hb hc hd e want = cc

-- the command of a verb that may allocate
verb_allocates : (words : List ℕ × List ℕ) (command : Command) → verb_command words ≡ Some command → command_may_allocate command ≡ true
    → verb_may_allocate words ≡ true
unfolding verb_command verb_may_allocate
verb_allocates words command e want =
    by_verb (bytes_eq words.0 (codes "now")) (bytes_eq words.0 (codes "set")) (bytes_eq words.0 (codes "get"))
    (bytes_eq words.0 (codes "remove"))
    (option_map Now (parsed_moment words.1)) (option_and_then set_command (first_word words.1))
    (option_map Get (option_and_then url_at (one_word words.1))) (option_and_then remove_command (first_word words.1))
    (is_some (first_word words.1)) (is_some (one_word words.1)) command
    (now_allocates_nothing words.1 command) (set_words (first_word words.1) command) (get_word (one_word words.1) command)
    (remove_allocates_nothing (first_word words.1) command) e want

-- one of two commands, by the word
by_word : (list clear : Bool) (command : Command) → cond list (Some ListRows) (cond clear (Some Clear) None) ≡ Some command
    → command_may_allocate command ≡ false
by_word true clear command e = let same : ListRows ≡ command = cc in rw (← same) refl
by_word false true command e = let same : Clear ≡ command = cc in rw (← same) refl
by_word false false command e = cc

-- a command of one word allocates nothing
lone_allocates_nothing : (word : List ℕ) (command : Command) → lone_command word ≡ Some command → command_may_allocate command ≡ false
unfolding lone_command
lone_allocates_nothing word command e = by_word (bytes_eq word (codes "list")) (bytes_eq word (codes "clear")) command e

-- the command of a string that may allocate
by_words : (utf8 : Bool) (line : List ℕ) (words : Option (List ℕ × List ℕ)) (command : Command)
    → cond utf8 (text_command line words) None ≡ Some command → command_may_allocate command ≡ true
    → (utf8 && option_map_or verb_may_allocate words false) ≡ true
by_words false line words command e want = cc
by_words true line None command e want = let none = lone_allocates_nothing line command e in cc
by_words true line (Some words) command e want = verb_allocates words command e want

-- if the command of a line may allocate, so may the line
pub line_allocates : (line : List ℕ) (command : Command) → command_of line ≡ Some command → command_may_allocate command ≡ true
    → may_allocate line ≡ true
unfolding command_of may_allocate
line_allocates line command e want = by_words (is_utf8 line) line (first_word line) command e want
