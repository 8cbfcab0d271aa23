-- The results of the functions that parse the lines of a list.
use Rattle.std.specs.Prelude.{◌≡◌, ℕ, true, false, List, drop, map, reverse, codes, nat_eq, Option, Some, None, option_map, Result, Ok, Err, string_bytes, if◌then◌else◌, ⊤}
use Rattle.std.specs.declared.alloc.Global.{Global}
use Rattle.std.specs.declared.string.String.{String}
use Rattle.std.specs.declared.vec.Vec.{Vec}
use Rattle.std.specs.List.{starts_with}
use Rattle.idna.specs.declared.Errors.{Errors}
use Rattle.idna.specs.declared.Errors.TheVariants.{Invalid, OutOfMemory}
use Rattle.cookie_psl.specs.ListFormat.{rule_from}
use Rattle.cookie_psl.specs.Rules.{Rule}
use Rattle.cookie_psl.specs.declared.reading.LineError.{LineError}
use Rattle.cookie_psl.specs.declared.reading.LineError.TheVariants.{Bad, Memory}
use Rattle.cookie_psl.specs.declared.reading.ParsedRule.{ParsedRule}

-- an invalid label makes the line malformed
abbrev pub label_error : Errors → LineError
label_error Invalid = Bad
label_error OutOfMemory = Memory

-- a parsed label
abbrev pub label_text : Option (String Global) → Option (List ℕ)
label_text label = option_map string_bytes label

-- the parsed labels
abbrev pub label_texts : Vec (Option (String Global)) Global → List (Option (List ℕ))
label_texts labels = map label_text labels.items

-- a parsed rule, its labels from last to first
abbrev pub rule_view : ParsedRule → Rule
rule_view rule = record { is_exception = rule.is_exception; labels = reverse (label_texts rule.labels) }

-- the rule of a line's part, an exception if it begins with `!`; None if it is malformed
abbrev pub marked_rule : List ℕ → Option Rule
marked_rule part = if starts_with nat_eq part (codes "!") then rule_from true (drop 1 part) else rule_from false part

-- unless out of memory: the view of the result is the expected one, and it is `Bad` if none is expected
abbrev pub ParsesOrMemory : {T U : Type 0} → (T → U) → Result T LineError → Option U → Type 0
ParsesOrMemory view (Ok value) expected = expected ≡ Some (view value)
ParsesOrMemory view (Err Bad) expected = expected ≡ None
ParsesOrMemory view (Err Memory) expected = ⊤

-- the same for the result of a line
abbrev pub ParsesLine : Result (Option ParsedRule) LineError → Option (Option Rule) → Type 0
ParsesLine result expected = ParsesOrMemory (option_map rule_view) result expected
