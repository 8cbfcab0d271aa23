-- A file that should be a public suffix list. A path, an HTML page, a JSON document or an empty file must not pass for a list
-- that protects nothing.
use Rattle.std.specs.Prelude.{◌≡◌, ◌≢◌, ℕ, ◌+◌, ◌==◌, min, Bool, not, ◌&&◌, ◌||◌, List, [], ◌∷◌, length, codes, nat_eq, Option, None, Some, Result, Ok, Err, ⊤, if◌then◌else◌}
use Rattle.std.specs.List.{list_any, position_from, starts_with}
use Rattle.cookie_words.specs.Strings.{pieces}
use Rattle.cookie_psl.specs.ListFormat.{line_rule, read_part, with_line}
use Rattle.cookie_psl.specs.Rules.{Rule, RuleList, SameRules, default_rule}
use Rattle.cookie_psl.specs.declared.list.List as psl
use Rattle.cookie_inputs.specs.declared.suffixes.SuffixesError.{SuffixesError}
use Rattle.cookie_inputs.specs.declared.suffixes.SuffixesError.TheVariants.{BadRule, NoRules, Memory}

-- the line has a rule: up to its first white space it is neither empty nor a comment
abbrev pub has_rule : List ℕ → Bool
has_rule line = not (length (read_part line) == 0) && not (starts_with nat_eq (read_part line) (codes "//"))

-- a byte of paths, HTML or JSON that no rule holds: one of `/ < { " : @ =`
abbrev pub is_foreign_byte : ℕ → Bool
is_foreign_byte b =
    (b == 47) || (b == 60) || (b == 123) || (b == 34) || (b == 58) || (b == 64) || (b == 61)

-- the line has a rule with such a byte
abbrev pub is_foreign : List ℕ → Bool
is_foreign line = has_rule line && list_any is_foreign_byte (read_part line)

-- the number of the first line that has a rule with such a byte, counted from 1
abbrev pub foreign_line : List (List ℕ) → Option ℕ
foreign_line lines = position_from is_foreign 1 lines

-- the rules that `List::from_text` reads, or the number of the first malformed line, by it or with such a byte
abbrev pub unless_foreign : Option ℕ → Result RuleList ℕ → Result RuleList ℕ
unless_foreign None read = read
unless_foreign (Some foreign) (Ok rules) = Err foreign
unless_foreign (Some foreign) (Err bad) = Err (min bad foreign)

-- the rule of a line; None if it is malformed, or has such a byte
abbrev pub file_line_rule : List ℕ → Option (Option Rule)
file_line_rule line = if is_foreign line then None else line_rule line

-- the rules of lines, numbered from `number` on, or the number of the first malformed line
abbrev pub file_rules_of : ℕ → List (List ℕ) → Result RuleList ℕ
file_rules_of number [] = Ok []
file_rules_of number (line ∷ more) = with_line number (file_line_rule line) (file_rules_of (number + 1) more)

-- unless out of memory: a list with these rules, or the number of the first malformed line
abbrev pub ParsesLines : Result psl.List SuffixesError → Result RuleList ℕ → Type 0
ParsesLines (Ok list) expected = (rules : RuleList) × (expected ≡ Ok rules) × SameRules list rules
ParsesLines (Err (BadRule line)) expected = expected ≡ Err line
ParsesLines (Err NoRules) expected = ⊥
ParsesLines (Err Memory) expected = ⊤

-- at least one rule, or the error
abbrev pub some_rules : Result RuleList ℕ → Result RuleList SuffixesError
some_rules (Ok []) = Err NoRules
some_rules (Ok (rule ∷ rules)) = Ok (rule ∷ rules)
some_rules (Err line) = Err (BadRule line)

-- the rules of a file, or the error
abbrev pub suffixes_from : List ℕ → Result RuleList SuffixesError
suffixes_from text = some_rules (file_rules_of 1 (pieces 10 text))

-- the rules and the rule `*`, which is added unless only listed suffixes are public
abbrev pub with_default : Bool → RuleList → RuleList
with_default only_listed rules = if only_listed then rules else default_rule ∷ rules

-- a list with the rules of the file, or the error; memory can run out only if a line has a rule
abbrev pub ParsesSuffixes : Bool → Result psl.List SuffixesError → Result RuleList SuffixesError → Type 0
ParsesSuffixes only_listed (Ok list) expected = (rules : RuleList) × (expected ≡ Ok rules) × SameRules list (with_default only_listed rules)
ParsesSuffixes only_listed (Err (BadRule line)) expected = expected ≡ Err (BadRule line)
ParsesSuffixes only_listed (Err NoRules) expected = expected ≡ Err NoRules
ParsesSuffixes only_listed (Err Memory) expected = expected ≢ Err NoRules
