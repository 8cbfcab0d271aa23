-- The format of a public suffix list, after publicsuffix.org.
use Rattle.std.specs.Prelude.{ℕ, ◌+◌, ◌==◌, Bool, not, ◌&&◌, ◌||◌, nat_le, true, false, List, [], ◌∷◌, length, drop, reverse, chars, codes, bytes_eq, nat_eq, encode_utf8_all, Option, Some, None, option_and_then, option_map, Result, Ok, Err, if◌then◌else◌}
use Rattle.std.specs.Char.{is_whitespace}
use Rattle.std.specs.List.{before_first, list_any, starts_with}
use Rattle.idna.specs.Uts46.{domain_to_ascii}
use Rattle.idna.specs.declared.deny_list.TheConstants.AsciiDenyList.{EMPTY}
use Rattle.cookie_words.specs.Steps.{◌>>=◌}
use Rattle.cookie_words.specs.Strings.{pieces}
use Rattle.cookie_psl.specs.Rules.{Rule, RuleList}

-- a line is read up to its first white space
abbrev pub read_part : List ℕ → List ℕ
read_part line = encode_utf8_all (before_first is_whitespace (chars line))

-- a label in ASCII, unless it is empty or holds a dot
abbrev pub if_label : List ℕ → Option (List ℕ)
if_label ascii = if (length ascii == 0) || list_any (λ b. b == 46) ascii then None else Some ascii

-- a label of a rule: Some None for `*`, else its ASCII form by UTS #46, or None if that is not one nonempty label
unfoldable pub label_from : List ℕ → Option (Option (List ℕ))
label_from label =
    if bytes_eq label (codes "*") then Some None
    else option_map Some (option_and_then if_label (domain_to_ascii EMPTY label))

-- all labels of a rule; None if one is malformed
abbrev pub labels_from : List (List ℕ) → Option (List (Option (List ℕ)))
labels_from [] = Some []
labels_from (label ∷ more) = do
  own ← label_from label
  others ← labels_from more
  Some (own ∷ others)

-- a rule has at most 127 labels, and an exception more than one
abbrev pub if_rule : Bool → List (Option (List ℕ)) → Option Rule
if_rule is_exception labels =
    if nat_le (length labels) 127 && not (is_exception && (length labels == 1))
    then Some (record { is_exception = is_exception; labels = reverse labels }) else None

-- the rule of a string; None if it is malformed
unfoldable pub rule_from : Bool → List ℕ → Option Rule
rule_from is_exception text = option_and_then (if_rule is_exception) (labels_from (pieces 46 text))

-- a line: its rule, an exception if it begins with `!`; Some None if it is empty or a comment; None if malformed
unfoldable pub line_rule : List ℕ → Option (Option Rule)
line_rule line =
    let part = read_part line in
    if (length part == 0) || starts_with nat_eq part (codes "//") then Some None
    else option_map Some (if starts_with nat_eq part (codes "!") then rule_from true (drop 1 part) else rule_from false part)

-- the rule of a line with this number, before those of the lines after it
abbrev pub with_line : ℕ → Option (Option Rule) → Result RuleList ℕ → Result RuleList ℕ
with_line number None more = Err number
with_line number (Some None) more = more
with_line number (Some (Some rule)) (Ok rules) = Ok (rule ∷ rules)
with_line number (Some (Some rule)) (Err bad) = Err bad

-- the rules of lines, numbered from `number` on, or the number of the first malformed line
abbrev pub rules_of : ℕ → List (List ℕ) → Result RuleList ℕ
rules_of number [] = Ok []
rules_of number (line ∷ more) = with_line number (line_rule line) (rules_of (number + 1) more)

-- the rules of a list, or the number of its first malformed line, counted from 1
abbrev pub rules_from : List ℕ → Result RuleList ℕ
rules_from text = rules_of 1 (pieces 10 text)
