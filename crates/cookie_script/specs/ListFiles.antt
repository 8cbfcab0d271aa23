-- The public suffix list of a file.
use Rattle.std.specs.Prelude.{◌≡◌, ℕ, List, Result, Ok, Err, if◌then◌else◌, ⊤}
use Rattle.std.specs.Result.{result_map_both}
use Rattle.std.specs.Str.{is_utf8}
use Rattle.cookie_psl.specs.ListFormat.{rules_from}
use Rattle.cookie_psl.specs.Rules.{RuleList, SameRules}
use Rattle.cookie_psl.specs.declared.list as Psl
use Rattle.cookie_script.specs.declared.error.MainFault.{MainFault}
use Rattle.cookie_script.specs.declared.error.MainFault.TheVariants.{CannotReadList, BadRule, Run}
use Rattle.cookie_script.specs.declared.error.RunFault.TheVariants.{Memory}

-- the rules in a file's bytes, or the error: a malformed line with its number, or bytes that are not UTF-8
unfoldable pub list_in_file : List ℕ → Result RuleList MainFault
list_in_file bytes =
    if is_utf8 bytes then result_map_both (λ rules. rules) BadRule (rules_from bytes) else Err CannotReadList

-- unless memory ran out, a list with these rules, or the error
abbrev pub ParsesListFile : Result Psl.List.List MainFault → Result RuleList MainFault → Type 0
ParsesListFile (Ok list) expected = (rules : RuleList) × (expected ≡ Ok rules) × SameRules list rules
ParsesListFile (Err (Run Memory)) expected = ⊤
ParsesListFile (Err fault) expected = expected ≡ Err fault
