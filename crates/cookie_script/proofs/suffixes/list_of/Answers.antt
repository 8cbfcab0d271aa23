use Rattle.std.proofs.Common.{◌≡◌, ◌∙◌, ap, sym, subst, ℕ, List, Result, Ok, Err, false, true}
use Rattle.std.specs.Result.{result_map_both}
use Rattle.std.specs.Str.{IsUtf8, is_utf8}
use Rattle.std.proofs.lemmas.Bool.{false_from_ne_true}
use Rattle.std.proofs.lemmas.Str.{IsUtf8-from_is_utf8, is_utf8-from_IsUtf8}
use Rattle.cookie_psl.specs.ParsedLists as Psl
use Rattle.cookie_psl.specs.ListFormat.{rules_from}
use Rattle.cookie_psl.specs.Rules.{RuleList}
use Rattle.cookie_psl.specs.declared.error.ListError.{ListError}
use Rattle.cookie_psl.specs.declared.error.ListError.TheVariants as ListCase
use Rattle.cookie_psl.specs.declared.list as Declared
use Rattle.cookie_script.specs.Errors.{main_error_of_list}
use Rattle.cookie_script.specs.ListFiles.{list_in_file, ParsesListFile}
use Rattle.cookie_script.specs.declared.error.MainFault.{MainFault}
use Rattle.cookie_script.specs.declared.error.MainFault.TheVariants.{CannotReadList, BadRule}
use Rattle.cookie_script.proofs.suffixes.list_of.Goals as goal

-- bytes that are not UTF-8 are no list
not_text : (bytes : List ℕ) → (IsUtf8 bytes → ⊥) → list_in_file bytes ≡ Err CannotReadList
unfolding list_in_file
not_text bytes no_text = rw (false_from_ne_true _ (λ valid. no_text (IsUtf8-from_is_utf8 bytes valid)))

-- a string has its rules, or a malformed line
of_text : (bytes text : List ℕ) → text ≡ bytes → IsUtf8 bytes → list_in_file bytes ≡ result_map_both (λ rules. rules) BadRule (rules_from text)
unfolding list_in_file
of_text bytes text same valid = rw (is_utf8-from_IsUtf8 bytes valid, same)

-- a string is UTF-8
no_other : (bytes : List ℕ) → IsUtf8 bytes → is_utf8 bytes ≡ false → ⊥
no_other bytes valid other = let is : is_utf8 bytes ≡ true = is_utf8-from_IsUtf8 bytes valid in cc

-- what was parsed is the list, or the error of the program for its error
of_read : (read : Result Declared.List.List ListError) (rules : Result RuleList ℕ) (expected : Result RuleList MainFault)
    → Psl.ParsesList read rules → expected ≡ result_map_both (λ rules. rules) BadRule rules → ParsesListFile (result_map_both (λ list. list) main_error_of_list read) expected
of_read (Ok list) rules expected (given, is, same) answered = (given, answered ∙ ap (result_map_both (λ rules. rules) BadRule) is, same)
of_read (Err (ListCase.BadRule line)) rules expected given answered = answered ∙ ap (result_map_both (λ rules. rules) BadRule) given
of_read (Err ListCase.Memory) rules expected given answered = tt

pub returns-in_default-clause-value : goal.returns-in_default-clause-value
returns-in_default-clause-value c = not_text _ c.in_default.ensures.cases.0

pub returns-clause-value : goal.returns-clause-value
returns-clause-value c =
    subst (λ parsed. ParsesListFile parsed (list_in_file c.args.bytes.now)) (sym c.list_or_error.ensures)
    (of_read c.from_text.result (rules_from c.in-Ok.text.now) (list_in_file c.args.bytes.now) c.from_text.ensures
    (of_text c.args.bytes.now _ c.in-Ok.ensures.cases.0 c.in-Ok.ensures.cases.1))

pub returns-clause-utf8 : goal.returns-clause-utf8
returns-clause-utf8 c = λ other. absurd (no_other _ c.in-Ok.ensures.cases.1 other)
