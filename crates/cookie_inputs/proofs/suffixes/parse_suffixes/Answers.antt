use Rattle.std.proofs.Common.{ap, ◌∙◌, rules}
use Rattle.std.proofs.lemmas.Result.{err_from_is_err_and}
use Rattle.cookie_words.specs.Strings.{pieces}
use Rattle.cookie_inputs.specs.Suffixes.{file_rules_of, some_rules}
use Rattle.cookie_inputs.proofs.SomeRules.{fails, kept, no_rules, not_empty, same_default, some_rules-read}
use Rattle.cookie_inputs.proofs.suffixes.parse_suffixes.Goals as goal

pub returns-then-not-has_rules : goal.returns-then-not-has_rules
returns-then-not-has_rules c = ap some_rules (no_rules 1 (pieces 10 c.args.text.now) (search rules))

pub returns-in_err-list : goal.returns-in_err-list
returns-in_err-list c =
    let lines = pieces 10 c.args.text.now in
    let fault = err_from_is_err_and c.from_residual.result c.from_residual.ensures.1 in
    rw (fault.1, fault.2)
    (fails c.args.only_listed c.in_err-list.field-0.0 (file_rules_of 1 lines) (some_rules-read 1 lines (search rules)) c.in_err-list.ensures)

pub returns-in-Ok : goal.returns-in-Ok
returns-in-Ok c =
    let lines = pieces 10 c.args.text.now in
    let (kept_rules, read, same) = c.in_ok-list.ensures in (
      kept_rules,
      kept (file_rules_of 1 lines) kept_rules (some_rules-read 1 lines (search rules)) read,
      λ test. c.in-Ok.ensures test ∙ same_default c.args.only_listed c.in_ok-list.list kept_rules same test,
    )

pub returns-in-Err : goal.returns-in-Err
returns-in-Err c =
    let lines = pieces 10 c.args.text.now in not_empty (file_rules_of 1 lines) (some_rules-read 1 lines (search rules))
