use Rattle.std.proofs.Common.{inl, refl}
use Rattle.std.specs.Fn.{FnReturnsAt}
use Rattle.std.proofs.lemmas.Bool.{false_from_ne_true}
use Rattle.std.proofs.lemmas.Fn.{says_at}
use Rattle.std.proofs.lemmas.Str.{IsUtf8-from_is_utf8, is_utf8-from_IsUtf8}
use Rattle.cookie_serde.proofs.LoadedLines.{created, refused}
use Rattle.cookie_serde.proofs.loading.parse_line.Goals as goal

pub returns-in-Ok-clause-parsed : goal.returns-in-Ok-clause-parsed
returns-in-Ok-clause-parsed g c =
    let (same, valid) = c.in-Ok.ensures.cases in
    let answers = says_at g.F.Fn c.cookie_of.ensures refl in
    created (FnReturnsAt g.F.Fn c.args.cookie_of.now) c.args.line.now c.cookie_of.result (is_utf8-from_IsUtf8 _ valid)
    (rw same at answers)

pub returns-in-Ok-clause-errors : goal.returns-in-Ok-clause-errors
returns-in-Ok-clause-errors g c =
    let (same, valid) = c.in-Ok.ensures.cases in
    let answers = says_at g.F.Fn c.cookie_of.ensures refl in
    refused (FnReturnsAt g.F.Fn c.args.cookie_of.now) c.args.line.now c.cookie_of.result (is_utf8-from_IsUtf8 _ valid)
    (rw same at answers)

pub returns-in-Err-clause-errors : goal.returns-in-Err-clause-errors
returns-in-Err-clause-errors g c =
    let line = c.args.line.now in
    inl (false_from_ne_true _ (λ valid. c.in-Err.ensures.cases.0 (IsUtf8-from_is_utf8 line valid)), refl)
