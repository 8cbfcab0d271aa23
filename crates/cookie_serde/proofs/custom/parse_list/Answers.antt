use Rattle.std.proofs.Common.{inl, refl}
use Rattle.std.specs.Fn.{FnReturnsAt}
use Rattle.std.proofs.lemmas.Bool.{false_from_ne_true}
use Rattle.std.proofs.lemmas.Fn.{says_at}
use Rattle.std.proofs.lemmas.Str.{IsUtf8-from_is_utf8, is_utf8-from_IsUtf8}
use Rattle.cookie_serde.proofs.ListedRows.{parsed_at_once, rejected_at_once}
use Rattle.cookie_serde.proofs.custom.parse_list.Goals as goal

pub returns-in-Ok-clause-parsed : goal.returns-in-Ok-clause-parsed
returns-in-Ok-clause-parsed g c =
    let (same, valid) = c.in-Ok.ensures.cases in
    let answers = says_at g.F.Fn c.cookies_of.ensures refl in
    parsed_at_once (FnReturnsAt g.F.Fn c.args.cookies_of.now) c.args.bytes.now c.cookies_of.result (is_utf8-from_IsUtf8 _ valid)
    (rw same at answers)

pub returns-in-Ok-clause-errors : goal.returns-in-Ok-clause-errors
returns-in-Ok-clause-errors g c =
    let (same, valid) = c.in-Ok.ensures.cases in
    let answers = says_at g.F.Fn c.cookies_of.ensures refl in
    rejected_at_once (FnReturnsAt g.F.Fn c.args.cookies_of.now) c.args.bytes.now c.cookies_of.result (is_utf8-from_IsUtf8 _ valid)
    (rw same at answers)

pub returns-in-Err-clause-errors : goal.returns-in-Err-clause-errors
returns-in-Err-clause-errors g c =
    let bytes = c.args.bytes.now in
    inl (false_from_ne_true _ (λ valid. c.in-Err.ensures.cases.0 (IsUtf8-from_is_utf8 bytes valid)), refl)
