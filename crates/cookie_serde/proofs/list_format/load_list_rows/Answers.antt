use Rattle.std.proofs.Common.{inl, refl}
use Rattle.std.specs.Str.{is_utf8}
use Rattle.std.proofs.lemmas.Bool.{false_from_ne_true}
use Rattle.std.proofs.lemmas.Str.{IsUtf8-from_is_utf8, is_utf8-from_IsUtf8}
use Rattle.cookie_serde.specs.ListFormats.{ParsesTo}
use Rattle.cookie_serde.proofs.ListedRows.{list_built, list_rejected}
use Rattle.cookie_serde.proofs.list_format.load_list_rows.Goals as goal

pub returns-in-Ok-clause-built : goal.returns-in-Ok-clause-built
returns-in-Ok-clause-built g c =
    let (same, valid) = c.in-Ok.ensures.cases in
    list_built (ParsesTo c.args.format) (g.R.Source.state c.args.source.now) c.in_ok-bytes.bytes.items c.in_ok-bytes.ensures.all
    (is_utf8-from_IsUtf8 _ (rw c.deref.ensures.value at valid)) c.args.which c.list_rows.result (rw (same, c.deref.ensures.value) at c.list_rows.ensures.built)

pub returns-in-Ok-clause-failed : goal.returns-in-Ok-clause-failed
returns-in-Ok-clause-failed g c =
    let (same, valid) = c.in-Ok.ensures.cases in
    list_rejected (ParsesTo c.args.format) (g.R.Source.state c.args.source.now) c.in_ok-bytes.bytes.items c.in_ok-bytes.ensures.all
    (is_utf8-from_IsUtf8 _ (rw c.deref.ensures.value at valid)) c.list_rows.result _ c.in_ok-bytes.ensures.end c.in_ok-bytes.ensures.count (rw (same, c.deref.ensures.value) at c.list_rows.ensures.failed)

pub returns-clause-failed : goal.returns-clause-failed
returns-clause-failed g c =
    let bytes = c.in_ok-bytes.bytes.items in
    let not_utf8 = false_from_ne_true (is_utf8 bytes) (λ valid. c.in-Err.ensures.cases.0 (rw c.deref.ensures.value (IsUtf8-from_is_utf8 bytes valid))) in
    inl ((bytes, c.in_ok-bytes.ensures.all, inl (inl (not_utf8, refl))), c.in_ok-bytes.ensures.end, c.in_ok-bytes.ensures.count)
