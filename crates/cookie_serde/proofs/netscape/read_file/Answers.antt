use Rattle.std.proofs.Common.{ap, inl, refl, subst, sym}
use Rattle.std.specs.Str.{is_utf8}
use Rattle.std.proofs.lemmas.Bool.{false_from_ne_true, false≢true}
use Rattle.std.proofs.lemmas.Str.{IsUtf8-from_is_utf8, IsUtf8-string_bytes, is_utf8-from_IsUtf8}
use Rattle.cookie_serde.specs.SavedLists.{IsAll}
use Rattle.cookie_serde.proofs.netscape.read_file.Goals as goal

pub returns-in-Ok-from_utf8-clause-file : goal.returns-in-Ok-from_utf8-clause-file
returns-in-Ok-from_utf8-clause-file g c = (
  subst (IsAll (g.R.Source.state c.args.source.now).remaining) (sym (ap (λ bytes. bytes.items) c.in-Ok-from_utf8.ensures.ok)) c.in-Ok.ensures.all,
  is_utf8-from_IsUtf8 _ (IsUtf8-string_bytes c.in-Ok-from_utf8.text),
)

pub returns-clause-failed : goal.returns-clause-failed
returns-clause-failed g c =
    let bytes = c.in-Ok.bytes.items in
    let not_utf8 = false_from_ne_true (is_utf8 bytes) (λ valid. false≢true (c.in-Err-from_utf8.ensures.succeeds (IsUtf8-from_is_utf8 bytes valid))) in
    inl (bytes, c.in-Ok.ensures.all, not_utf8, refl, c.in-Ok.ensures.end, c.in-Ok.ensures.count)
