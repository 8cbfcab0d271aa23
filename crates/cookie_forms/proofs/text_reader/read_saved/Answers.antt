use Rattle.std.proofs.Common.{refl}
use Rattle.cookie_forms.specs.Borrowed.{borrowed_parts}
use Rattle.cookie_forms.specs.Saved.{expiry_view, saved_view}
use Rattle.cookie_forms.specs.ToJson.{with_expiry}
use Rattle.cookie_forms.proofs.ReadTexts.{begin_saved, on_err, saved_read}
use Rattle.cookie_forms.proofs.text_reader.read_saved.Goals as goal

pub returns-in_err-copied-in-Some-expiry_at-clause-memory : goal.returns-in_err-copied-in-Some-expiry_at-clause-memory
returns-in_err-copied-in-Some-expiry_at-clause-memory c =
    let parts = borrowed_parts c.in-Some.parts in
    let expires = expiry_view c.in-Some-expiry_at.expires in
    on_err c.from_residual.result _ (λ depth two.
    let here = c.in-Some.ensures depth two in
    begin_saved depth c.args.reader.now c.read_parts.new.reader here.0 (with_expiry parts expires) here.1 (saved_read here.0 parts expires (with_expiry parts expires) here.2 c.in-Some-expiry_at.ensures refl))

pub returns-in_ok-copied-in-Some-expiry_at-clause-saved : goal.returns-in_ok-copied-in-Some-expiry_at-clause-saved
returns-in_ok-copied-in-Some-expiry_at-clause-saved c =
    let copy = c.in_ok-copied-in-Some-expiry_at in
    λ depth two.
    let here = c.in-Some.ensures depth two in
    (here.0, here.1, saved_read here.0 (borrowed_parts c.in-Some.parts) (expiry_view c.in-Some-expiry_at.expires) (saved_view copy.field-0) here.2 c.in-Some-expiry_at.ensures copy.ensures)
