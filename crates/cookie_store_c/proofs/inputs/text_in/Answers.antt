use Rattle.std.proofs.Common.{◌≡◌, ℕ, List, Ok, Err}
use Rattle.std.specs.Str.{IsUtf8}
use Rattle.std.proofs.lemmas.Bool.{false_from_ne_true}
use Rattle.std.proofs.lemmas.Str.{IsUtf8-from_is_utf8, is_utf8-from_IsUtf8}
use Rattle.cookie_store_c.specs.Inputs.{text_in}
use Rattle.cookie_store_c.specs.declared.status.Status.TheVariants.{NotUtf8}
use Rattle.cookie_store_c.proofs.inputs.text_in.Goals as goal

is_text : (bytes text : List ℕ) → text ≡ bytes → IsUtf8 bytes → Ok text ≡ text_in bytes
is_text bytes text same valid = rw (is_utf8-from_IsUtf8 bytes valid, same)

no_text : (bytes : List ℕ) → (IsUtf8 bytes → ⊥) → Err NotUtf8 ≡ text_in bytes
no_text bytes invalid = rw (false_from_ne_true _ (λ valid. invalid (IsUtf8-from_is_utf8 bytes valid)))

pub returns-in-Ok : goal.returns-in-Ok
returns-in-Ok c = is_text _ _ c.in-Ok.ensures.cases.0 c.in-Ok.ensures.cases.1

pub returns-in-Err : goal.returns-in-Err
returns-in-Err c = no_text _ c.in-Err.ensures.cases.0
