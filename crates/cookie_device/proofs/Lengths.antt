-- The number of known bytes that remain.
use Rattle.std.proofs.Common.{◌≡◌, ◌+◌, ℕ, List, Option, Some, None, IfSome, length, refl, sym, ap, ◌∙◌, arith}
use Rattle.std.proofs.lemmas.List.{length-append}
use Rattle.std.specs.Io.KnownBytes.{Keeps, prepend_known}

-- bytes added to the buffer are taken from the source
pub kept_lengths : (at_hand more : List ℕ) (rest less : Option (List ℕ)) → Keeps (prepend_known at_hand rest) (prepend_known more less)
    → IfSome rest (λ text. (left : List ℕ) × (less ≡ Some left) × (length text + length at_hand ≡ length left + length more))
kept_lengths at_hand more None less kept = tt
kept_lengths at_hand more (Some text) None kept = absurd kept
kept_lengths at_hand more (Some text) (Some left) kept =
    let same : length more + length left ≡ length at_hand + length text
    = sym (length-append more left) ∙ ap length kept ∙ length-append at_hand text in
    (left, refl, omega arith)
