use Rattle.std.proofs.Common.{◌≡◌, ℕ, ◌-◌, ◌++◌, List, length, take, drop, sym, ap, ◌∙◌, append_assoc, take-append-drop}
use Rattle.std.proofs.lemmas.List.{take_rest}
use Rattle.std.proofs.KnownBytes.{Appends-trans}
use Rattle.cookie_device.proofs.device.write_all.Goals as goal

-- the bytes written move from the front of the rest to the end of the bytes sent
taken_moves : (all sent rest : List ℕ) (n : ℕ) → all ≡ sent ++ rest → all ≡ (sent ++ take n rest) ++ take (length rest - n) (drop n rest)
taken_moves all sent rest n split =
    split ∙ ap (λ l. sent ++ l) (sym (take-append-drop n rest)) ∙ sym (append_assoc sent (take n rest) (drop n rest))
    ∙ ap (λ l. (sent ++ take n rest) ++ l) (sym (take_rest rest n))

pub loop-rest-preserved : goal.loop-rest-preserved
loop-rest-preserved g c =
    let (sent, split, appended, unfailed) = c.loop-rest.invariant in
    let rest = c.loop-rest.rest.now in
    let n = c.in_ok-taken.taken in
    (sent ++ take n rest, taken_moves _ sent rest n split, Appends-trans _ _ _ _ _ appended c.in_ok-taken.ensures.bytes, c.in_ok-taken.ensures.count ∙ unfailed)
