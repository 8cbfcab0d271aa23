-- What was written when a script ends, by how its lines ended.
use Rattle.std.proofs.Common.{◌≡◌, ◌⊎◌, ◌<◌, ◌∙◌, inl, inr, ℕ, ◌+◌, List, [], Option, Result, Ok, Err, IfSome, OnOk, ap, append-nil, refl, subst, sym}
use Rattle.std.specs.Io.KnownBytes.{Appends}
use Rattle.std.proofs.lemmas.Option.{IfSome_then}
use Rattle.std.proofs.KnownBytes.{Appends-trans}
use Rattle.cookie_device.specs.Device.{AppendsPrefix, Sends, SinkState}
use Rattle.cookie_device.proofs.Sending.{part_of_rest}
use Rattle.cookie_store.specs.Contents.{Contents}
use Rattle.cookie_script.specs.Errors.{CountsRunFailure}
use Rattle.cookie_script.specs.Progress.{WritesBuffered, WritesOutputOfFirstLines, WritesRest}
use Rattle.cookie_script.specs.Script.{output_of}
use Rattle.cookie_script.specs.declared.error.RunFault.{RunFault}
use Rattle.cookie_script.specs.declared.error.RunFault.TheVariants.{Read, Write, Memory}
use Rattle.cookie_script.proofs.HasRunLines.{first_appended, first_part}

abbrev Outcome : Type 0
Outcome = Result (Unit {0}) RunFault

-- nothing is said of success after an error
on_error : (P : Type 0) (outcome : Outcome) (fault : RunFault) → outcome ≡ Err fault → OnOk outcome P
on_error P outcome fault is = subst (λ (o : Outcome). OnOk o P) (sym is) tt

-- the text was written except the rest, and then the rest
all_written : (a b c : Option (List ℕ)) (text g : List ℕ) → Sends a b text g → Appends b c g → Appends a c text
all_written a b c text g sends appended =
    subst (Appends a c) (sym sends.split) (Appends-trans a b c sends.sent g sends.appended appended)

-- a prefix of the buffered bytes was written
buffered_part : (earlier outcome : Outcome) (old new : SinkState) (g : List ℕ) → WritesBuffered earlier outcome old new g
    → AppendsPrefix old.contents new.contents g
buffered_part earlier outcome old new g (inl (same, appended, count)) =
    record { rest = []; sends = record { sent = g; split = sym (append-nil g); appended = appended } }
buffered_part earlier outcome old new g (inr (failed, part, count)) = part

-- the lines ended so, and what is buffered then is `g`
module _ (store : Contents) (known a : Option (List ℕ)) (b c : SinkState) (g : List ℕ) where
  pub whole_written : (lines outcome : Outcome) → WritesRest lines outcome b c g
      → OnOk lines (IfSome known (λ input. Sends a b.contents (output_of store input) g))
      → OnOk outcome (IfSome known (λ input. Appends a c.contents (output_of store input)))
  whole_written (Ok done) outcome (inl (same, appended, count)) sends =
      subst (λ (o : Outcome). OnOk o (IfSome known (λ input. Appends a c.contents (output_of store input)))) (sym same)
      (IfSome_then known sends (λ input sent. all_written a b.contents c.contents _ g sent appended))
  whole_written (Ok done) outcome (inr (failed, part, count)) sends = on_error _ outcome Write failed
  whole_written (Err Memory) outcome (inl (same, appended, count)) sends = on_error _ outcome Memory same
  whole_written (Err Memory) outcome (inr (failed, part, count)) sends = on_error _ outcome Write failed
  whole_written (Err Read) outcome (same, kept) sends = on_error _ outcome Read same
  whole_written (Err Write) outcome (same, kept) sends = on_error _ outcome Write same

  pub part_written : (Holds : List ℕ → List (List ℕ) → List (List ℕ) → Type 0) (lines outcome : Outcome) → WritesRest lines outcome b c g
      → OnOk lines (IfSome known (λ input. Sends a b.contents (output_of store input) g))
      → IfSome known (λ input. AppendsPrefix a b.contents (output_of store input))
      → (lines ≡ Err Memory → IfSome known (λ input. WritesOutputOfFirstLines store input (Holds input) (λ text. Sends a b.contents text g)))
      → IfSome known (λ input. AppendsPrefix a c.contents (output_of store input))
  part_written Holds (Ok done) outcome rest sends part memory =
      IfSome_then known sends (λ input sent. part_of_rest a b.contents c.contents _ g sent (buffered_part (Ok done) outcome b c g rest))
  part_written Holds (Err Memory) outcome rest sends part memory =
      IfSome_then known (memory refl)
      (λ input first. first_part store input (Holds input) a b.contents c.contents g first (buffered_part (Err Memory) outcome b c g rest))
  part_written Holds (Err Read) outcome (same, kept) sends part memory =
      subst (λ (s : SinkState). IfSome known (λ input. AppendsPrefix a s.contents (output_of store input))) (sym kept) part
  part_written Holds (Err Write) outcome (same, kept) sends part memory =
      subst (λ (s : SinkState). IfSome known (λ input. AppendsPrefix a s.contents (output_of store input))) (sym kept) part

  pub written_before_failed_read : (Holds : List ℕ → List (List ℕ) → List (List ℕ) → Type 0) (lines outcome : Outcome) → WritesRest lines outcome b c g
      → (lines ≡ Err Read → IfSome known (λ input. WritesOutputOfFirstLines store input (Holds input) (Appends a b.contents)))
      → outcome ≡ Err Read → IfSome known (λ input. WritesOutputOfFirstLines store input (Holds input) (Appends a c.contents))
  written_before_failed_read Holds (Ok done) outcome (inl (same, appended, count)) read is = cc
  written_before_failed_read Holds (Ok done) outcome (inr (failed, part, count)) read is = cc
  written_before_failed_read Holds (Err Memory) outcome (inl (same, appended, count)) read is = cc
  written_before_failed_read Holds (Err Memory) outcome (inr (failed, part, count)) read is = cc
  written_before_failed_read Holds (Err Write) outcome (same, kept) read is = cc
  written_before_failed_read Holds (Err Read) outcome (same, kept) read is =
      subst (λ (s : SinkState). IfSome known (λ input. WritesOutputOfFirstLines store input (Holds input) (Appends a s.contents))) (sym kept) (read refl)

  pub written_out_of_memory : (Holds : List ℕ → List (List ℕ) → List (List ℕ) → Type 0) (lines outcome : Outcome) → WritesRest lines outcome b c g
      → (lines ≡ Err Memory → IfSome known (λ input. WritesOutputOfFirstLines store input (Holds input) (λ text. Sends a b.contents text g)))
      → outcome ≡ Err Memory → IfSome known (λ input. WritesOutputOfFirstLines store input (Holds input) (Appends a c.contents))
  written_out_of_memory Holds (Ok done) outcome (inl (same, appended, count)) memory is = cc
  written_out_of_memory Holds (Ok done) outcome (inr (failed, part, count)) memory is = cc
  written_out_of_memory Holds (Err Read) outcome (same, kept) memory is = cc
  written_out_of_memory Holds (Err Write) outcome (same, kept) memory is = cc
  written_out_of_memory Holds (Err Memory) outcome (inr (failed, part, count)) memory is = cc
  written_out_of_memory Holds (Err Memory) outcome (inl (same, appended, count)) memory is =
      IfSome_then known (memory refl) (λ input first. first_appended store input (Holds input) a b.contents c.contents g first appended)

-- unless a write of the lines failed, another one may fail
pub still_writable : (lines : Outcome) (reads reads' writes writes' most : ℕ) → CountsRunFailure lines reads reads' writes writes' → writes < most
    → (lines ≡ Err Write) ⊎ (writes' < most)
still_writable (Ok done) reads reads' writes writes' most count small = inr (subst (λ n. n < most) (sym count.1) small)
still_writable (Err Memory) reads reads' writes writes' most count small = inr (subst (λ n. n < most) (sym count.1) small)
still_writable (Err Read) reads reads' writes writes' most count small = inr (subst (λ n. n < most) (sym count.1) small)
still_writable (Err Write) reads reads' writes writes' most count small = inl refl

-- the failures of the lines, and that of the last write
pub failures_counted : (lines outcome : Outcome) (b c : SinkState) (g : List ℕ) (reads reads' writes : ℕ) → WritesRest lines outcome b c g
    → CountsRunFailure lines reads reads' writes b.failed → CountsRunFailure outcome reads reads' writes c.failed
failures_counted lines outcome b c g reads reads' writes rest count = by_lines lines rest count
  where
    counted : (fault : Outcome) → outcome ≡ fault → CountsRunFailure fault reads reads' writes c.failed → CountsRunFailure outcome reads reads' writes c.failed
    counted fault same = subst (λ (o : Outcome). CountsRunFailure o reads reads' writes c.failed) (sym same)

    by_lines : (lines : Outcome) → WritesRest lines outcome b c g → CountsRunFailure lines reads reads' writes b.failed
        → CountsRunFailure outcome reads reads' writes c.failed
    by_lines (Ok done) (inl (same, appended, more)) count = counted (Ok done) same (count.0, more ∙ count.1)
    by_lines (Ok done) (inr (failed, part, more)) count = counted (Err Write) failed (count.0, more ∙ ap (λ n. n + 1) count.1)
    by_lines (Err Memory) (inl (same, appended, more)) count = counted (Err Memory) same (count.0, more ∙ count.1)
    by_lines (Err Memory) (inr (failed, part, more)) count = counted (Err Write) failed (count.0, more ∙ ap (λ n. n + 1) count.1)
    by_lines (Err Read) (same, kept) count = counted (Err Read) same (count.0, ap (λ (s : SinkState). s.failed) kept ∙ count.1)
    by_lines (Err Write) (same, kept) count = counted (Err Write) same (count.0, ap (λ (s : SinkState). s.failed) kept ∙ count.1)
