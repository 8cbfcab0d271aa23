use Rattle.std.proofs.Common.{◌≡◌, ◌≢◌, ◌∙◌, inl, inr, ℕ, ◌+◌, arith, eqb, eq-eqb, position, length, [], ◌∷◌, Result, Ok, Err, OnOk, IsErrAnd, subst, sym, ap, refl, rules}
use Rattle.std.proofs.lemmas.Bool.{eqb-true, false≢true}
use Rattle.std.proofs.lemmas.Option.{IfSome_then}
use Rattle.cookie_device.specs.LineBuffers.{IsLastLine}
use Rattle.cookie_script.proofs.HasRunLines.{all_sent, next_line_run, next_part, sent_all}
use Rattle.cookie_script.proofs.Progress.{begun, are_read, flush_part, flushed, found, line_run, no_line_left, one_line_left, part_so_far, read_ahead}
use Rattle.cookie_script.specs.Errors.{CountsRunFailure}
use Rattle.cookie_script.specs.declared.error.RunFault.{RunFault}
use Rattle.cookie_script.specs.declared.error.RunFault.TheVariants.{Read, Write, Memory}
use Rattle.cookie_script.proofs.run.run_and_buffer_lines.Goals as goal

-- an error that is passed on is the one that came
passed_on : {T : Type 0} (error fault : RunFault) (result : Result T RunFault) → IsErrAnd result (λ f. f ≡ error) → result ≡ Err fault → error ≡ fault
passed_on error fault (Ok value) failed is = absurd failed
passed_on error fault (Err f) failed is = let same : f ≡ fault = cc in sym failed ∙ same

-- a call that does not read has no failed read
no_read : {T : Type 0} (result : Result T RunFault) (writes writes' : ℕ) → CountsRunFailure result 0 0 writes writes' → result ≡ Err Read → ⊥
no_read (Ok value) writes writes' count failed = cc
no_read (Err Read) writes writes' count failed = let more : 0 ≡ 0 + 1 = count.0 in omega arith
no_read (Err Write) writes writes' count failed = cc
no_read (Err Memory) writes writes' count failed = cc

-- a consequence of what holds on success
on_ok : {T E P Q : Type 0} (result : Result T E) → (P → Q) → OnOk result P → OnOk result Q
on_ok (Ok value) follows p = follows p
on_ok (Err error) follows p = tt

pub lines-init : goal.lines-init
lines-init g c =
    record {
      reads = refl;
      writes = refl;
      progress =
          rw (c.new-input.ensures, c.requires.start)
          (begun c.args.jar.now.store (g.R.Source.state c.args.source.now).remaining (g.W.Sink.state c.args.sink.now).contents c.args.out.now);
      turns = search rules;
    }

pub returns-in_err-run_and_buffer_line-clause-part : goal.returns-in_err-run_and_buffer_line-clause-part
returns-in_err-run_and_buffer_line-clause-part g c =
    IfSome_then (g.R.Source.state c.args.source.now).remaining c.lines.invariant.progress
    (λ input p.
    let (more, known, next) = found c.lines.input c.line.result.now c.in-Some.end p c.in-Some.ensures.line c.line.ensures in
    next_part _ _ _ _ _ _ _ next c.in_err-run_and_buffer_line.ensures.part)

pub lines-preserved-in-Some : goal.lines-preserved-in-Some
lines-preserved-in-Some g c =
    record {
      reads = c.lines.invariant.reads;
      writes = (c.in_ok-run_and_buffer_line.ensures.count 0).1 ∙ c.lines.invariant.writes;
      progress =
          rw (c.pass.ensures, c.in_ok-run_and_buffer_line.ensures.state)
          (IfSome_then (g.R.Source.state c.args.source.now).remaining c.lines.invariant.progress
          (λ input p. line_run c.lines.input c.line.result.now c.in-Some.end _ _ p (sym c.in-Some.ensures.first) c.in-Some.ensures.line c.line.ensures c.in_ok-run_and_buffer_line.ensures.whole));
      turns = c.lines.invariant.turns;
    }

pub returns-in_err-flush-clause-part : goal.returns-in_err-flush-clause-part
returns-in_err-flush-clause-part g c =
    IfSome_then (g.R.Source.state c.args.source.now).remaining c.lines.invariant.progress
    (λ input p. flush_part c.lines.input _ p c.in_err-flush.ensures.part)

pub returns-in_err-fill-clause-part : goal.returns-in_err-fill-clause-part
returns-in_err-fill-clause-part g c =
    IfSome_then (g.R.Source.state c.args.source.now).remaining c.lines.invariant.progress
    (λ input p. part_so_far c.lines.input (flushed c.lines.input _ _ p c.in_ok-flush.ensures.whole c.in_ok-flush.ensures.empty))

pub lines-preserved : goal.lines-preserved
lines-preserved g c =
    record {
      reads = c.in_ok-fill.ensures.count ∙ c.lines.invariant.reads;
      writes = c.in_ok-flush.ensures.count ∙ c.lines.invariant.writes;
      progress =
          IfSome_then (g.R.Source.state c.args.source.now).remaining c.lines.invariant.progress
          (λ input p. read_ahead c.lines.input c.fill.new.self _ (flushed c.lines.input _ _ p c.in_ok-flush.ensures.whole c.in_ok-flush.ensures.empty) c.in_ok-fill.ensures.bytes);
      turns =
          IfSome_then (g.R.Source.state c.args.source.now).remaining c.lines.invariant.turns
          (λ input gave.
          let (left, known, count) = gave in
          let (less, is, moved) = rw known at c.in_ok-fill.ensures.moved in
          let longer = c.in_ok-fill.ensures.came c.if-not-branch.false in
          let one = c.in_ok-fill.ensures.fewer in
          (less, is, omega arith));
    }

pub returns-then-is_empty-clause-whole : goal.returns-then-is_empty-clause-whole
returns-then-is_empty-clause-whole g c =
    let end = c.in_ok-fill.ensures.end c.if-not-branch.true in
    let one : IsLastLine c.fill.new.self = subst IsLastLine (sym end.0) (c.line_end.ensures.last c.in_default.is) in
    let empty : length c.fill.new.self ≡ 0 = ap length (sym c.rest.ensures) ∙ eqb-true (length c.rest.result.now) 0 (sym c.if-is_empty.ensures) in
    IfSome_then (g.R.Source.state c.args.source.now).remaining c.lines.invariant.progress
    (λ input p.
    let ahead = read_ahead c.lines.input c.fill.new.self _ (flushed c.lines.input _ _ p c.in_ok-flush.ensures.whole c.in_ok-flush.ensures.empty) c.in_ok-fill.ensures.bytes in
    all_sent _ _ _ _ (no_line_left c.fill.new.self ahead end.1 one empty))

pub returns-then-is_empty-clause-part : goal.returns-then-is_empty-clause-part
returns-then-is_empty-clause-part g c =
    IfSome_then (g.R.Source.state c.args.source.now).remaining c.lines.invariant.progress
    (λ input p. part_so_far c.lines.input (flushed c.lines.input _ _ p c.in_ok-flush.ensures.whole c.in_ok-flush.ensures.empty))

pub returns-clause-whole : goal.returns-clause-whole
returns-clause-whole g c =
    let end = c.in_ok-fill.ensures.end c.if-not-branch.true in
    let one : IsLastLine c.fill.new.self = subst IsLastLine (sym end.0) (c.line_end.ensures.last c.in_default.is) in
    let some : length c.fill.new.self ≢ 0 = λ e. false≢true (c.if-is_empty.ensures ∙ eq-eqb (length c.rest.result.now) 0 (ap length c.rest.ensures ∙ e)) in
    on_ok c.run_and_buffer_line-2.result
    (λ sends.
    IfSome_then (g.R.Source.state c.args.source.now).remaining c.lines.invariant.progress
    (λ input p.
    let ahead = read_ahead c.lines.input c.fill.new.self _ (flushed c.lines.input _ _ p c.in_ok-flush.ensures.whole c.in_ok-flush.ensures.empty) c.in_ok-fill.ensures.bytes in
    all_sent _ _ _ _ (next_line_run _ _ _ _ _ _ _ _ (one_line_left c.fill.new.self c.rest-2.result.now ahead end.1 one some c.rest-2.ensures) sends)))
    c.run_and_buffer_line-2.ensures.whole

pub returns-clause-part : goal.returns-clause-part
returns-clause-part g c =
    let end = c.in_ok-fill.ensures.end c.if-not-branch.true in
    let one : IsLastLine c.fill.new.self = subst IsLastLine (sym end.0) (c.line_end.ensures.last c.in_default.is) in
    let some : length c.fill.new.self ≢ 0 = λ e. false≢true (c.if-is_empty.ensures ∙ eq-eqb (length c.rest.result.now) 0 (ap length c.rest.ensures ∙ e)) in
    IfSome_then (g.R.Source.state c.args.source.now).remaining c.lines.invariant.progress
    (λ input p.
    let ahead = read_ahead c.lines.input c.fill.new.self _ (flushed c.lines.input _ _ p c.in_ok-flush.ensures.whole c.in_ok-flush.ensures.empty) c.in_ok-fill.ensures.bytes in
    next_part _ _ _ _ _ _ _ (one_line_left c.fill.new.self c.rest-2.result.now ahead end.1 one some c.rest-2.ensures) c.run_and_buffer_line-2.ensures.part)

pub returns-clause-read : goal.returns-clause-read
returns-clause-read g c = λ failed. absurd (no_read c.run_and_buffer_line-2.result _ _ (c.run_and_buffer_line-2.ensures.count 0) failed)

pub returns-clause-memory : goal.returns-clause-memory
returns-clause-memory g c =
    λ want.
    let (may, kept, none) = c.run_and_buffer_line-2.ensures.memory want in
    let end = c.in_ok-fill.ensures.end c.if-not-branch.true in
    let one : IsLastLine c.fill.new.self = subst IsLastLine (sym end.0) (c.line_end.ensures.last c.in_default.is) in
    let some : length c.fill.new.self ≢ 0 = λ e. false≢true (c.if-is_empty.ensures ∙ eq-eqb (length c.rest.result.now) 0 (ap length c.rest.ensures ∙ e)) in
    IfSome_then (g.R.Source.state c.args.source.now).remaining c.lines.invariant.progress
    (λ input p.
    let ahead = read_ahead c.lines.input c.fill.new.self _ (flushed c.lines.input _ _ p c.in_ok-flush.ensures.whole c.in_ok-flush.ensures.empty) c.in_ok-fill.ensures.bytes in
    let left = one_line_left c.fill.new.self c.rest-2.result.now ahead end.1 one some c.rest-2.ensures in
    (ahead.passed, c.rest-2.result.now ∷ [], left.split, inr may, rw (kept, none) left.sends))

pub returns-in_err-run_and_buffer_line-clause-read : goal.returns-in_err-run_and_buffer_line-clause-read
returns-in_err-run_and_buffer_line-clause-read g c =
    λ failed.
    let read = passed_on c.in_err-run_and_buffer_line.field-0.0 Read c.from_residual.result c.from_residual.ensures.1 failed in
    absurd (no_read {T = Unit {0}} (Err c.in_err-run_and_buffer_line.field-0.0) _ _ (c.in_err-run_and_buffer_line.ensures.count 0) (ap Err read))

pub returns-in_err-run_and_buffer_line-clause-memory : goal.returns-in_err-run_and_buffer_line-clause-memory
returns-in_err-run_and_buffer_line-clause-memory g c =
    λ want.
    let memory = passed_on c.in_err-run_and_buffer_line.field-0.0 Memory c.from_residual.result c.from_residual.ensures.1 want in
    let (may, kept, none) = c.in_err-run_and_buffer_line.ensures.memory (ap Err memory) in
    IfSome_then (g.R.Source.state c.args.source.now).remaining c.lines.invariant.progress
    (λ input p.
    let (more, known, next) = found c.lines.input c.line.result.now c.in-Some.end p c.in-Some.ensures.line c.line.ensures in
    (p.passed, c.line.result.now ∷ _, next.split, inr may, rw (kept, none) next.sends))

pub returns-in_err-fill-clause-read : goal.returns-in_err-fill-clause-read
returns-in_err-fill-clause-read g c =
    λ failed.
    let none = ap (position (λ b. eqb b 10)) c.in_err-fill.ensures.err ∙ sym c.line_end.ensures.first ∙ c.in_default.is in
    IfSome_then (g.R.Source.state c.args.source.now).remaining c.lines.invariant.progress
    (λ input p.
    let ahead = read_ahead c.lines.input c.fill.new.self _ (flushed c.lines.input _ _ p c.in_ok-flush.ensures.whole c.in_ok-flush.ensures.empty) c.in_err-fill.ensures.bytes in
    (ahead.passed, _, ahead.has_run.split, are_read c.fill.new.self ahead none, sent_all _ _ _ _ ahead.has_run.sends c.in_ok-flush.ensures.empty))

pub returns-in_err-fill-clause-memory : goal.returns-in_err-fill-clause-memory
returns-in_err-fill-clause-memory g c =
    λ want.
    let none = ap (position (λ b. eqb b 10)) c.in_err-fill.ensures.err ∙ sym c.line_end.ensures.first ∙ c.in_default.is in
    IfSome_then (g.R.Source.state c.args.source.now).remaining c.lines.invariant.progress
    (λ input p.
    let ahead = read_ahead c.lines.input c.fill.new.self _ (flushed c.lines.input _ _ p c.in_ok-flush.ensures.whole c.in_ok-flush.ensures.empty) c.in_err-fill.ensures.bytes in
    (ahead.passed, _, ahead.has_run.split, inl (are_read c.fill.new.self ahead none), ahead.has_run.sends))

pub returns-clause-reads : goal.returns-clause-reads
returns-clause-reads g c =
    IfSome_then (g.R.Source.state c.args.source.now).remaining c.lines.invariant.turns
    (λ input gave.
    let (left, known, count) = gave in
    let one = c.in_ok-fill.ensures.fewer in
    omega arith)
