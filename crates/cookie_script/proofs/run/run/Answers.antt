use Rattle.std.proofs.Common.{◌⊎◌, inl, ℕ, List, [], Option, None, Some, IfSome, refl}
use Rattle.std.specs.Io.KnownBytes.{Appends}
use Rattle.std.specs.Str.Lines.{lines}
use Rattle.std.proofs.KnownBytes.{Appends-nil}
use Rattle.cookie_device.proofs.Sending.{nothing_part}
use Rattle.cookie_store.specs.Contents.{Contents}
use Rattle.cookie_script.specs.Progress.{WritesOutputOfFirstLines, AreRead, NextMayAllocate}
use Rattle.cookie_script.specs.Script.{empty}
use Rattle.cookie_script.proofs.WrittenRest.{failures_counted, part_written, still_writable, whole_written, written_before_failed_read, written_out_of_memory}
use Rattle.cookie_script.proofs.run.run.Goals as goal

-- what holds for each value holds for an optional one
if_any : {X : Type 0} (P : X → Type 0) (o : Option X) → ((x : X) → P x) → IfSome o P
if_any P None each = tt
if_any P (Some x) each = each x

-- before the first read no line was read, and none was run
none_read : (store : Contents) (rest contents : Option (List ℕ)) → IfSome rest (λ input.
    WritesOutputOfFirstLines store input (λ first more. AreRead input rest first ⊎ NextMayAllocate more) (Appends contents contents))
none_read store None contents = tt
none_read store (Some input) contents = ([], lines input, refl, inl ([], input, refl, refl, refl), Appends-nil contents)

pub returns-in_err-out-clause-part : goal.returns-in_err-out-clause-part
returns-in_err-out-clause-part g c =
    if_any _ (g.R.Source.state c.args.source.now).remaining (λ input. nothing_part (g.W.Sink.state c.args.sink.now).contents _)

pub returns-in_err-out-clause-memory : goal.returns-in_err-out-clause-memory
returns-in_err-out-clause-memory g c =
    λ failed. none_read (empty c.args.list c.args.limit) (g.R.Source.state c.args.source.now).remaining (g.W.Sink.state c.args.sink.now).contents

pub write_rest-requires : goal.write_rest-requires
write_rest-requires g c =
    let ran = c.run_and_buffer_lines-outcome in
    still_writable ran.result _ _ _ _ _ ran.ensures.count c.requires.writable

pub returns-clause-whole : goal.returns-clause-whole
returns-clause-whole g c =
    let ran = c.run_and_buffer_lines-outcome in
    let sink = g.W.Sink.state in
    whole_written (empty c.args.list c.args.limit) (g.R.Source.state c.args.source.now).remaining (sink c.args.sink.now).contents (sink ran.new.sink) (sink c.write_rest.new.sink) ran.new.out ran.result c.write_rest.result c.write_rest.ensures
    (rw (c.in_ok-out.ensures, c.new-jar.ensures) at ran.ensures.whole)

pub returns-clause-part : goal.returns-clause-part
returns-clause-part g c =
    let ran = c.run_and_buffer_lines-outcome in
    let sink = g.W.Sink.state in
    part_written (empty c.args.list c.args.limit) (g.R.Source.state c.args.source.now).remaining (sink c.args.sink.now).contents (sink ran.new.sink) (sink c.write_rest.new.sink) ran.new.out _ ran.result c.write_rest.result c.write_rest.ensures
    (rw (c.in_ok-out.ensures, c.new-jar.ensures) at ran.ensures.whole)
    (rw (c.in_ok-out.ensures, c.new-jar.ensures) at ran.ensures.part)
    (rw (c.in_ok-out.ensures, c.new-jar.ensures) at ran.ensures.memory)

pub returns-clause-read : goal.returns-clause-read
returns-clause-read g c =
    let ran = c.run_and_buffer_lines-outcome in
    let sink = g.W.Sink.state in
    written_before_failed_read (empty c.args.list c.args.limit) (g.R.Source.state c.args.source.now).remaining (sink c.args.sink.now).contents (sink ran.new.sink) (sink c.write_rest.new.sink) ran.new.out _ ran.result c.write_rest.result c.write_rest.ensures
    (rw (c.in_ok-out.ensures, c.new-jar.ensures) at ran.ensures.read)

pub returns-clause-memory : goal.returns-clause-memory
returns-clause-memory g c =
    let ran = c.run_and_buffer_lines-outcome in
    let sink = g.W.Sink.state in
    written_out_of_memory (empty c.args.list c.args.limit) (g.R.Source.state c.args.source.now).remaining (sink c.args.sink.now).contents (sink ran.new.sink) (sink c.write_rest.new.sink) ran.new.out _ ran.result c.write_rest.result c.write_rest.ensures
    (rw (c.in_ok-out.ensures, c.new-jar.ensures) at ran.ensures.memory)

pub returns-clause-count : goal.returns-clause-count
returns-clause-count g c =
    let ran = c.run_and_buffer_lines-outcome in
    failures_counted ran.result c.write_rest.result (g.W.Sink.state ran.new.sink) (g.W.Sink.state c.write_rest.new.sink) ran.new.out _ _ _ c.write_rest.ensures ran.ensures.count

pub returns-clause-reads : goal.returns-clause-reads
returns-clause-reads g c = c.run_and_buffer_lines-outcome.ensures.reads
