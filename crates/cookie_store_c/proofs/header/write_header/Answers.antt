use Rattle.std.proofs.Common.{◌≡◌, FitsSigned, w64}
use Rattle.std.proofs.lemmas.Int.{to_z-of_z}
use Rattle.cookie_words.specs.Moments.{moment_of}
use Rattle.cookie_store_c.specs.declared.status.Status.TheVariants.{NoMemory}
use Rattle.cookie_store_c.proofs.WrittenHeaders.{errors_alone, header_written}
use Rattle.cookie_store_c.proofs.header.write_header.Goals as goal

pub returns : goal.returns
returns c =
    let fits : FitsSigned w64 c.args.now = c.ranges.now in
    let value = simp to_z-of_z at c.request.ensures.value in
    let memory = simp to_z-of_z at c.request.ensures.memory in
    header_written c.args.context c.args.store.now c.args.url.now c.args.now c.args.out.now c.copy_out.result c.copy_out.new.buffer c.copy_out.new.needed
    (λ inputs. (inputs.0, moment_of inputs.1)) (λ text. text.items) c.request.result c.text_for.result
    value memory c.text_for.ensures.text c.text_for.ensures.status
    (errors_alone (λ status. status ≡ NoMemory) _ c.request.result c.text_for.result c.text_for.ensures.memory) c.copy_out.ensures
