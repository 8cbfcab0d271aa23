use Rattle.std.proofs.Common.{inl, inr, refl}
use Rattle.std.proofs.KnownBytes.{Keeps-refl}
use Rattle.std.proofs.lemmas.Result.{err_from_is_err_and}
use Rattle.cookie_netscape.specs.Written.{is_representable}
use Rattle.cookie_serde.specs.Selections.{selected}
use Rattle.cookie_serde.proofs.RepresentableRows.{kept_pass}
use Rattle.cookie_serde.proofs.netscape.save_representable.Goals as goal

pub returns-in_err-file-clause-stopped : goal.returns-in_err-file-clause-stopped
returns-in_err-file-clause-stopped g c =
    let rows = selected c.args.which c.args.store.now.rows in
    let fault = err_from_is_err_and c.from_residual.result c.from_residual.ensures.1 in
    rw (fault.1, fault.2) (inl (kept_pass is_representable rows, Keeps-refl _, refl))

pub returns-in_err-write_file-clause-stopped : goal.returns-in_err-write_file-clause-stopped
returns-in_err-write_file-clause-stopped g c =
    let rows = selected c.args.which c.args.store.now.rows in
    let fault = err_from_is_err_and c.from_residual-in_err-write_file.result c.from_residual-in_err-write_file.ensures.1 in
    let stopped = c.in_err-write_file.ensures.stopped in
    rw (fault.1, fault.2) (inr (kept_pass is_representable rows, rw c.in_ok-file.ensures.text at stopped.0, stopped.1, stopped.2))

pub returns-clause-whole : goal.returns-clause-whole
returns-clause-whole g c =
    let rows = selected c.args.which c.args.store.now.rows in
    (kept_pass is_representable rows, rw c.in_ok-file.ensures.text at c.in_ok-write_file.ensures.whole)
