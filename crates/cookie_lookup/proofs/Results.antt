-- Results.
use Rattle.std.proofs.Common.{Result, Ok, Err}
use Rattle.std.specs.Prelude.{OnErr, OnOk}

-- what holds also holds if there is an error
pub either_way : {T E P : Type 0} (result : Result T E) → P → OnErr result P
either_way (Ok value) holds = tt
either_way (Err error) holds = holds

-- the consequences of what holds without an error, or with one
pub on_ok : {T E P Q : Type 0} (result : Result T E) → (P → Q) → OnOk result P → OnOk result Q
on_ok (Ok value) more holds = more holds
on_ok (Err error) more holds = tt

pub on_err : {T E P Q : Type 0} (result : Result T E) → (P → Q) → OnErr result P → OnErr result Q
on_err (Ok value) more holds = tt
on_err (Err error) more holds = more holds
