-- The cause of an error, seen from an earlier state.
use Rattle.std.proofs.Common.{IsTrue}
use Rattle.sqlite_trees.specs.declared.error.StoreError.{StoreError}
use Rattle.sqlite_trees.specs.declared.error.StoreError.TheVariants.{OutOfMemory, Io, Corrupt, Full, Broken, Unstorable}
use Rattle.sqlite_trees.specs.View.{View, HasCause}

pub has_cause_from : (error : StoreError) (first later : View) (F G U V : Type 0) → (IsTrue later.is_broken → IsTrue first.is_broken) → (F → G) → (U → V)
    → HasCause later F U error → HasCause first G V error
has_cause_from OutOfMemory first later F G U V broken fault unstorable cause = cause
has_cause_from Io first later F G U V broken fault unstorable cause = fault cause
has_cause_from Corrupt first later F G U V broken fault unstorable cause = fault cause
has_cause_from Full first later F G U V broken fault unstorable cause = fault cause
has_cause_from Broken first later F G U V broken fault unstorable cause = broken cause
has_cause_from Unstorable first later F G U V broken fault unstorable cause = unstorable cause
