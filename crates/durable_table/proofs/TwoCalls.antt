-- What two calls keep, one after the other.
use Rattle.std.proofs.Common.{◌≤◌, ℕ, ◌∙◌, rules, arith}
use Rattle.sqlite_disk.specs.Disk.{MoreFaults}
use Rattle.sqlite_trees.specs.Tree.{Trees}
use Rattle.sqlite_trees.specs.View.{View, IsQuiet, KeepsSchema}

pub more_faults_from : (first later last : ℕ) → first ≤ later → MoreFaults later last → MoreFaults first last
more_faults_from first later last before more = omega (arith, before, more)

pub quiet_twice : {S : Type 0} (view : S → View) (faults : S → ℕ) (recovers : S → Trees → Type 0) (Shielded : S → Type 0) (a b c : S)
    → IsQuiet view faults recovers Shielded a b → IsQuiet view faults recovers Shielded b c → IsQuiet view faults recovers Shielded a c
quiet_twice view faults recovers Shielded a b c first second = record {
  shield = λ s. second.shield (first.shield s);
  clean = omega (arith, first.clean, second.clean);
  counts = omega (arith, first.counts, second.counts);
  closes = search (rules, more_faults_from);
  outcomes = λ db r. first.outcomes db (second.outcomes db r);
}

pub keeps_schema_twice : (a b c : View) → KeepsSchema a b → KeepsSchema b c → KeepsSchema a c
keeps_schema_twice a b c first second = record {
  shape = second.shape ∙ first.shape;
  reals = second.reals ∙ first.reals;
  committed_shape = second.committed_shape ∙ first.committed_shape;
  committed_reals = second.committed_reals ∙ first.committed_reals;
  numbered = second.numbered ∙ first.numbered;
}
