-- What contracts see of a `Counted`.
use Rattle.std.specs.Prelude.{ℕ}

-- the reader or writer, the number of its failed calls, and the most reads that can still succeed
pub record CountedValue (D : Type 0) : Type 0 where
  pub device : D
  pub failures : ℕ
  pub reads_left : ℕ
