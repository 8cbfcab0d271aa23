-- The effect of reads and writes on a source or sink.
use Rattle.std.specs.Prelude.{◌≡◌, ℕ, ◌+◌, List, ◌++◌, Option, Result, MatchResult}
use Rattle.std.specs.Io.KnownBytes.{Appends}

-- a source: the bytes still to be read, if they are known, the number of failed calls, and the most reads that can still succeed
pub record SourceState : Type 0 where
  pub remaining : Option (List ℕ)
  pub failed : ℕ
  pub reads_left : ℕ

-- a sink: the bytes written so far, if they are known, and the number of failed calls
pub record SinkState : Type 0 where
  pub contents : Option (List ℕ)
  pub failed : ℕ

-- on an error the number of failed calls grows by one, otherwise it is unchanged
abbrev pub CountsFailure : {T E : Type 0} → Result T E → ℕ → ℕ → Type 0
CountsFailure r old new = MatchResult r (λ _. new ≡ old) (λ _. new ≡ old + 1)

-- all of the string but `rest` was written, after the known bytes
pub record Sends (old new : Option (List ℕ)) (text rest : List ℕ) : Type 0 where
  pub sent : List ℕ
  pub split : text ≡ sent ++ rest
  pub appended : Appends old new sent

-- a prefix of the string was written, possibly none or all of it
pub record AppendsPrefix (old new : Option (List ℕ)) (text : List ℕ) : Type 0 where
  pub rest : List ℕ
  pub sends : Sends old new text rest
