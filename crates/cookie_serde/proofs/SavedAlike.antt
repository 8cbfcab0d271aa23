-- What holds of saving by a function holds of saving by each relation that all its results satisfy.
use Rattle.std.proofs.Common.{ℕ, List, Option, Result, Ok, Err, inl, inr, OnOk, IfErr}
use Rattle.std.specs.Borrow.{Bor}
use Rattle.std.specs.Fn.{FnReturnsAt, Shared}
use Rattle.std.specs.declared.alloc.Global.{Global}
use Rattle.std.specs.declared.string.String.{String}
use Rattle.cookie_device.specs.Device.{SinkState}
use Rattle.cookie_parts.specs.Cookie.{Row}
use Rattle.cookie_parts.specs.declared.error.Error.{Error}
use Rattle.cookie_serde.specs.Saving.{AreTexts, FailsToSave, StopsAtRow, StopsWithinRow, WritesRows}
use Rattle.cookie_serde.proofs.Pairs.{AllZip-then}

-- all results of the one relation satisfy the other
abbrev pub Implies : (Serializes Other : Row → Result (String Global) Error → Type 0) → Type 0
Implies Serializes Other = (row : Row) (expected : Result (String Global) Error) → Serializes row expected → Other row expected

module _ {Serializes Other : Row → Result (String Global) Error → Type 0} where
  texts_alike : (rows : List Row) (texts : List (String Global)) → AreTexts Serializes rows texts → Implies Serializes Other → AreTexts Other rows texts
  texts_alike rows texts said implies = AllZip-then (λ row text. implies row (Ok text)) rows texts said

  pub writes_alike : (rows : List Row) (old new : Option (List ℕ)) → WritesRows Serializes rows old new → Implies Serializes Other
      → WritesRows Other rows old new
  writes_alike rows old new (texts, said, appended) implies = (texts, texts_alike rows texts said implies, appended)

  stops_at_alike : (error : Error) (rows : List Row) (old new : Option (List ℕ)) → StopsAtRow Serializes error rows old new → Implies Serializes Other
      → StopsAtRow Other error rows old new
  stops_at_alike error rows old new (before, row, after, split, refused, written) implies =
      (before, row, after, split, implies row (Err error) refused, writes_alike before old new written implies)

  stops_within_alike : (rows : List Row) (old new : Option (List ℕ)) → StopsWithinRow Serializes rows old new → Implies Serializes Other
      → StopsWithinRow Other rows old new
  stops_within_alike rows old new (before, row, after, split, texts, said, text, serializes_it, part, rest, is, appended) implies = (
    before,
    row,
    after,
    split,
    texts,
    texts_alike before texts said implies,
    text,
    implies row (Ok text) serializes_it,
    part,
    rest,
    is,
    appended,
  )

  fails_to_save_alike : (error : Error) (rows : List Row) (old new : SinkState)
      → FailsToSave Serializes error rows old new → Implies Serializes Other → FailsToSave Other error rows old new
  fails_to_save_alike error rows old new (inl (stops, count)) implies =
      inl (stops_at_alike error rows old.contents new.contents stops implies, count)
  fails_to_save_alike error rows old new (inr (stops, is, count)) implies =
      inr (stops_within_alike rows old.contents new.contents stops implies, is, count)

-- the same for what the contract of a call with a function ensures
module _ {F T : Type 0} (g : Shared F (Bor Row × Unit {0}) (Result (String Global) Error)) (f : F)
    (Other : Row → Result (String Global) Error → Type 0) (implies : Implies (FnReturnsAt g f) Other) where
  pub whole_alike : (result : Result T Error) (rows : List Row) (old new : Option (List ℕ))
      → OnOk result (WritesRows (FnReturnsAt g f) rows old new) → OnOk result (WritesRows Other rows old new)
  whole_alike (Ok value) rows old new written = writes_alike rows old new written implies
  whole_alike (Err error) rows old new written = tt

  pub stopped_alike : (result : Result T Error) (rows : List Row) (old new : SinkState)
      → IfErr result (λ error. FailsToSave (FnReturnsAt g f) error rows old new)
      → IfErr result (λ error. FailsToSave Other error rows old new)
  stopped_alike (Ok value) rows old new stops = tt
  stopped_alike (Err error) rows old new stops =
      fails_to_save_alike error rows old new stops implies
