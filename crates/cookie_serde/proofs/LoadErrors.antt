-- Errors of loading, with and without the number of the line.
use Rattle.std.proofs.Common.{◌≡◌, ℕ, List, Result, Err, IfSome, inl, inr, refl}
use Rattle.std.proofs.lemmas.Option.{IfSome_then}
use Rattle.cookie_device.specs.Device.{SourceState}
use Rattle.cookie_device.specs.FillError.{CountsReadFailure}
use Rattle.cookie_device.specs.declared.lines.FillError.{FillError}
use Rattle.cookie_device.specs.declared.lines.FillError.TheVariants as Fill
use Rattle.cookie_parts.specs.Cookie.{Row}
use Rattle.cookie_parts.specs.declared.error.Error.{Error}
use Rattle.cookie_serde.specs.LoadError.{error_of, IsReachedAt, StopsLoading}
use Rattle.cookie_serde.specs.Loading.{FailsAtLine, FailsToLoad, StopsWithinLine}
use Rattle.cookie_serde.specs.declared.loading.LoadError.{LoadError}
use Rattle.cookie_serde.specs.declared.loading.LoadError.TheVariants.{Source, Line}

module _ (Parses : List ℕ → Result Row Error → Type 0) where
  -- an error at a line that is reached
  pub stops_at : (fault : LoadError) (number : ℕ) (line : List ℕ) (old new : SourceState)
      → (error : Error) × (fault ≡ Line number error) × FailsAtLine Parses error line → IsReachedAt Parses number line old.remaining
      → new.failed ≡ old.failed → StopsLoading Parses fault old new
  stops_at fault number line old new (error, is, fails) reached count =
      rw is (line, fails, reached, count)

  -- an error of the source
  pub stops_reading : (fault : FillError) (old new : SourceState) (between : ℕ)
      → IfSome old.remaining (StopsWithinLine Parses old new) → CountsReadFailure {T = ℕ} (Err fault) between new.failed
      → between ≡ old.failed → StopsLoading Parses (Source fault) old new
  stops_reading Fill.Read old new between within count same = (within, rw (← same) count)
  stops_reading Fill.Memory old new between within count same = (within, rw (← same) count)

  -- an error with a line number is the same error without it
  pub fails_by : (fault : LoadError) (old new : SourceState)
      → StopsLoading Parses fault old new
      → FailsToLoad Parses (error_of fault) old new
  fails_by (Line number error) old new
      (line, fails, (before, cookies, are_made, is, first), count) =
      inl ((line, fails, IfSome_then old.remaining first (λ text behind. (before, behind.0, cookies, behind.1, are_made))), count)
  fails_by (Source Fill.Read) old new (within, count) = inr (within, inl (refl, count))
  fails_by (Source Fill.Memory) old new (within, count) = inr (within, inr (refl, count))
