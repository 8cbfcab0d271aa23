-- Why loading rows from lines failed, and at which line. `known` are the bytes of the source, as in Loading.
use Rattle.std.specs.Prelude.{◌≡◌, ℕ, ◌+◌, ◌-◌, ◌^◌, ◌++◌, ◌∷◌, length, min, List, Option, Result, IfSome}
use Rattle.std.specs.Str.Lines.{lines}
use Rattle.cookie_device.specs.Device.{SourceState}
use Rattle.cookie_device.specs.declared.lines.FillError.TheVariants as Fill
use Rattle.cookie_parts.specs.Cookie.{Row}
use Rattle.cookie_parts.specs.declared.error.Error.{Error}
use Rattle.cookie_parts.specs.declared.error.Error.TheVariants.{Io, Memory}
use Rattle.cookie_serde.specs.Loading.{AreCookies, FailsAtLine, StopsWithinLine}
use Rattle.cookie_serde.specs.declared.loading.LoadError.{LoadError}
use Rattle.cookie_serde.specs.declared.loading.LoadError.TheVariants.{Source, Line}

-- the error without the number of the line
abbrev pub error_of : LoadError → Error
error_of (Source Fill.Read) = Io
error_of (Source Fill.Memory) = Memory
error_of (Line number error) = error

-- the number of the line after these, counted from 1, and at most 2^64 - 1
abbrev pub number_behind : {T : Type 0} → List T → ℕ
number_behind before = min (length before + 1) (2 ^ 64 - 1)

module _ (Parses : List ℕ → Result Row Error → Type 0) where
  -- the line has this number, and all lines before it are cookies
  abbrev pub IsReachedAt : ℕ → List ℕ → Option (List ℕ) → Type 0
  IsReachedAt number line known =
      (before : List (List ℕ)) × (cookies : List Row) × AreCookies Parses before cookies × (number ≡ number_behind before)
      × IfSome known (λ text. (after : List (List ℕ)) × (lines text ≡ before ++ line ∷ after))

  -- Loading fails at the line of this number; or within a line: a read failed, which added one to the failures, or it ran out of
  -- memory.
  abbrev pub StopsLoading : LoadError → SourceState → SourceState → Type 0
  StopsLoading (Line number error) old new =
      (line : List ℕ) × FailsAtLine Parses error line × IsReachedAt number line old.remaining × (new.failed ≡ old.failed)
  StopsLoading (Source Fill.Read) old new =
      IfSome old.remaining (StopsWithinLine Parses old new) × (new.failed ≡ old.failed + 1)
  StopsLoading (Source Fill.Memory) old new =
      IfSome old.remaining (StopsWithinLine Parses old new) × (new.failed ≡ old.failed)
