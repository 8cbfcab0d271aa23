-- What holds of loading by a function holds of loading by each relation that all its results satisfy.
use Rattle.std.proofs.Common.{ℕ, List, Option, Result, Ok, Err, inl, inr, IfOk, IfErr}
use Rattle.std.proofs.lemmas.Option.{IfSome_then}
use Rattle.std.specs.Borrow.{Bor}
use Rattle.std.specs.Fn.{FnReturnsAt, Shared}
use Rattle.cookie_device.specs.Device.{SourceState}
use Rattle.cookie_device.specs.declared.lines.FillError.TheVariants as Fill
use Rattle.cookie_parts.specs.Cookie.{Row}
use Rattle.cookie_parts.specs.declared.error.Error.{Error}
use Rattle.cookie_laws.specs.Rows.{RowsInOrder}
use Rattle.cookie_serde.specs.declared.which.Which.{Which}
use Rattle.cookie_serde.specs.LoadError.{IsReachedAt, StopsLoading}
use Rattle.cookie_serde.specs.Loading.{AreCookies, BuildsFrom, EndsWithinLine, FailsAtLine, ParsesToCookie, RejectsLine, StopsWithinLine}
use Rattle.cookie_serde.specs.declared.loading.LoadError.{LoadError}
use Rattle.cookie_serde.specs.declared.loading.LoadError.TheVariants.{Line, Source}
use Rattle.cookie_serde.proofs.Pairs.{AllZip-then}

module _ {Parses Other : List ℕ → Result Row Error → Type 0}
    (implies : (line : List ℕ) (expected : Result Row Error) → Parses line expected → Other line expected) where
  made_alike : (line : List ℕ) (cookie : Row) → ParsesToCookie Parses line cookie → ParsesToCookie Other line cookie
  made_alike line cookie (valid, created) = (valid, implies line (Ok cookie) created)

  refused_alike : (error : Error) (line : List ℕ) → RejectsLine Parses error line → RejectsLine Other error line
  refused_alike error line (inl not_utf8) = inl not_utf8
  refused_alike error line (inr (valid, refused)) = inr (valid, implies line (Err error) refused)

  failed_alike : (error : Error) (line : List ℕ) → FailsAtLine Parses error line → FailsAtLine Other error line
  failed_alike error line (inl (want, cookie, created)) = inl (want, cookie, made_alike line cookie created)
  failed_alike error line (inr refused) = inr (refused_alike error line refused)

  cookies_alike : (texts : List (List ℕ)) (cookies : List Row) → AreCookies Parses texts cookies → AreCookies Other texts cookies
  cookies_alike texts cookies created = AllZip-then made_alike texts cookies created

  reached_alike : (number : ℕ) (line : List ℕ) (known : Option (List ℕ)) → IsReachedAt Parses number line known → IsReachedAt Other number line known
  reached_alike number line known (before, cookies, created, is, first) = (before, cookies, cookies_alike before cookies created, is, first)

  ends_within_alike : (bytes : List ℕ) → EndsWithinLine Parses bytes → EndsWithinLine Other bytes
  ends_within_alike bytes (prefix, part, before, cookies, split, none, are_lines, created) =
      (prefix, part, before, cookies, split, none, are_lines, cookies_alike before cookies created)

  stops_within_alike : (old new : SourceState) (text : List ℕ)
      → StopsWithinLine Parses old new text → StopsWithinLine Other old new text
  stops_within_alike old new text (given, left, split, known, ends, brought) =
      (given, left, split, known, ends_within_alike given ends, brought)

  pub builds_alike : (known : Option (List ℕ)) (which : Which) (loaded : RowsInOrder)
      → BuildsFrom Parses known which loaded → BuildsFrom Other known which loaded
  builds_alike known which loaded (texts, cookies, created, are_built, known_lines) =
      (texts, cookies, cookies_alike texts cookies created, are_built, known_lines)

  pub stops_alike : (fault : LoadError) (old new : SourceState)
      → StopsLoading Parses fault old new
      → StopsLoading Other fault old new
  stops_alike (Line number error) old new (line, fails, reached, count) =
      (line, failed_alike error line fails, reached_alike number line old.remaining reached, count)
  stops_alike (Source Fill.Read) old new (within, count) =
      (IfSome_then old.remaining within (stops_within_alike old new), count)
  stops_alike (Source Fill.Memory) old new (within, count) =
      (IfSome_then old.remaining within (stops_within_alike old new), count)

-- the same for what the contract of a call with a function ensures
pub loaded_alike : {F : Type 0} (g : Shared F (Bor (List ℕ) × Unit {0}) (Result Row Error)) (f : F)
    (Other : List ℕ → Result Row Error → Type 0)
    → ((line : List ℕ) (expected : Result Row Error) → FnReturnsAt g f line expected → Other line expected)
    → (result : Result RowsInOrder LoadError) (old new : SourceState)
    → (which : Which)
    → IfErr result (λ fault. StopsLoading (FnReturnsAt g f) fault old new)
    → IfOk result (λ loaded. BuildsFrom (FnReturnsAt g f) old.remaining which loaded)
    → IfErr result (λ fault. StopsLoading Other fault old new)
    × IfOk result (λ loaded. BuildsFrom Other old.remaining which loaded)
loaded_alike g f Other implies (Ok loaded) old new which stops built =
    (tt, builds_alike implies old.remaining which loaded built)
loaded_alike g f Other implies (Err fault) old new which stops built =
    (stops_alike implies fault old new stops, tt)
