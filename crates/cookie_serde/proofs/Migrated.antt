-- An error of loading lines of JSON, as an error of a migration.
use Rattle.std.proofs.Common.{◌≡◌, ℕ, List, inl, inr}
use Rattle.cookie_device.specs.Device.{SourceState}
use Rattle.cookie_device.specs.declared.lines.FillError.TheVariants as Fill
use Rattle.cookie_parts.specs.declared.error.Error.{Error}
use Rattle.cookie_parts.specs.declared.error.Error.TheVariants.{Cookie, Idna, Io, Memory, NotUtf8, Other, Saved}
use Rattle.cookie_serde.specs.JsonLines.{JsonParsesTo}
use Rattle.cookie_serde.specs.LoadError.{StopsLoading}
use Rattle.cookie_serde.specs.Loading.{FailsAtLine, RejectsLine}
use Rattle.cookie_serde.specs.Migration.{migrate_error_of, FailsToMigrate, IsOfJson}
use Rattle.cookie_serde.specs.declared.loading.LoadError.{LoadError}
use Rattle.cookie_serde.specs.declared.loading.LoadError.TheVariants.{Line, Source}
use Rattle.cookie_serde.proofs.LoadErrors.{fails_by}

-- a line at which loading fails, but not out of memory, is rejected
refuses : (error : Error) (line : List ℕ) → (error ≡ Memory → ⊥) → FailsAtLine JsonParsesTo error line → RejectsLine IsOfJson error line
refuses error line other (inl (memory, cookie, created)) = absurd (other memory)
refuses error line other (inr (inl not_utf8)) = inl not_utf8
refuses error line other (inr (inr (valid, inl refused))) = inr (valid, refused)
refuses error line other (inr (inr (valid, inr (memory, some)))) = absurd (other memory)

pub migrates_by : (fault : LoadError) (old new : SourceState)
    → StopsLoading JsonParsesTo fault old new
    → FailsToMigrate (migrate_error_of fault) old new
migrates_by (Source Fill.Read) old new stops = stops
migrates_by (Source Fill.Memory) old new stops =
    (fails_by JsonParsesTo (Source Fill.Memory) old new stops, stops.1)
migrates_by (Line number Memory) old new stops =
    (fails_by JsonParsesTo (Line number Memory) old new stops, stops.3)
migrates_by (Line number (Cookie rejection)) old new (line, fails, reached, count) =
    ((line, refuses (Cookie rejection) line (λ is. cc) fails, reached), count)
migrates_by (Line number (Idna errors)) old new (line, fails, reached, count) =
    ((line, refuses (Idna errors) line (λ is. cc) fails, reached), count)
migrates_by (Line number Io) old new (line, fails, reached, count) =
    ((line, refuses Io line (λ is. cc) fails, reached), count)
migrates_by (Line number (Saved fault)) old new (line, fails, reached, count) =
    ((line, refuses (Saved fault) line (λ is. cc) fails, reached), count)
migrates_by (Line number (Other text)) old new (line, fails, reached, count) =
    ((line, refuses (Other text) line (λ is. cc) fails, reached), count)
migrates_by (Line number NotUtf8) old new (line, fails, reached, count) =
    ((line, refuses NotUtf8 line (λ is. cc) fails, reached), count)
