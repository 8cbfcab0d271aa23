-- Cookies as the contents of a file.
use Rattle.std.specs.Prelude.{◌≡◌, ℕ, ◌&&◌, List, [], filter, is_some, length, Option, Some}
use Rattle.cookie_parts.specs.Cookie.{Row}
use Rattle.cookie_netscape.specs.Written.{is_representable}
use Rattle.cookie_serde.specs.declared.format.Format.TheVariants.{Json, Ron, Netscape}
use Rattle.cookie_serde.specs.declared.which.Which.TheVariants.{All}
use Rattle.cookie_store.specs.Rows.{RowsInOrder}
use Rattle.cookie_store.specs.Formats.{LoadsAs, WritesAs}
use Rattle.cookie_store.specs.JsonLines.{SerializesToJson}
use Rattle.cookie_store.specs.Migration.{Migrates}
use Rattle.cookie_store.specs.NetscapeLists.{LoadsWellFormed}
use Rattle.cookie_store.specs.Saving.{WritesRows}
use Rattle.cookie_store.specs.Selections.{selected}
use Rattle.cookies.specs.declared.format.FileFormat.{FileFormat}
use Rattle.cookies.specs.declared.format.FileFormat.TheVariants.{JsonLines, Saved}

-- the rows that the contents of a file hold, expired ones and session cookies included
abbrev pub Holds : FileFormat → List ℕ → RowsInOrder → Type 0
Holds (Saved format) contents kept = LoadsAs format (Some contents) All kept
Holds JsonLines contents kept = Migrates (Some contents) kept

-- the rows that the contents of a file hold, without the malformed lines of a `cookies.txt`, whose numbers these are
abbrev pub HoldsWellFormed : FileFormat → List ℕ → RowsInOrder → List ℕ → Type 0
HoldsWellFormed (Saved Netscape) contents kept malformed = LoadsWellFormed (Some contents) All kept malformed
HoldsWellFormed (Saved Json) contents kept malformed = Holds (Saved Json) contents kept × (malformed ≡ [])
HoldsWellFormed (Saved Ron) contents kept malformed = Holds (Saved Ron) contents kept × (malformed ≡ [])
HoldsWellFormed JsonLines contents kept malformed = Holds JsonLines contents kept × (malformed ≡ [])

-- all rows were written, and nothing else
abbrev pub WritesFile : FileFormat → List Row → Option (List ℕ) → Option (List ℕ) → Type 0
WritesFile (Saved format) rows old new = WritesAs format (selected All rows) old new
WritesFile JsonLines rows old new = WritesRows SerializesToJson rows old new

-- how many of the rows that a `cookies.txt` can represent have a SameSite attribute
abbrev pub same_site_count : List Row → ℕ
same_site_count rows = length (filter (λ row. is_some row.raw.same_site && is_representable row) rows)
