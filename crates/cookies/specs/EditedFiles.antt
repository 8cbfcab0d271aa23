-- Files after an edit.
use Rattle.std.specs.Prelude.{◌≡◌, ℕ, ◌==◌, Bool, not, List, [], find, length, Option, Some, if◌then◌else◌}
use Rattle.cookie_parts.specs.Cookie.{Row, same_cookie}
use Rattle.cookie_parts.specs.Hosts.{passes}
use Rattle.cookie_store.specs.Edits.{put_text, retained_text}
use Rattle.cookie_store.specs.NetscapeLists.{file_text}
use Rattle.cookie_store.specs.Rows.{key_of, row_of}
use Rattle.cookies.specs.Storage.{WritesFile}
use Rattle.cookie_serde.specs.declared.format.Format.TheVariants.{Json, Ron, Netscape}
use Rattle.cookies.specs.declared.format.FileFormat.{FileFormat}
use Rattle.cookies.specs.declared.format.FileFormat.TheVariants.{JsonLines, Saved}

-- the new contents, of which the rows are what remains
abbrev pub AfterRemoval : FileFormat → List ℕ → List Row → List ℕ → Type 0
AfterRemoval (Saved Netscape) contents rows new = new ≡ retained_text rows contents
AfterRemoval (Saved Json) contents rows new = WritesFile (Saved Json) rows (Some []) (Some new)
AfterRemoval JsonLines contents rows new = WritesFile JsonLines rows (Some []) (Some new)
AfterRemoval (Saved Ron) contents rows new = WritesFile (Saved Ron) rows (Some []) (Some new)

-- the file to begin with: the first line of a `cookies.txt` if there is nothing
abbrev pub begun_file : List ℕ → List ℕ
begun_file contents = if length contents == 0 then file_text [] else contents

-- the new contents, of which this is the new row
abbrev pub AfterSet : FileFormat → List ℕ → List Row → Row → List ℕ → Type 0
AfterSet (Saved Netscape) contents rows cookie new = new ≡ put_text (begun_file contents) cookie
AfterSet (Saved Json) contents rows cookie new = WritesFile (Saved Json) rows (Some []) (Some new)
AfterSet JsonLines contents rows cookie new = WritesFile JsonLines rows (Some []) (Some new)
AfterSet (Saved Ron) contents rows cookie new = WritesFile (Saved Ron) rows (Some []) (Some new)

-- the row of this one's key is the same cookie
abbrev pub has_row : List Row → Row → Bool
has_row rows row = passes (λ stored. same_cookie stored row) (row_of (key_of row) rows)

-- the first row after an edit that was not there before, or was another cookie
abbrev pub new_row : List Row → List Row → Option Row
new_row before after = find (λ row. not (has_row before row)) after
