-- What the two files of a durable store hold: the database file and its log.
use Rattle.std.specs.Prelude.{◌≡◌, ◌⊎◌, ℕ, Bool, true, false, codes, length, IsTrue, List, [], ◌∷◌}
use Rattle.sqlite_disk.specs.declared.Disk.{Ghosts}
use Rattle.sqlite_disk.specs.declared.Files.{Files}
use Rattle.sqlite_wal.specs.Files.{seen_image, outcomes}
use Rattle.sqlite_wal.specs.Reads.{AreClean}
use Rattle.sqlite_wal.specs.Recovery.{Image}
use Rattle.sqlite_pages.specs.PageMap.{PageMap}
use Rattle.sqlite_pool.specs.File.{in_use}
use Rattle.sqlite_pool.specs.Opening.{IsBlankFile, IsNew}
use Rattle.sqlite_pool.specs.Stored.{Recovers, RecoversAs}
use Rattle.sqlite_value.specs.Order.{Row}
use Rattle.sqlite_value.specs.declared.value.Value.TheVariants.{Text}
use Rattle.sqlite_trees.specs.Tree.{Trees}
use Rattle.sqlite_trees.specs.declared.store.Shape.TheVariants.{Table}
use Rattle.sqlite_store.specs.Db.{rows_at, IsFile}
use Rattle.sqlite_store.specs.FileStore.{recovers, view}
use Rattle.sqlite_store.specs.Listing.{file_trees}
use Rattle.sqlite_store.specs.Opening.{IsFresh}
use Rattle.sqlite_store.specs.Unopened.{image, state_of}
use Rattle.sqlite_store.specs.declared.catalog.Wanted.{Wanted}
use Rattle.sqlite_store.specs.declared.store.open.Unopened.{Unopened}
use Rattle.cookie_table.specs.declared.writing.TheConstants.{CREATE_TABLE}
use Rattle.cookie_laws.specs.Contents.{Contents}
use Rattle.cookie_durable.specs.SavedTables.{Holds}
use Rattle.cookie_durable.specs.Sessions.{kept_rows}
use Rattle.cookie_durable.specs.declared.attaching.Leftover.{Leftover}
use Rattle.cookie_durable.specs.declared.attaching.Leftover.TheVariants as left

-- the table `cookies`
abbrev pub cookies_table : Wanted
cookies_table = record { shape = Table; reals = 0; row = Text (codes "table") ∷ Text (codes "cookies") ∷ Text (codes "cookies") ∷ Text CREATE_TABLE.now ∷ [] }

-- this table and nothing else
abbrev pub cookies_schema : List Wanted
cookies_schema = cookies_table ∷ []

-- the rows of `sqlite_schema`
abbrev pub listed_in : ℕ → PageMap → List Row
listed_in size pages = rows_at size (in_use size pages) Table 1

-- the rows of the table `cookies`
abbrev pub rows_in : ℕ → PageMap → List Row
rows_in size pages = file_trees size cookies_schema pages 0

-- there is no database, or one that lists nothing
abbrev pub HasNoTable : Image → Type 0
HasNoTable image = (size : ℕ) × (IsBlankFile size image ⊎ ((pages : PageMap) × Recovers size image pages × (listed_in size pages ≡ [])))

-- a sound database of the table `cookies` and nothing else
abbrev pub IsAlone : ℕ → PageMap → Type 0
IsAlone size pages = ∥ IsFile size cookies_schema pages ∥₁ × (length (listed_in size pages) ≡ 1)

-- The files are a database of the table `cookies` alone, with these rows. Or they have no table yet, and there are no rows.
abbrev pub FindsRows : Image → List Row → Type 0
FindsRows image rows =
    ((size : ℕ) × (pages : PageMap) × Recovers size image pages × IsAlone size pages × (rows ≡ rows_in size pages))
    ⊎ (HasNoTable image × (rows ≡ []))

-- the store has the cookies of these rows that are kept
abbrev pub FindsCookies : Bool → Image → Contents → Type 0
FindsCookies keep_session image store = (rows : List Row) × FindsRows image rows × Holds store (kept_rows keep_session rows)

-- no database yet, its first page alone, or the empty table
abbrev pub IsUnderWay : ℕ → Image → Type 0
IsUnderWay size image =
    IsBlankFile size image ⊎ ((pages : PageMap) × Recovers size image pages × (IsNew size pages ⊎ ∥ IsFresh size cookies_schema pages ∥₁))

-- the files stand for what they stood for, or the table is being made, where there was none
abbrev pub IsHarmless : ℕ → Image → Image → Type 0
IsHarmless size old new = RecoversAs size old new ⊎ (HasNoTable old × IsUnderWay size new)

-- what the two files read as
abbrev pub image_of : {D : Type 0} → Ghosts D → Files D → Image
image_of g files = seen_image g files.log files.db

module _ {D : Type 0} {g : Ghosts D} where
  -- the files recover to the same pages before the call and after it; if they do not list the table, they list nothing
  pub record HasRead (lists : Bool) (old new : Unopened D g) : Type 0 where
    pub pages : PageMap
    pub found : Recovers (state_of old).page_size (image old) pages
    pub again : Recovers (state_of old).page_size (image new) pages
    pub alone : lists ≡ true → length (listed_in (state_of old).page_size pages) ≡ 1
    pub nothing : lists ≡ false → listed_in (state_of old).page_size pages ≡ []

  -- each outcome of a crash is an old one or harmless
  pub record IsSpared (old new : Unopened D g) : Type 0 where
    pub size : (state_of new).page_size ≡ (state_of old).page_size
    pub crash : (after : Image) → (state_of new).may_leave after → (state_of old).may_leave after ⊎ IsHarmless (state_of old).page_size (image old) after

  -- no wrong answer of the disk was taken as true
  abbrev pub IsCleanLeft : Leftover D g → Type 0
  IsCleanLeft (left.Files files) = AreClean g files.log files.db
  IsCleanLeft (left.Unopened files) = IsTrue (state_of files).is_clean
  IsCleanLeft (left.Store it) = IsTrue (view it).is_clean

  -- what a crash may leave after an open that failed: what it could leave before, or something harmless; once the table was opened,
  -- its rows or those that are kept
  abbrev pub LeavesFiles : Bool → Files D → Leftover D g → Type 0
  LeavesFiles keep_session files (left.Files now) = (after : Image) → outcomes g now.log now.db after → outcomes g files.log files.db after
  LeavesFiles keep_session files (left.Unopened now) =
      (after : Image) → (state_of now).may_leave after → outcomes g files.log files.db after ⊎ IsHarmless (state_of now).page_size (image_of g files) after
  LeavesFiles keep_session files (left.Store it) =
      (rows : List Row) × FindsRows (image_of g files) rows × ((db : Trees) → recovers it db → (db 0 ≡ rows) ⊎ (db 0 ≡ kept_rows keep_session rows))
