-- The cookies of one store merged into another.
use Rattle.std.specs.Prelude.{◌≡◌, ◌≢◌, ◌⊎◌, ℕ, ◌+◌, Bool, true, false, List, [], ◌++◌, length, Option, Some, None, Result, Ok, Err}
use Rattle.std.specs.List.{count_by}
use Rattle.cookie_words.specs.Moments.{Moment}
use Rattle.cookie_parts.specs.Cookie.{Row}
use Rattle.cookie_laws.specs.Contents.{Contents}
use Rattle.cookie_laws.specs.Runs.{replies, store_after}
use Rattle.cookie_core.specs.Merging.{is_stored, own_insertions}
use Rattle.cookie_strict.specs.StrictMerging.{how_many_allowed}
use Rattle.cookie_strict.specs.StrictRuns.{strict_store_after}
use Rattle.cookie_store_c.specs.declared.status.Status.{Status}
use Rattle.cookie_store_c.specs.declared.status.Status.TheVariants.{Done, NoMemory, NoStore}

-- the store after the cookies were inserted, under the rules of browsers if it is strict
abbrev pub merged : Bool → Moment → List Row → Contents → Contents
merged false now cookies store = store_after (own_insertions now cookies) store
merged true now cookies store = strict_store_after (own_insertions now cookies) store

-- how many of them were inserted
abbrev pub how_many_merged : Bool → Moment → List Row → Contents → ℕ
how_many_merged false now cookies store = count_by is_stored (replies (own_insertions now cookies) store)
how_many_merged true now cookies store = how_many_allowed (own_insertions now cookies) store

-- what the call reports, and the store after it
pub record MergeReport : Type 0 where
  pub status : Status
  pub left_out : ℕ
  pub store : Option Contents

-- an error that leaves the store unchanged
abbrev pub merge_error : Status → Option Contents → MergeReport
merge_error status store = record { status = status; left_out = 0; store = store }

-- the cookies are merged, and those that are left out are counted; or memory ran out, and only those before one are merged
abbrev pub Merges : Bool → Moment → List Row → Contents → MergeReport → Type 0
Merges is_strict now cookies store report =
    ((report.status ≡ Done) × (report.store ≡ Some (merged is_strict now cookies store))
    × (report.left_out + how_many_merged is_strict now cookies store ≡ length cookies))
    ⊎ ((report.status ≡ NoMemory) × (report.left_out ≡ 0) × (cookies ≢ []) × (done : List Row) × (others : List Row)
    × (cookies ≡ done ++ others) × (report.store ≡ Some (merged is_strict now done store)))

-- the same for the cookies of another store, unless one of the stores is missing or the time is out of range
abbrev pub MergesStores : Bool → Result Moment Status → Option Contents → Option Contents → MergeReport → Type 0
MergesStores is_strict now from None report = report ≡ merge_error NoStore None
MergesStores is_strict now None (Some store) report = report ≡ merge_error NoStore (Some store)
MergesStores is_strict (Err status) (Some from) (Some store) report = report ≡ merge_error status (Some store)
MergesStores is_strict (Ok now) (Some from) (Some store) report = Merges is_strict now from.rows store report
