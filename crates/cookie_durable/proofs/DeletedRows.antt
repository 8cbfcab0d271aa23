-- The rows of a table after those of cookies that are gone were deleted.
use Rattle.std.proofs.Common.{◌≡◌, ℤ, Bool, List, map, sym, subst}
use Rattle.sqlite_value.specs.Order.{Row as TableRow}
use Rattle.cookie_words.specs.Moments.{Moment}
use Rattle.cookie_parts.specs.Cookie.{Row}
use Rattle.cookie_laws.specs.Contents.{Contents, retained, unexpired}
use Rattle.durable_table.specs.Changes.{after}
use Rattle.durable_table.specs.declared.change.Change.{Change}
use Rattle.durable_table.specs.declared.change.Change.TheVariants.{Delete}
use Rattle.cookie_durable.specs.Numbering.{Ids, IsNumbered}
use Rattle.cookie_durable.specs.Sweeping.{AreDistinct, Shrinks, gone_ids, kept_ids}
use Rattle.cookie_durable.proofs.LeftRows.{retained-shrinks, unexpired-shrinks}
use Rattle.cookie_durable.proofs.SweptRows.{swept}

-- the expired cookies were removed
pub expired_shrinks : (before store : Contents) (now : Moment) (ids : Ids) (next : ℤ) (rows : List TableRow) → store ≡ unexpired now before
    → IsNumbered before ids next rows → Shrinks before store
expired_shrinks before store now ids next rows is numbered =
    subst (Shrinks before) (sym is) (unexpired-shrinks before now numbered.unlimited numbered.order)

-- the cookies that fail a test were removed
pub retained_shrinks : (before store : Contents) (test : Row → Bool) (ids : Ids) (next : ℤ) (rows : List TableRow) → store ≡ retained test before
    → IsNumbered before ids next rows → Shrinks before store
retained_shrinks before store test ids next rows is numbered =
    subst (Shrinks before) (sym is) (retained-shrinks before test numbered.unlimited numbered.order)

-- the rows after the changes that delete those of the cookies that were removed
pub swept-numbered : (before store : Contents) (ids new_ids : Ids) (next : ℤ) (rows : List TableRow) (changes : List Change)
    → new_ids ≡ kept_ids store ids → changes ≡ map Delete (gone_ids store ids) → AreDistinct ids → Shrinks before store
    → IsNumbered before ids next rows → IsNumbered store new_ids next (after changes rows)
swept-numbered before store ids new_ids next rows changes ids_are changes_are distinct shrinks numbered =
    subst (λ (cs : List Change). IsNumbered store new_ids next (after cs rows)) (sym changes_are)
    (subst (λ (i : Ids). IsNumbered store i next (after (map Delete (gone_ids store ids)) rows)) (sym ids_are)
    (swept before store ids next rows distinct shrinks numbered))
