-- What a call touches.
use Rattle.std.proofs.Common.{◌≡◌, ℤ, List, sym, subst}
use Rattle.url.specs.Parts.{Parts}
use Rattle.sqlite_value.specs.Order.{Row as TableRow}
use Rattle.cookie_words.specs.Moments.{Moment}
use Rattle.cookie_parts.specs.Cookie.{Row}
use Rattle.cookie_laws.specs.Contents.{Contents}
use Rattle.cookie_laws.specs.Rows.{Key, key_of}
use Rattle.cookie_laws.specs.Runs.{Insert, Remove, step}
use Rattle.cookie_durable.specs.Numbering.{Ids, IsNumbered, Names, Touches, key_in}
use Rattle.cookie_durable.proofs.TouchedKeys.{accept-touches, remove-touches}

-- an insertion touches the key of its cookie
pub insert_touches : (before store : Contents) (cookie : Row) (url : Parts) (now : Moment) (names : Names) (ids : Ids) (next : ℤ) (rows : List TableRow)
    → key_in names ≡ key_of cookie → store ≡ (step (Insert cookie url now) before).store → IsNumbered before ids next rows
    → Touches (key_in names) before store
insert_touches before store cookie url now names ids next rows same is numbered =
    subst (λ (s : Contents). Touches (key_in names) before s) (sym is)
    (subst (λ (k : Key). Touches k before (step (Insert cookie url now) before).store) (sym same)
    (accept-touches before cookie url now numbered.unlimited numbered.order))

-- a removal touches its key
pub remove_touches : (before store : Contents) (key : Key) (names : Names) (ids : Ids) (next : ℤ) (rows : List TableRow)
    → key_in names ≡ key → store ≡ (step (Remove key) before).store → IsNumbered before ids next rows → Touches (key_in names) before store
remove_touches before store key names ids next rows same is numbered =
    subst (λ (s : Contents). Touches (key_in names) before s) (sym is)
    (subst (λ (k : Key). Touches k before (step (Remove key) before).store) (sym same)
    (remove-touches before key numbered.unlimited numbered.order))
