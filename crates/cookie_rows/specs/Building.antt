-- Stores built from the items of an iterator.
use Rattle.std.specs.Prelude.{◌≡◌, Bool, List, [], ◌∷◌, ◌++◌, map, Option, Some, None, Result, Ok, Err}
use Rattle.std.specs.Iterator.{YieldsThen}
use Rattle.cookie_words.specs.Moments.{Moment}
use Rattle.cookie_parts.specs.Cookie.{Row}
use Rattle.cookie_parts.specs.declared.error.Error.{Error}
use Rattle.cookie_laws.specs.Rows.{RowsInOrder, built, included, key_of, row_of}

-- all items are cookies, these are the rows built from them, and `rest` is the iterator afterwards
abbrev pub BuildsAt : {S : Type 0} → (S → Option (Result Row Error) → S → Type 0) → S → S → Bool → Moment → RowsInOrder → Type 0
BuildsAt steps items rest include_expired now kept =
    (cookies : List Row) × YieldsThen steps items (map Ok cookies) None rest × (kept ≡ built include_expired now cookies)

-- the same, whatever the iterator is afterwards
abbrev pub Builds : {S : Type 0} → (S → Option (Result Row Error) → S → Type 0) → S → Bool → Moment → RowsInOrder → Type 0
Builds {S} steps items include_expired now kept = (rest : S) × BuildsAt steps items rest include_expired now kept

-- the first item that is not a cookie is this error, and `rest` is the iterator after it
abbrev pub FailsFirstAt : {S : Type 0} → (S → Option (Result Row Error) → S → Type 0) → S → S → Error → Type 0
FailsFirstAt steps items rest error =
    (cookies : List Row) × YieldsThen steps items (map Ok cookies) (Some (Err error)) rest

-- the same, whatever the iterator is afterwards
abbrev pub FailsFirst : {S : Type 0} → (S → Option (Result Row Error) → S → Type 0) → S → Error → Type 0
FailsFirst {S} steps items error = (rest : S) × FailsFirstAt steps items rest error

-- the cookie would be a new row: it is not skipped, and no row has its key
abbrev pub IsNewRow : Bool → Moment → RowsInOrder → Row → Type 0
IsNewRow include_expired now kept cookie =
    (included include_expired now (cookie ∷ []) ≡ cookie ∷ []) × (row_of (key_of cookie) kept.rows ≡ None)

-- the first items are cookies, the next one is a cookie that would be a new row, and `rest` is the
-- iterator after it
abbrev pub ReachesNewRowAt : {S : Type 0} → (S → Option (Result Row Error) → S → Type 0) → S → S → Bool → Moment → Type 0
ReachesNewRowAt steps items rest include_expired now =
    (cookies : List Row) × (next : Row) × YieldsThen steps items (map Ok cookies) (Some (Ok next)) rest
    × IsNewRow include_expired now (built include_expired now cookies) next

-- the same, whatever the iterator is afterwards
abbrev pub ReachesNewRow : {S : Type 0} → (S → Option (Result Row Error) → S → Type 0) → S → Bool → Moment → Type 0
ReachesNewRow {S} steps items include_expired now = (rest : S) × ReachesNewRowAt steps items rest include_expired now

-- if the old rows are built from some cookies, the new rows are built from these and this one
abbrev pub TakesCookie : Bool → Moment → Row → RowsInOrder → RowsInOrder → Type 0
TakesCookie include_expired now cookie old new =
    (cookies : List Row) → old ≡ built include_expired now cookies → new ≡ built include_expired now (cookies ++ cookie ∷ [])
