-- Which cookies are saved or loaded.
use Rattle.std.specs.Prelude.{◌≡◌, Bool, true, List, [], ◌∷◌, ◌++◌, filter, map}
use Rattle.cookie_words.specs.Moments.{moment_of}
use Rattle.cookie_parts.specs.Cookie.{Row}
use Rattle.cookie_laws.specs.Rows.{RowsInOrder, add_all_created, is_unexpired, key_of, put_all}
use Rattle.cookie_serde.specs.Saving.{is_saved}
use Rattle.cookie_serde.specs.declared.which.Which.{Which}
use Rattle.cookie_serde.specs.declared.which.Which.TheVariants.{Persistent, Unexpired, All}

-- the cookie is one of those that are saved or loaded
abbrev pub is_selected : Which → Row → Bool
is_selected (Persistent now) = is_saved (moment_of now)
is_selected (Unexpired now) = is_unexpired (moment_of now)
is_selected All = λ cookie. true

-- those of the cookies that are saved or loaded
abbrev pub selected : Which → List Row → List Row
selected which cookies = filter (is_selected which) cookies

-- the rows built from cookies, one after the other; their creation order is that of the list
abbrev pub built_of : List Row → RowsInOrder
built_of cookies = record { rows = put_all [] cookies; created = add_all_created [] (map key_of cookies) }

-- the rows built from those of the cookies that are loaded
abbrev pub built_from : Which → List Row → RowsInOrder
built_from which cookies = built_of (selected which cookies)

-- if the old rows are built from some cookies, the new rows are built from these and this one
abbrev pub TakesCookie : Which → Row → RowsInOrder → RowsInOrder → Type 0
TakesCookie which cookie old new =
    (cookies : List Row) → old ≡ built_from which cookies → new ≡ built_from which (cookies ++ cookie ∷ [])
