-- Cookies that are loaded one after the other.
use Rattle.std.proofs.Common.{◌≡◌, ◌∙◌, [], ◌∷◌, ◌++◌, List, true, false, ap, map, refl, sym}
use Rattle.std.proofs.lemmas.List.{append-nil, map-append}
use Rattle.std.proofs.lemmas.List.Elements.{filter-append}
use Rattle.cookie_parts.specs.Cookie.{Row}
use Rattle.cookie_laws.specs.Rows.{Key, RowsInOrder, add_all_created, add_created, key_of, put, put_all}
use Rattle.cookie_serde.specs.Selections.{TakesCookie, built_of, is_selected, selected}
use Rattle.cookie_serde.specs.declared.which.Which.{Which}

-- one more cookie is stored last
put_last : (rows xs : List Row) (y : Row) → put_all rows (xs ++ y ∷ []) ≡ put (put_all rows xs) y
put_last rows [] y = refl
put_last rows (x ∷ xs) y = put_last (put rows x) xs y

-- and so is its key
key_last : (created xs : List Key) (y : Key) → add_all_created created (xs ++ y ∷ []) ≡ add_created (add_all_created created xs) y
key_last created [] y = refl
key_last created (x ∷ xs) y = key_last (add_created created x) xs y

-- a cookie that is loaded is stored after the others
pub takes_put : (which : Which) (cookie : Row) (old new : RowsInOrder) → is_selected which cookie ≡ true
    → new ≡ record { rows = put old.rows cookie; created = add_created old.created (key_of cookie) } → TakesCookie which cookie old new
takes_put which cookie old new is puts cookies are_built =
    let taken = selected which cookies in
    let more : selected which (cookies ++ cookie ∷ []) ≡ taken ++ cookie ∷ [] =
    filter-append (is_selected which) cookies (cookie ∷ []) ∙ ap (λ xs. taken ++ xs) (rw is refl) in
    let rows = put_last [] taken cookie in
    let created = ap (add_all_created []) (map-append key_of taken (cookie ∷ [])) ∙ key_last [] (map key_of taken) (key_of cookie) in
    puts ∙ ap (λ (kept : RowsInOrder). record { rows = put kept.rows cookie; created = add_created kept.created (key_of cookie) }) are_built
    ∙ sym (ap built_of more ∙ (λ i. record { rows = rows i; created = created i }))

-- one that is not loaded changes nothing
pub takes_nothing : (which : Which) (cookie : Row) (old : RowsInOrder) → is_selected which cookie ≡ false → TakesCookie which cookie old old
takes_nothing which cookie old is cookies are_built =
    let taken = selected which cookies in
    let same : selected which (cookies ++ cookie ∷ []) ≡ taken =
    filter-append (is_selected which) cookies (cookie ∷ []) ∙ ap (λ xs. taken ++ xs) (rw is refl) ∙ append-nil taken in
    are_built ∙ sym (ap built_of same)
