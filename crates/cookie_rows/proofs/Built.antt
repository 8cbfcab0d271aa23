-- Rows that are built from cookies, and from one cookie more.
use Rattle.std.proofs.Common.{◌≡◌, ◌∙◌, ap, sym, refl, Bool, true, false, List, [], ◌∷◌, ◌++◌, map}
use Rattle.std.proofs.lemmas.List.{map-append}
use Rattle.std.proofs.lemmas.List.Elements.{filter-append}
use Rattle.cookie_words.specs.Moments.{Moment}
use Rattle.cookie_parts.specs.Cookie.{Row}
use Rattle.cookie_rows.specs.Building.{TakesCookie}
use Rattle.cookie_laws.specs.Rows.{Key, RowsInOrder, built, included, key_of, add_created, add_all_created, put, put_all}

-- cookies, and then others
put_all_append : (rows xs ys : List Row) → put_all rows (xs ++ ys) ≡ put_all (put_all rows xs) ys
put_all_append rows [] ys = refl
put_all_append rows (x ∷ xs) ys = put_all_append (put rows x) xs ys

-- keys, and then others
make_all_append : (created xs ys : List Key) → add_all_created created (xs ++ ys) ≡ add_all_created (add_all_created created xs) ys
make_all_append created [] ys = refl
make_all_append created (x ∷ xs) ys = make_all_append (add_created created x) xs ys

-- those of cookies and of others that count
included_append : (include_expired : Bool) (now : Moment) (xs ys : List Row)
    → included include_expired now (xs ++ ys) ≡ included include_expired now xs ++ included include_expired now ys
included_append true now xs ys = refl
included_append false now xs ys = filter-append _ xs ys

-- rows and keys, and then those of cookies
abbrev pub taken : RowsInOrder → List Row → RowsInOrder
taken kept cookies = record { rows = put_all kept.rows cookies; created = add_all_created kept.created (map key_of cookies) }

-- cookies that come after others
taken_append : (kept : RowsInOrder) (xs ys : List Row) → taken kept (xs ++ ys) ≡ taken (taken kept xs) ys
taken_append kept xs ys =
    let rows = put_all_append kept.rows xs ys in
    let created = ap (add_all_created kept.created) (map-append key_of xs ys) ∙ make_all_append kept.created (map key_of xs) (map key_of ys) in
    λ i. record { rows = rows i; created = created i }

-- one cookie more
pub built_more : (include_expired : Bool) (now : Moment) (cookies : List Row) (cookie : Row)
    → taken (built include_expired now cookies) (included include_expired now (cookie ∷ []))
    ≡ built include_expired now (cookies ++ cookie ∷ [])
built_more include_expired now cookies cookie =
    let none : RowsInOrder = record { rows = []; created = [] } in
    sym (taken_append none (included include_expired now cookies) (included include_expired now (cookie ∷ [])))
    ∙ ap (taken none) (sym (included_append include_expired now cookies (cookie ∷ [])))

-- storing a cookie that is included
pub takes_put : (include_expired : Bool) (now : Moment) (cookie : Row) (old new : RowsInOrder)
    → included include_expired now (cookie ∷ []) ≡ cookie ∷ []
    → new ≡ record { rows = put old.rows cookie; created = add_created old.created (key_of cookie) }
    → TakesCookie include_expired now cookie old new
takes_put include_expired now cookie old new counts is = λ cookies are_built.
    is ∙ ap (λ (k : RowsInOrder). record { rows = put k.rows cookie; created = add_created k.created (key_of cookie) }) are_built
    ∙ ap (taken (built include_expired now cookies)) (sym counts) ∙ built_more include_expired now cookies cookie
