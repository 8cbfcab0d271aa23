-- The rows of a store: one list of cookies, each under its key.
use Rattle.std.specs.Prelude.{◌≡◌, ℕ, Bool, true, not, ◌&&◌, ◌||◌, List, [], ◌∷◌, ◌++◌, bytes_eq, filter, find, map, Option, Some, None, if◌then◌else◌}
use Rattle.std.specs.Cmp.{IsEquivalence}
use Rattle.std.specs.List.{list_any}
use Rattle.std.proofs.lemmas.Bool.{and_parts}
use Rattle.std.proofs.lemmas.Cmp.{nat_list_eq_equiv, on_equiv, and_equiv}
use Rattle.std.proofs.lemmas.Slice.Eq.{bytes_eq-Decides}
use Rattle.cookie_words.specs.Moments.{Moment}
use Rattle.cookie_parts.specs.Cookie.{Row, is_expired}
use Rattle.cookie_parts.specs.Domain.{domain_text}

-- RFC 6265 5.3 step 11: no two stored cookies have the same domain, path and name
pub record Key : Type 0 where
  pub domain : List ℕ
  pub path : List ℕ
  pub name : List ℕ

-- the key of this domain, path and name
abbrev pub key_at : List ℕ → List ℕ → List ℕ → Key
key_at domain path name = record { domain = domain; path = path; name = name }

-- the key of a cookie
abbrev pub key_of : Row → Key
key_of cookie = record { domain = domain_text cookie.domain; path = cookie.path.text; name = cookie.raw.name }

-- the keys have the same domain
abbrev pub same_domain : Key → Key → Bool
same_domain a b = bytes_eq a.domain b.domain

-- the keys have the same domain and path
abbrev pub same_group : Key → Key → Bool
same_group a b = same_domain a b && bytes_eq a.path b.path

-- the keys have the same domain, path and name
abbrev pub same_key : Key → Key → Bool
same_key a b = same_group a b && bytes_eq a.name b.name

-- `same_domain` is an equivalence
pub same_domain_equiv : IsEquivalence same_domain
same_domain_equiv = on_equiv (λ (k : Key). k.domain) nat_list_eq_equiv

-- `same_group` is an equivalence
pub same_group_equiv : IsEquivalence same_group
same_group_equiv = and_equiv same_domain_equiv (on_equiv (λ (k : Key). k.path) nat_list_eq_equiv)

-- `same_key` is an equivalence
pub same_key_equiv : IsEquivalence same_key
same_key_equiv = and_equiv same_group_equiv (on_equiv (λ (k : Key). k.name) nat_list_eq_equiv)

-- keys that `same_key` accepts are equal
pub same_key-true : (a b : Key) → same_key a b ≡ true → a ≡ b
same_key-true a b h =
    let named : (same_group a b ≡ true) × (bytes_eq a.name b.name ≡ true) = and_parts _ _ h in
    let group : (same_domain a b ≡ true) × (bytes_eq a.path b.path ≡ true) = and_parts _ _ named.0 in
    let domain : a.domain ≡ b.domain = (bytes_eq-Decides a.domain b.domain).0 group.0 in
    let path : a.path ≡ b.path = (bytes_eq-Decides a.path b.path).0 group.1 in
    let name : a.name ≡ b.name = (bytes_eq-Decides a.name b.name).0 named.1 in
    λ i. record { domain = domain i; path = path i; name = name i }

-- the row has the key's domain
abbrev pub in_domain : Key → Row → Bool
in_domain key row = same_domain key (key_of row)

-- the row has the key's domain and path
abbrev pub in_group : Key → Row → Bool
in_group key row = same_group key (key_of row)

-- the row has this key
abbrev pub has_key : Key → Row → Bool
has_key key row = same_key key (key_of row)

-- the row of the key, if there is one
abbrev pub row_of : Key → List Row → Option Row
row_of key rows = find (has_key key) rows

-- the row has not expired
abbrev pub is_unexpired : Moment → Row → Bool
is_unexpired now row = not (is_expired now row)

-- the row, if there is one and it has not expired
abbrev pub if_unexpired : Moment → Option Row → Option Row
if_unexpired now None = None
if_unexpired now (Some row) = if is_unexpired now row then Some row else None

-- the rows that have not expired
abbrev pub unexpired_rows : Moment → List Row → List Row
unexpired_rows now rows = filter (is_unexpired now) rows

-- the list with y inserted right after the last item that passes the test, or at the end if none
-- does
abbrev pub after_last : {T : Type 0} → (T → Bool) → List T → T → List T
after_last test [] y = y ∷ []
after_last test (x ∷ xs) y =
    if test x && not (list_any test xs) then x ∷ y ∷ xs else x ∷ after_last test xs y

-- the list with its first item that passes the test changed
abbrev pub changed : {T : Type 0} → (T → Bool) → (T → T) → List T → List T
changed test change [] = []
changed test change (x ∷ xs) = if test x then change x ∷ xs else x ∷ changed test change xs

-- the list with its first item that passes the test replaced by y
abbrev pub replaced : {T : Type 0} → (T → Bool) → List T → T → List T
replaced test xs y = changed test (λ _. y) xs

-- the list without its first item that passes the test
abbrev pub removed : {T : Type 0} → (T → Bool) → List T → List T
removed test [] = []
removed test (x ∷ xs) = if test x then xs else x ∷ removed test xs

-- the rows with a new row: after the last row of its domain and path, else after the last row of
-- its domain, else at the end
abbrev pub placed : List Row → Row → List Row
placed rows cookie =
    if list_any (in_group (key_of cookie)) rows then after_last (in_group (key_of cookie)) rows cookie
    else after_last (in_domain (key_of cookie)) rows cookie

-- the rows with the cookie stored: it replaces the row of its key, or is a new row
abbrev pub put : List Row → Row → List Row
put rows cookie =
    if list_any (has_key (key_of cookie)) rows then replaced (has_key (key_of cookie)) rows cookie
    else placed rows cookie

-- the rows after these cookies are stored, one after the other
abbrev pub put_all : List Row → List Row → List Row
put_all rows [] = rows
put_all rows (cookie ∷ cookies) = put_all (put rows cookie) cookies

-- the creation order after a key is stored: a new key comes last, a known one keeps its place
abbrev pub add_created : List Key → Key → List Key
add_created created key = if list_any (same_key key) created then created else created ++ key ∷ []

-- the creation order after these keys are stored, one after the other
abbrev pub add_all_created : List Key → List Key → List Key
add_all_created created [] = created
add_all_created created (key ∷ keys) = add_all_created (add_created created key) keys

-- all of the cookies, or only those that have not expired
abbrev pub included : Bool → Moment → List Row → List Row
included include_expired now cookies = if include_expired then cookies else unexpired_rows now cookies

-- rows, and their keys in creation order, oldest first
pub record RowsInOrder : Type 0 where
  pub rows : List Row
  pub created : List Key

-- the rows built from cookies, with or without the expired ones; their creation order is that of
-- the list
abbrev pub built : Bool → Moment → List Row → RowsInOrder
built include_expired now cookies =
    let taken = included include_expired now cookies in
    record { rows = put_all [] taken; created = add_all_created [] (map key_of taken) }

-- no two items are alike
abbrev pub differ : {T : Type 0} → (T → T → Bool) → List T → Bool
differ alike [] = true
differ alike (x ∷ xs) = not (list_any (alike x) xs) && differ alike xs

-- items that are alike are adjacent: if the next item is not like this one, no later item is
abbrev pub are_adjacent : {T : Type 0} → (T → T → Bool) → List T → Bool
are_adjacent alike [] = true
are_adjacent alike (x ∷ []) = true
are_adjacent alike (x ∷ y ∷ ys) =
    (alike x y || not (list_any (alike x) ys)) && are_adjacent alike (y ∷ ys)

-- keys differ, the rows of a domain are adjacent, and in them those of a path
abbrev pub are_rows : List Row → Bool
are_rows rows =
    let keys = map key_of rows in
    differ same_key keys && (are_adjacent same_domain keys && are_adjacent same_group keys)
