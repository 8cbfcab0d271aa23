-- A store without its expired cookies: what is given of it later, and its keys in creation order.
use Rattle.std.proofs.Common.{◌≡◌, Bool, true, false, not, List, [], ◌∷◌, map, ◌≤ℤ◌, Some, ◌∙◌, refl, sym, ap, subst, arith}
use Rattle.std.specs.List.{AllByRecursion, filter, list_any}
use Rattle.std.proofs.lemmas.Bool.{and_parts, not-true, or_parts}
use Rattle.std.proofs.lemmas.Int.{ints}
use Rattle.std.proofs.lemmas.List.Sorted.{IsPermutation-sym}
use Rattle.url.specs.Parts.{Parts}
use Rattle.cookie_words.specs.Moments.{Moment, nanoseconds}
use Rattle.cookie_parts.specs.Cookie.{Row, is_expired}
use Rattle.cookie_parts.specs.Hosts.{passes}
use Rattle.cookie_laws.specs.Contents.{Contents, HasCreationOrder, has_expired, unexpired}
use Rattle.cookie_laws.specs.Given.{given, is_given}
use Rattle.cookie_laws.specs.Rows.{Key, differ, has_key, is_unexpired, key_of, unexpired_rows, row_of, same_key, same_key_equiv}
use Rattle.cookie_laws.proofs.CountedKeys.{CountAlike, alike-stays}
use Rattle.cookie_laws.proofs.DifferentKeys.{differ-filter, differ-permutation}
use Rattle.cookie_laws.proofs.Filtered.{filter-within}
use Rattle.cookie_laws.proofs.SameCounts.{alike_from_permutation, permutation_from_alike}

-- the cookies for a URL

-- what has expired remains so
expired-later : (now later : Moment) (row : Row) → nanoseconds now ≤ℤ nanoseconds later → is_unexpired later row ≡ true → is_unexpired now row ≡ true
expired-later now later row after live = grind (arith, ints, after, live)

-- a row that is given later has not expired
given-live : (url : Parts) (now later : Moment) (row : Row) → nanoseconds now ≤ℤ nanoseconds later → is_given url later row ≡ true → is_unexpired now row ≡ true
given-live url now later row after is = expired-later now later row after (and_parts _ _ (and_parts _ _ (and_parts _ _ is).0).0).0

-- so the same rows are given of those that have not
pub given-unexpired : (store : Contents) (url : Parts) (now later : Moment) → nanoseconds now ≤ℤ nanoseconds later
    → given url later (unexpired now store).rows ≡ given url later store.rows
given-unexpired store url now later after =
    filter-within (is_unexpired now) (is_given url later) (λ row is. given-live url now later row after is) store.rows

-- the keys in creation order

-- tests that agree on each item keep the same ones
filter-same : {T : Type 0} (p q : T → Bool) (xs : List T) → AllByRecursion (λ x. p x ≡ q x) xs → filter p xs ≡ filter q xs
filter-same p q [] a = refl
filter-same p q (x ∷ xs) a = grind (arith, a.0, filter-same p q xs a.1)

-- a row that is found by its key among some rows is found among these and one of another key
found-past : (row : Row) (rows all : List Row) → list_any (λ r. same_key (key_of row) (key_of r)) rows ≡ false
    → AllByRecursion (λ r. row_of (key_of r) all ≡ Some r) rows → AllByRecursion (λ r. row_of (key_of r) (row ∷ all) ≡ Some r) rows
found-past row [] all other found = tt
found-past row (r ∷ rs) all other found =
    let parts = or_parts _ _ other in
    let away : has_key (key_of r) row ≡ false = same_key_equiv.symm (key_of r) (key_of row) ∙ parts.0 in
    (rw away found.0, found-past row rs all parts.1 found.1)

-- whether a key is that of a row
any-key : (row : Row) (rows : List Row) → list_any (λ r. same_key (key_of row) (key_of r)) rows ≡ list_any (same_key (key_of row)) (map key_of rows)
any-key row [] = refl
any-key row (r ∷ rs) = grind (arith, any-key row rs)

-- if keys differ, each row is found by its key
found-own : (rows : List Row) → differ same_key (map key_of rows) ≡ true → AllByRecursion (λ r. row_of (key_of r) rows ≡ Some r) rows
found-own [] d = tt
found-own (row ∷ rows) d =
    let parts = and_parts _ _ d in
    let here : has_key (key_of row) row ≡ true = same_key_equiv.refl (key_of row) in
    (rw here refl, found-past row rows rows (any-key row rows ∙ not-true _ parts.0) (found-own rows parts.1))

-- so a row has expired if and only if that of its key has
live-own : (now : Moment) (all rows : List Row) → AllByRecursion (λ r. row_of (key_of r) all ≡ Some r) rows
    → AllByRecursion (λ r. is_unexpired now r ≡ not (has_expired now all (key_of r))) rows
live-own now all [] found = tt
live-own now all (row ∷ rows) found = (ap (λ r. not (passes (is_expired now) r)) (sym found.0), live-own now all rows found.1)

-- the keys are still those of the rows
pub created-unexpired : (store : Contents) (now : Moment) → HasCreationOrder store → HasCreationOrder (unexpired now store)
created-unexpired store now has =
    let rows = store.rows in
    let created = store.created in
    let stays = λ (key : Key). not (has_expired now rows key) in
    let keys = differ-permutation same_key same_key_equiv.symm created (map key_of rows) (IsPermutation-sym (map key_of rows) created has.0) has.1 in
    let same = filter-same (is_unexpired now) (λ (row : Row). stays (key_of row)) rows (live-own now rows rows (found-own rows keys)) in
    let alike = alike-stays rows created (alike_from_permutation rows created has.0) stays in (
      permutation_from_alike (unexpired_rows now rows) (filter stays created) (subst (λ (calls_related_to : List Row). CountAlike calls_related_to (filter stays created)) (sym same) alike),
      differ-filter same_key stays created has.1,
    )
