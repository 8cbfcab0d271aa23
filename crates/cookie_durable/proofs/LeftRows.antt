-- The removal of expired cookies, or of those that fail a test, leaves the other cookies as they were.
use Rattle.std.proofs.Common.{◌≡◌, Bool, true, false, cond, not, ◌||◌, List, [], ◌∷◌, Option, Some, None, ⊎_elim, refl, sym, ap, subst, ◌∙◌, true≢false, map, filter}
use Rattle.std.specs.Prelude.{is_some}
use Rattle.std.specs.List.{AllByRecursion, list_any}
use Rattle.std.proofs.lemmas.Bool.{and_parts, cases_Bool, cond-true, cond-false, not-true, or_parts}
use Rattle.std.proofs.lemmas.List.Sorted.{IsPermutation-sym}
use Rattle.sqlite_trees.proofs.ListLemmas.{all_weaker}
use Rattle.cookie_words.specs.Moments.{Moment}
use Rattle.cookie_parts.specs.Cookie.{Row}
use Rattle.cookie_parts.specs.Hosts.{passes}
use Rattle.cookie_laws.specs.Contents.{Contents, HasCreationOrder, has_expired, is_retained, retained, unexpired}
use Rattle.cookie_laws.specs.Rows.{Key, differ, has_key, is_unexpired, key_of, row_of, same_key, same_key-true, same_key_equiv}
use Rattle.cookie_laws.proofs.CountedKeys.{CountAlike, alike-stays}
use Rattle.cookie_laws.proofs.CreationKeys.{once_from_made}
use Rattle.cookie_laws.proofs.DifferentKeys.{differ-filter, differ-permutation}
use Rattle.cookie_laws.proofs.Filtered.{list_any-kept, none-apart, none-filter}
use Rattle.cookie_laws.proofs.LimitedRows.{row-created}
use Rattle.cookie_laws.proofs.RowsByKey.{find-none}
use Rattle.cookie_laws.proofs.SameCounts.{alike_from_permutation, permutation_from_alike}
use Rattle.cookie_laws.proofs.UnexpiredRows.{created-unexpired}
use Rattle.cookie_durable.specs.Sweeping.{Shrinks}

-- each key is one of the keys
own_keys : (keys : List Key) → AllByRecursion (λ (key : Key). list_any (same_key key) keys ≡ true) keys
own_keys [] = tt
own_keys (k ∷ keys) = (
  ap (λ b. b || list_any (same_key k) keys) (same_key_equiv.refl k),
  all_weaker _ (λ (key : Key). list_any (same_key key) (k ∷ keys) ≡ true) (λ key there. more (same_key key k) (list_any (same_key key) keys) there) keys (own_keys keys),
)
  where
    more : (b c : Bool) → c ≡ true → (b || c) ≡ true
    more true c there = refl
    more false c there = there

-- tests that agree on all items pass the same
filter-same : (p q : Key → Bool) (keys : List Key) → AllByRecursion (λ (key : Key). q key ≡ p key) keys → filter p keys ≡ filter q keys
filter-same p q [] same = refl
filter-same p q (k ∷ keys) same =
    ap (λ b. cond b (k ∷ filter p keys) (filter p keys)) (sym same.0)
    ∙ ap (λ ks. cond (q k) (k ∷ ks) ks) (filter-same p q keys same.1)

-- a key that is there passes if it is there among those that pass
any-filter : (p : Key → Bool) (keys : List Key) (key : Key) → list_any (same_key key) keys ≡ true → list_any (same_key key) (filter p keys) ≡ p key
any-filter p keys key there =
    ⊎_elim
    (λ passes. list_any-kept p (same_key key) (λ x same. sym (ap p (same_key-true key x same)) ∙ passes) keys ∙ there ∙ sym passes)
    (λ fails. none-apart (same_key key) p (λ x pass.
    ⊎_elim (λ same. absurd (true≢false (sym (ap p (same_key-true key x same) ∙ pass) ∙ fails))) (λ away. away) (cases_Bool (same_key key x))) keys ∙ sym fails)
    (cases_Bool (p key))

-- the keys that are left are those that have a row
created_left : (old new : Contents) (p : Key → Bool) → HasCreationOrder new → new.created ≡ filter p old.created
    → new.created ≡ filter (λ (key : Key). is_some (row_of key new.rows)) old.created
created_left old new p has left =
    left ∙ filter-same p (λ (key : Key). is_some (row_of key new.rows)) old.created
    (all_weaker _ (λ (key : Key). is_some (row_of key new.rows) ≡ p key)
    (λ key there. row-created key new (once_from_made new has) ∙ ap (list_any (same_key key)) left ∙ any-filter p old.created key there)
    old.created (own_keys old.created))

-- the keys of rows, one by one
any-key : (key : Key) (rows : List Row) → list_any (has_key key) rows ≡ list_any (same_key key) (map key_of rows)
any-key key [] = refl
any-key key (row ∷ rows) = ap (λ b. same_key key (key_of row) || b) (any-key key rows)

-- if keys differ, a row that is found among those that pass is the row of its key
found-left : (p : Row → Bool) (key : Key) (rows : List Row) → differ same_key (map key_of rows) ≡ true
    → is_some (row_of key (filter p rows)) ≡ true → row_of key (filter p rows) ≡ row_of key rows
found-left p key [] d is = refl
found-left p key (row ∷ rows) d is =
    let parts = and_parts (not (list_any (same_key (key_of row)) (map key_of rows))) (differ same_key (map key_of rows)) d in
    let tail : List Row = filter p rows in
    let own = has_key key row in
    let found : own ≡ false → row_of key (row ∷ rows) ≡ row_of key rows = λ away. cond-false own (Some row) (row_of key rows) away in
    ⊎_elim
    (λ stays.
    let left : row_of key (filter p (row ∷ rows)) ≡ row_of key (row ∷ tail) = ap (row_of key) (cond-true (p row) (row ∷ tail) tail stays) in
    left ∙ ⊎_elim
    (λ here. cond-true own (Some row) (row_of key tail) here ∙ sym (cond-true own (Some row) (row_of key rows) here))
    (λ away.
    let next : row_of key (row ∷ tail) ≡ row_of key tail = cond-false own (Some row) (row_of key tail) away in
    next ∙ found-left p key rows parts.1 (sym (ap is_some (left ∙ next)) ∙ is) ∙ sym (found away))
    (cases_Bool own))
    (λ goes.
    let left : row_of key (filter p (row ∷ rows)) ≡ row_of key tail = ap (row_of key) (cond-false (p row) (row ∷ tail) tail goes) in
    let some : is_some (row_of key tail) ≡ true = sym (ap is_some left) ∙ is in
    left ∙ ⊎_elim
    (λ here.
    let none : list_any (has_key key) rows ≡ false =
    any-key key rows ∙ ap (λ (k : Key). list_any (same_key k) (map key_of rows)) (same_key-true key (key_of row) here)
    ∙ not-true (list_any (same_key (key_of row)) (map key_of rows)) parts.0 in
    absurd (true≢false (sym some ∙ ap is_some (find-none (has_key key) tail (none-filter (has_key key) p rows none)))))
    (λ away. found-left p key rows parts.1 some ∙ sym (found away))
    (cases_Bool own))
    (cases_Bool (p row))

-- the keys of the rows differ as those in creation order do
rows_differ : (store : Contents) → HasCreationOrder store → differ same_key (map key_of store.rows) ≡ true
rows_differ store has =
    differ-permutation same_key same_key_equiv.symm store.created (map key_of store.rows) (IsPermutation-sym (map key_of store.rows) store.created has.0) has.1

-- the removal of expired cookies leaves the others as they were
pub unexpired-shrinks : (store : Contents) (now : Moment) → store.limit ≡ None → HasCreationOrder store → Shrinks store (unexpired now store)
unexpired-shrinks store now none has =
    let new = unexpired now store in
    let order : HasCreationOrder new = created-unexpired store now has in
    record {
      order = order;
      unlimited = none;
      kept = λ key is. found-left (is_unexpired now) key store.rows (rows_differ store has) is;
      created = created_left store new (λ key. not (has_expired now store.rows key)) order refl;
    }

-- a row that is found by its key is found too behind a row of another key
found-past : (row : Row) (rows all : List Row) → list_any (same_key (key_of row)) (map key_of rows) ≡ false
    → AllByRecursion (λ (r : Row). row_of (key_of r) all ≡ Some r) rows → AllByRecursion (λ (r : Row). row_of (key_of r) (row ∷ all) ≡ Some r) rows
found-past row [] all other found = tt
found-past row (r ∷ rows) all other found =
    let parts = or_parts (same_key (key_of row) (key_of r)) (list_any (same_key (key_of row)) (map key_of rows)) other in (
      cond-false (has_key (key_of r) row) (Some row) (row_of (key_of r) all) (same_key_equiv.symm (key_of r) (key_of row) ∙ parts.0) ∙ found.0,
      found-past row rows all parts.1 found.1,
    )

-- if keys differ, each row is found by its key
found-own : (rows : List Row) → differ same_key (map key_of rows) ≡ true → AllByRecursion (λ (r : Row). row_of (key_of r) rows ≡ Some r) rows
found-own [] d = tt
found-own (row ∷ rows) d =
    let parts = and_parts (not (list_any (same_key (key_of row)) (map key_of rows))) (differ same_key (map key_of rows)) d in (
      cond-true (has_key (key_of row) row) (Some row) (row_of (key_of row) rows) (same_key_equiv.refl (key_of row)),
      found-past row rows rows (not-true (list_any (same_key (key_of row)) (map key_of rows)) parts.0) (found-own rows parts.1),
    )

-- so a row passes if and only if that of its key does
filter-own : (test : Row → Bool) (all rows : List Row) → AllByRecursion (λ (r : Row). row_of (key_of r) all ≡ Some r) rows
    → filter test rows ≡ filter (λ (row : Row). is_retained test all (key_of row)) rows
filter-own test all [] found = refl
filter-own test all (row ∷ rows) found =
    ap (λ (o : Option Row). cond (passes test o) (row ∷ filter test rows) (filter test rows)) (sym found.0)
    ∙ ap (λ (rs : List Row). cond (is_retained test all (key_of row)) (row ∷ rs) rs) (filter-own test all rows found.1)

-- the removal of the cookies that fail a test leaves the others as they were
pub retained-shrinks : (store : Contents) (test : Row → Bool) → store.limit ≡ None → HasCreationOrder store → Shrinks store (retained test store)
retained-shrinks store test none has =
    let stays : Key → Bool = is_retained test store.rows in
    let left : filter test store.rows ≡ filter (λ (row : Row). stays (key_of row)) store.rows =
    filter-own test store.rows store.rows (found-own store.rows (rows_differ store has)) in
    let alike : CountAlike (filter (λ (row : Row). stays (key_of row)) store.rows) (filter stays store.created) =
    alike-stays store.rows store.created (alike_from_permutation store.rows store.created has.0) stays in
    let order : HasCreationOrder (retained test store) = (
      permutation_from_alike (filter test store.rows) (filter stays store.created)
          (subst (λ (rows : List Row). CountAlike rows (filter stays store.created)) (sym left) alike),
      differ-filter same_key stays store.created has.1,
    ) in
    record {
      order = order;
      unlimited = none;
      kept = λ key is. found-left test key store.rows (rows_differ store has) is;
      created = created_left store (retained test store) stays order refl;
    }
