-- The rows of the table after the row of one key is put or deleted.
use Rattle.std.proofs.Common.{◌≡◌, ℤ, Bool, true, false, cond, not, ◌||◌, List, [], ◌∷◌, ◌++◌, map, filter, Less, Equal, is_eq, is_lt, ⊎_elim, true≢false, refl, sym, ap, subst, ◌∙◌}
use Rattle.std.specs.List.{AllByRecursion, AllZip, list_any}
use Rattle.std.specs.Ordering.{match_ordering}
use Rattle.std.proofs.lemmas.Bool.{cases_Bool, cond-true, cond-false, and_parts, not-true, or_parts}
use Rattle.std.proofs.lemmas.Cmp.{tied_itself}
use Rattle.sqlite_value.specs.Order.{Row as TableRow, value_cmp}
use Rattle.sqlite_value.specs.declared.value.Value.{Value}
use Rattle.sqlite_value.specs.declared.value.Value.TheVariants.{Int}
use Rattle.sqlite_value.proofs.OrderLemmas.{value_cmp_total}
use Rattle.sqlite_trees.specs.Tree.{IsTable, has_rowid, put_row, rowid, without_rowid}
use Rattle.sqlite_trees.proofs.ListLemmas.{all_weaker, filter_all}
use Rattle.sqlite_trees.proofs.TreeLemmas.{later_rowids}
use Rattle.cookie_laws.specs.Rows.{Key, differ, removed, same_key, same_key-true}
use Rattle.durable_table.specs.Changes.{after}
use Rattle.durable_table.specs.declared.change.Change.TheVariants.{Delete}

pub or_right : (a b : Bool) → b ≡ true → (a || b) ≡ true
or_right true b is = refl
or_right false b is = is

-- a row has its own rowid
pub has_own : (id : ℤ) (row : TableRow) → rowid row ≡ Int id → has_rowid id row ≡ true
has_own id row own = ap is_eq (ap (λ (v : Value). value_cmp v (Int id)) own ∙ tied_itself value_cmp_total (Int id))

-- rows of keys

-- what follows for each row
pub zip_both : (P Q R : Key → TableRow → Type 0) → ((key : Key) (row : TableRow) → P key row → Q key row → R key row) → (keys : List Key)
    (rows : List TableRow) → AllZip P keys rows → AllZip Q keys rows → AllZip R keys rows
zip_both P Q R more [] [] p q = tt
zip_both P Q R more [] (r ∷ rows) p q = absurd p
zip_both P Q R more (k ∷ keys) [] p q = absurd p
zip_both P Q R more (k ∷ keys) (r ∷ rows) p q = (more k r p.0 q.0, zip_both P Q R more keys rows p.1 q.1)

pub zip_weaker : (P Q : Key → TableRow → Type 0) → ((key : Key) (row : TableRow) → P key row → Q key row) → (keys : List Key) (rows : List TableRow)
    → AllZip P keys rows → AllZip Q keys rows
zip_weaker P Q more keys rows zip = zip_both P P Q (λ key row is _. more key row is) keys rows zip zip

pub zip_rows : (P : Key → TableRow → Type 0) (F : TableRow → Type 0) → ((key : Key) (row : TableRow) → P key row → F row) → (keys : List Key)
    (rows : List TableRow) → AllZip P keys rows → AllByRecursion F rows
zip_rows P F more [] [] zip = tt
zip_rows P F more [] (r ∷ rows) zip = absurd zip
zip_rows P F more (k ∷ keys) [] zip = absurd zip
zip_rows P F more (k ∷ keys) (r ∷ rows) zip = (more k r zip.0, zip_rows P F more keys rows zip.1)

-- a row more
pub rows-push : (P : Key → TableRow → Type 0) (keys : List Key) (rows : List TableRow) (key : Key) (row : TableRow)
    → AllZip P keys rows → P key row → AllZip P (keys ++ key ∷ []) (rows ++ row ∷ [])
rows-push P [] [] key row zip new = (new, tt)
rows-push P [] (r ∷ rows) key row zip new = absurd zip
rows-push P (k ∷ keys) [] key row zip new = absurd zip
rows-push P (k ∷ keys) (r ∷ rows) key row zip new = (zip.0, rows-push P keys rows key row zip.1 new)

-- no later key is this one, if the first is and keys differ
none_later : (key : Key) (first : Key) (keys : List Key) → same_key key first ≡ true → differ same_key (first ∷ keys) ≡ true
    → list_any (same_key key) keys ≡ false
none_later key first keys same d =
    ap (λ (k : Key). list_any (same_key k) keys) (same_key-true key first same)
    ∙ not-true (list_any (same_key first) keys) (and_parts (not (list_any (same_key first) keys)) (differ same_key keys) d).0

later_differ : (first : Key) (keys : List Key) → differ same_key (first ∷ keys) ≡ true → differ same_key keys ≡ true
later_differ first keys d = (and_parts (not (list_any (same_key first) keys)) (differ same_key keys) d).1

-- a later key is this one, if the first is not
pub later_one : (key : Key) (first : Key) (keys : List Key) → same_key key first ≡ false → list_any (same_key key) (first ∷ keys) ≡ true
    → list_any (same_key key) keys ≡ true
later_one key first keys away there = sym (ap (λ b. b || list_any (same_key key) keys) away) ∙ there

-- rows by their rowids

-- a row above all others is put last
pub put_row-last : (row : TableRow) (rows : List TableRow) → AllByRecursion (λ (r : TableRow). value_cmp (rowid r) (rowid row) ≡ Less) rows
    → put_row row rows ≡ rows ++ row ∷ []
put_row-last row [] below = refl
put_row-last row (r ∷ rows) below =
    ap (λ o. match_ordering o (r ∷ put_row row rows) (row ∷ rows) (row ∷ r ∷ rows)) below.0
    ∙ ap (λ rs. r ∷ rs) (put_row-last row rows below.1)

-- the first row is that of the rowid, and no later one is
pub later_rows : (id : ℤ) (r : TableRow) (rows : List TableRow) → rowid r ≡ Int id → IsTable (r ∷ rows)
    → AllByRecursion (λ (x : TableRow). has_rowid id x ≡ false) rows
later_rows id r rows own table =
    let tied : value_cmp (rowid r) (Int id) ≡ Equal = ap (λ (v : Value). value_cmp v (Int id)) own ∙ tied_itself value_cmp_total (Int id) in
    later_rowids (Int id) r rows (ap is_lt tied) table.0

-- so it alone is deleted
pub without_rowid-first : (id : ℤ) (r : TableRow) (rows : List TableRow) → rowid r ≡ Int id → IsTable (r ∷ rows)
    → without_rowid id (r ∷ rows) ≡ rows
without_rowid-first id r rows own table =
    let stay : AllByRecursion (λ (x : TableRow). not (has_rowid id x) ≡ true) rows =
    all_weaker _ (λ (x : TableRow). not (has_rowid id x) ≡ true) (λ x e. ap not e) rows (later_rows id r rows own table) in
    cond-false (not (has_rowid id r)) (r ∷ without_rowid id rows) (without_rowid id rows) (ap not (has_own id r own))
    ∙ filter_all (λ (x : TableRow). not (has_rowid id x)) rows stay

-- a row below the rowid stays
without_rowid-stays : (id : ℤ) (r : TableRow) (rows : List TableRow) → value_cmp (rowid r) (Int id) ≡ Less
    → without_rowid id (r ∷ rows) ≡ r ∷ without_rowid id rows
without_rowid-stays id r rows below =
    cond-true (not (has_rowid id r)) (r ∷ without_rowid id rows) (without_rowid id rows) (ap (λ o. not (is_eq o)) below)

-- what holds of all rowids holds of that of a key
pub rowid-holds : (F : Value → Type 0) (P : Key → TableRow → Type 0) (key : Key) (id : ℤ) → ((row : TableRow) → P key row → rowid row ≡ Int id)
    → (keys : List Key) (rows : List TableRow) → list_any (same_key key) keys ≡ true → AllZip P keys rows
    → AllByRecursion (λ (r : TableRow). F (rowid r)) rows → F (Int id)
rowid-holds F P key id own [] rows there zip all = absurd (true≢false (sym there))
rowid-holds F P key id own (k ∷ keys) [] there zip all = absurd zip
rowid-holds F P key id own (k ∷ keys) (r ∷ rows) there zip all =
    ⊎_elim
    (λ here. subst F (own r (subst (λ (x : Key). P x r) (sym (same_key-true key k here)) zip.0)) all.0)
    (λ away. rowid-holds F P key id own keys rows (later_one key k keys away there) zip.1 all.1)
    (cases_Bool (same_key key k))

-- rows of keys before and after a call that touches one key
module _ (P Q : Key → TableRow → Type 0) (key : Key) (others : (other : Key) (row : TableRow) → same_key key other ≡ false → P other row → Q other row) where
  -- all rows are as they were, if none is of this key
  pub other_rows : (keys : List Key) (rows : List TableRow) → list_any (same_key key) keys ≡ false → AllZip P keys rows → AllZip Q keys rows
  other_rows [] [] none zip = zip
  other_rows [] (r ∷ rows) none zip = absurd zip
  other_rows (k ∷ keys) [] none zip = absurd zip
  other_rows (k ∷ keys) (r ∷ rows) none zip =
      let apart = or_parts (same_key key k) (list_any (same_key key) keys) none in
      (others k r apart.0 zip.0, other_rows keys rows apart.1 zip.1)

  -- the key has this rowid
  module _ (id : ℤ) (own : (row : TableRow) → P key row → rowid row ≡ Int id) where
    own_first : (k : Key) (r : TableRow) → same_key key k ≡ true → P k r → rowid r ≡ Int id
    own_first k r here is = own r (subst (λ (x : Key). P x r) (sym (same_key-true key k here)) is)

    -- the row of the key is put in place of the old one
    pub rows-put : (row : TableRow) → rowid row ≡ Int id → Q key row → (keys : List Key) (rows : List TableRow) → differ same_key keys ≡ true
        → list_any (same_key key) keys ≡ true → IsTable rows → AllZip P keys rows → AllZip Q keys (put_row row rows)
    rows-put row is new [] rows d there table zip = absurd (true≢false (sym there))
    rows-put row is new (k ∷ keys) [] d there table zip = absurd zip
    rows-put row is new (k ∷ keys) (r ∷ rows) d there table zip =
        ⊎_elim
        (λ here.
        let alike : rowid r ≡ rowid row = own_first k r here zip.0 ∙ sym is in
        let tied : value_cmp (rowid r) (rowid row) ≡ Equal =
        ap (λ (v : Value). value_cmp v (rowid row)) alike ∙ tied_itself value_cmp_total (rowid row) in
        let put : put_row row (r ∷ rows) ≡ row ∷ rows =
        ap (λ o. match_ordering o (r ∷ put_row row rows) (row ∷ rows) (row ∷ r ∷ rows)) tied in
        subst (AllZip Q (k ∷ keys)) (sym put)
        (subst (λ (x : Key). Q x row) (same_key-true key k here) new, other_rows keys rows (none_later key k keys here d) zip.1))
        (λ away.
        let later = later_one key k keys away there in
        let below : value_cmp (rowid r) (rowid row) ≡ Less =
        ap (value_cmp (rowid r)) is ∙ rowid-holds (λ (v : Value). value_cmp (rowid r) v ≡ Less) P key id own keys rows later zip.1 table.0 in
        let put : put_row row (r ∷ rows) ≡ r ∷ put_row row rows =
        ap (λ o. match_ordering o (r ∷ put_row row rows) (row ∷ rows) (row ∷ r ∷ rows)) below in
        subst (AllZip Q (k ∷ keys)) (sym put)
        (others k r away zip.0, rows-put row is new keys rows (later_differ k keys d) later table.1 zip.1))
        (cases_Bool (same_key key k))

    -- the row of the key is deleted
    pub rows-without : (keys : List Key) (rows : List TableRow) → differ same_key keys ≡ true → list_any (same_key key) keys ≡ true → IsTable rows
        → AllZip P keys rows → AllZip Q (removed (same_key key) keys) (without_rowid id rows)
    rows-without [] rows d there table zip = absurd (true≢false (sym there))
    rows-without (k ∷ keys) [] d there table zip = absurd zip
    rows-without (k ∷ keys) (r ∷ rows) d there table zip =
        let same = same_key key k in
        ⊎_elim
        (λ here.
        let left : removed (same_key key) (k ∷ keys) ≡ keys = cond-true same keys (k ∷ removed (same_key key) keys) here in
        let deleted : without_rowid id (r ∷ rows) ≡ rows = without_rowid-first id r rows (own_first k r here zip.0) table in
        subst (λ (ks : List Key). AllZip Q ks (without_rowid id (r ∷ rows))) (sym left)
        (subst (AllZip Q keys) (sym deleted) (other_rows keys rows (none_later key k keys here d) zip.1)))
        (λ away.
        let later = later_one key k keys away there in
        let below : value_cmp (rowid r) (Int id) ≡ Less =
        rowid-holds (λ (v : Value). value_cmp (rowid r) v ≡ Less) P key id own keys rows later zip.1 table.0 in
        let left : removed (same_key key) (k ∷ keys) ≡ k ∷ removed (same_key key) keys = cond-false same keys (k ∷ removed (same_key key) keys) away in
        subst (λ (ks : List Key). AllZip Q ks (without_rowid id (r ∷ rows))) (sym left)
        (subst (AllZip Q (k ∷ removed (same_key key) keys)) (sym (without_rowid-stays id r rows below))
        (others k r away zip.0, rows-without keys rows (later_differ k keys d) later table.1 zip.1)))
        (cases_Bool same)

-- deletions

filter_twice : {T : Type 0} (p q : T → Bool) (xs : List T)
    → filter (λ (x : T). not (q x)) (filter (λ (x : T). not (p x)) xs) ≡ filter (λ (x : T). not (p x || q x)) xs
filter_twice p q [] = refl
filter_twice {T} p q (x ∷ xs) = by (p x) (filter_twice p q xs)
  where
    by : (b : Bool) → filter (λ (x : T). not (q x)) (filter (λ (x : T). not (p x)) xs) ≡ filter (λ (x : T). not (p x || q x)) xs
        → filter (λ (x : T). not (q x)) (cond (not b) (x ∷ filter (λ (x : T). not (p x)) xs) (filter (λ (x : T). not (p x)) xs))
        ≡ cond (not (b || q x)) (x ∷ filter (λ (x : T). not (p x || q x)) xs) (filter (λ (x : T). not (p x || q x)) xs)
    by true more = more
    by false more = ap (λ ys. cond (not (q x)) (x ∷ ys) ys) more

filter_true : {T : Type 0} (xs : List T) → filter (λ (x : T). true) xs ≡ xs
filter_true [] = refl
filter_true (x ∷ xs) = ap (λ ys. x ∷ ys) (filter_true xs)

filter_none : (p : TableRow → Bool) (rows : List TableRow) → AllByRecursion (λ (r : TableRow). p r ≡ true) rows
    → filter (λ (r : TableRow). not (p r)) rows ≡ []
filter_none p [] all = refl
filter_none p (r ∷ rows) all =
    let others : List TableRow = filter (λ (r : TableRow). not (p r)) rows in
    cond-false (not (p r)) (r ∷ others) others (ap not all.0) ∙ filter_none p rows all.1

-- whether the row has one of these rowids
abbrev pub has_one : List ℤ → TableRow → Bool
has_one ids row = list_any (λ (id : ℤ). has_rowid id row) ids

-- the rows of these rowids are deleted
pub after-deletions : (ids : List ℤ) (rows : List TableRow) → after (map Delete ids) rows ≡ filter (λ (r : TableRow). not (has_one ids r)) rows
after-deletions [] rows = sym (filter_true rows)
after-deletions (id ∷ ids) rows = after-deletions ids (without_rowid id rows) ∙ filter_twice (has_rowid id) (has_one ids) rows

-- all rows are deleted
pub all_deleted : (ids : List ℤ) (rows : List TableRow) → AllByRecursion (λ (r : TableRow). has_one ids r ≡ true) rows
    → after (map Delete ids) rows ≡ []
all_deleted ids rows all = after-deletions ids rows ∙ filter_none (has_one ids) rows all
