-- The rows of the table after the rows of cookies that are gone were deleted.
use Rattle.std.proofs.Common.{◌≡◌, ℤ, Bool, true, false, cond, not, List, [], ◌∷◌, map, filter, Option, Some, None, Less, is_eq, ⊎_elim, refl, sym, ap, subst, ◌∙◌, true≢false}
use Rattle.std.specs.Prelude.{is_some, option_map}
use Rattle.std.specs.List.{AllByRecursion, AllZip, list_any}
use Rattle.std.specs.Map.{keys_of, values_of}
use Rattle.std.proofs.lemmas.Bool.{cases_Bool, cond-true, cond-false, or_from}
use Rattle.std.proofs.lemmas.Map.Keys.{IsDistinct-head, IsDistinct-tail}
use Rattle.sqlite_value.specs.Order.{Row as TableRow, value_cmp}
use Rattle.sqlite_value.specs.declared.value.Value.{Value}
use Rattle.sqlite_value.specs.declared.value.Value.TheVariants.{Int}
use Rattle.sqlite_trees.specs.Tree.{IsTable, has_rowid, rowid}
use Rattle.sqlite_trees.proofs.ListLemmas.{all-filter, ascending-filter}
use Rattle.cookie_parts.specs.Cookie.{Row as Cookie}
use Rattle.cookie_laws.specs.Contents.{Contents}
use Rattle.cookie_laws.specs.Rows.{Key, same_key, same_key-true, same_key_equiv}
use Rattle.cookie_laws.proofs.CreationKeys.{once_from_made}
use Rattle.cookie_laws.proofs.LimitedRows.{row-created}
use Rattle.durable_table.specs.Changes.{after}
use Rattle.durable_table.specs.declared.change.Change.TheVariants.{Delete}
use Rattle.cookie_durable.specs.Numbering.{Ids, IsNumbered, IsRowOf, Names, id_of, key_in}
use Rattle.cookie_durable.specs.SavedTables.{IsSavedAs}
use Rattle.cookie_durable.specs.Sweeping.{AreDistinct, Shrinks, gone_ids, has_cookie, kept_ids}
use Rattle.cookie_durable.proofs.IdsByKey.{among_values, own_rowid}
use Rattle.cookie_durable.proofs.RowEdits.{after-deletions, has_one, later_one, later_rows, rowid-holds, zip_both, zip_weaker}

-- rowids of some keys

-- the rowid of a key among those of the keys that pass
id_of-filter : (keep : Key → Bool) (key : Key) (ids : Ids)
    → id_of key (filter (λ (e : Names × ℤ). keep (key_in e.0)) ids) ≡ cond (keep key) (id_of key ids) None
id_of-filter keep key [] = none (keep key)
  where
    absent : Option ℤ
    absent = None

    none : (b : Bool) → absent ≡ cond b absent absent
    none true = refl
    none false = refl
id_of-filter keep key (e ∷ ids) = by (id_of-filter keep key ids) (same_key key (key_in e.0)) (keep (key_in e.0)) refl refl
  where
    same : Bool
    same = same_key key (key_in e.0)

    rest : Ids
    rest = filter (λ (x : Names × ℤ). keep (key_in x.0)) ids

    by : id_of key rest ≡ cond (keep key) (id_of key ids) None → (b c : Bool) → same ≡ b → keep (key_in e.0) ≡ c
        → id_of key (cond c (e ∷ rest) rest) ≡ cond (keep key) (cond b (Some e.1) (id_of key ids)) None
    by more true true here passes =
        cond-true same (Some e.1) (id_of key rest) here
        ∙ sym (cond-true (keep key) (Some e.1) None (ap keep (same_key-true key (key_in e.0) here) ∙ passes))
    by more true false here fails =
        let away : keep key ≡ false = ap keep (same_key-true key (key_in e.0) here) ∙ fails in
        more ∙ cond-false (keep key) (id_of key ids) None away ∙ sym (cond-false (keep key) (Some e.1) None away)
    by more false true away passes = cond-false same (Some e.1) (id_of key rest) away ∙ more
    by more false false away fails = more

-- the key of each entry finds its rowid
own_found : (ids : Ids) → AreDistinct ids
    → AllByRecursion (λ (e : Names × ℤ). id_of (key_in e.0) ids ≡ Some e.1) ids
own_found [] d = tt
own_found (e ∷ ids) d = (
  cond-true (same_key (key_in e.0) (key_in e.0)) (Some e.1) (id_of (key_in e.0) ids) (same_key_equiv.refl (key_in e.0)),
  more ids (own_found ids (IsDistinct-tail _ e.0 (keys_of ids) d)) (IsDistinct-head _ e.0 (keys_of ids) d),
)
  where
    more : (part : Ids) → AllByRecursion (λ (x : Names × ℤ). id_of (key_in x.0) ids ≡ Some x.1) part
        → AllByRecursion (λ (n : Names). same_key (key_in e.0) (key_in n) ≡ false) (keys_of part)
        → AllByRecursion (λ (x : Names × ℤ). id_of (key_in x.0) (e ∷ ids) ≡ Some x.1) part
    more [] found away = tt
    more (x ∷ part) found away = (
      cond-false (same_key (key_in x.0) (key_in e.0)) (Some e.1) (id_of (key_in x.0) ids) (same_key_equiv.symm (key_in x.0) (key_in e.0) ∙ away.0)
          ∙ found.0,
      more part found.1 away.1,
    )

-- the rowid of a key that does not pass
abbrev IsGone : (Key → Bool) → Ids → ℤ → Type 0
IsGone keep ids id = (key : Key) × (id_of key ids ≡ Some id) × (keep key ≡ false)

all_gone : (keep : Key → Bool) (ids part : Ids) → AllByRecursion (λ (e : Names × ℤ). id_of (key_in e.0) ids ≡ Some e.1) part
    → AllByRecursion (IsGone keep ids) (values_of (filter (λ (e : Names × ℤ). not (keep (key_in e.0))) part))
all_gone keep ids [] found = tt
all_gone keep ids (e ∷ part) found = by (all_gone keep ids part found.1) (keep (key_in e.0)) refl
  where
    rest : Ids
    rest = filter (λ (x : Names × ℤ). not (keep (key_in x.0))) part

    by : AllByRecursion (IsGone keep ids) (values_of rest) → (b : Bool) → keep (key_in e.0) ≡ b
        → AllByRecursion (IsGone keep ids) (values_of (cond (not b) (e ∷ rest) rest))
    by more true passes = more
    by more false fails = ((key_in e.0, found.0, fails), more)

-- rows of some keys

-- the rows of the keys that pass
rows-filter : (P Q : Key → TableRow → Type 0) (keep : Key → Bool) (stay : TableRow → Bool)
    → ((key : Key) (row : TableRow) → keep key ≡ true → P key row → Q key row) → (keys : List Key) (rows : List TableRow) → AllZip P keys rows
    → AllZip (λ (key : Key) (row : TableRow). stay row ≡ keep key) keys rows → AllZip Q (filter keep keys) (filter stay rows)
rows-filter P Q keep stay more [] [] zip same = tt
rows-filter P Q keep stay more [] (r ∷ rows) zip same = absurd zip
rows-filter P Q keep stay more (k ∷ keys) [] zip same = absurd zip
rows-filter P Q keep stay more (k ∷ keys) (r ∷ rows) zip same =
    let rest = rows-filter P Q keep stay more keys rows zip.1 same.1 in
    subst (λ b. AllZip Q (filter keep (k ∷ keys)) (cond b (r ∷ filter stay rows) (filter stay rows))) (sym same.0) (by (keep k) refl rest)
  where
    by : (b : Bool) → keep k ≡ b → AllZip Q (filter keep keys) (filter stay rows)
        → AllZip Q (cond b (k ∷ filter keep keys) (filter keep keys)) (cond b (r ∷ filter stay rows) (filter stay rows))
    by true passes rest = (more k r passes zip.0, rest)
    by false fails rest = rest

-- what follows for each row
zip_all : (P : Key → TableRow → Type 0) (F : TableRow → Type 0) (Q : Key → TableRow → Type 0) → ((key : Key) (row : TableRow) → F row → Q key row)
    → (keys : List Key) (rows : List TableRow) → AllZip P keys rows → AllByRecursion F rows → AllZip Q keys rows
zip_all P F Q more [] [] zip all = tt
zip_all P F Q more [] (r ∷ rows) zip all = absurd zip
zip_all P F Q more (k ∷ keys) [] zip all = absurd zip
zip_all P F Q more (k ∷ keys) (r ∷ rows) zip all = (more k r all.0, zip_all P F Q more keys rows zip.1 all.1)

-- the rows of other keys have other rowids
others_apart : (P : Key → TableRow → Type 0) (key : Key) (id : ℤ) → ((row : TableRow) → P key row → rowid row ≡ Int id) → (keys : List Key)
    (rows : List TableRow) → list_any (same_key key) keys ≡ true → IsTable rows → AllZip P keys rows
    → AllZip (λ (k : Key) (r : TableRow). same_key key k ≡ false → has_rowid id r ≡ false) keys rows
others_apart P key id own [] rows there table zip = absurd (true≢false (sym there))
others_apart P key id own (k ∷ keys) [] there table zip = absurd zip
others_apart P key id own (k ∷ keys) (r ∷ rows) there table zip =
    ⊎_elim
    (λ here.
    let first : rowid r ≡ Int id = own r (subst (λ (x : Key). P x r) (sym (same_key-true key k here)) zip.0) in (
      λ away. absurd (true≢false (sym here ∙ away)),
      zip_all P _ (λ (x : Key) (row : TableRow). same_key key x ≡ false → has_rowid id row ≡ false) (λ x row is away. is) keys rows zip.1
          (later_rows id r rows first table),
    ))
    (λ away.
    let later = later_one key k keys away there in
    let below : value_cmp (rowid r) (Int id) ≡ Less =
    rowid-holds (λ (v : Value). value_cmp (rowid r) v ≡ Less) P key id own keys rows later zip.1 table.0 in
    (λ _. ap is_eq below, others_apart P key id own keys rows later table.1 zip.1))
    (cases_Bool (same_key key k))

-- the rows of a store, and the keys that pass
module _ (before : Contents) (ids : Ids) (next : ℤ) (rows : List TableRow) (numbered : IsNumbered before ids next rows) (keep : Key → Bool) where
  -- the rows of these keys do not have the rowids of the others
  none_has : (gone : List ℤ) → AllByRecursion (IsGone keep ids) gone
      → AllZip (λ (key : Key) (row : TableRow). keep key ≡ true → has_one gone row ≡ false) before.created rows
  none_has [] all =
      zip_weaker (IsRowOf before ids) (λ (key : Key) (row : TableRow). keep key ≡ true → has_one [] row ≡ false) (λ key row is passes. refl) before.created
      rows numbered.saved
  none_has (id ∷ gone) all =
      let key : Key = all.0.0 in
      let there : list_any (same_key key) before.created ≡ true =
      sym (numbered.has_id key ∙ row-created key before (once_from_made before numbered.order)) ∙ ap is_some all.0.1 in
      zip_both (λ (k : Key) (r : TableRow). same_key key k ≡ false → has_rowid id r ≡ false) (λ (k : Key) (r : TableRow). keep k ≡ true → has_one gone r ≡ false)
      (λ (k : Key) (r : TableRow). keep k ≡ true → has_one (id ∷ gone) r ≡ false)
      (λ k r apart none passes.
      or_from (has_rowid id r) (has_one gone r)
      (apart (⊎_elim (λ here. absurd (true≢false (sym passes ∙ sym (ap keep (same_key-true key k here)) ∙ all.0.2))) (λ away. away) (cases_Bool (same_key key k))))
      (none passes))
      before.created rows
      (others_apart (IsRowOf before ids) key id (λ row is. own_rowid (id_of key ids) id row all.0.1 is.0) before.created rows there numbered.ascending
      numbered.saved)
      (none_has gone all.1)

  -- a row has a rowid of the others if its key does not pass
  gone_rows : AreDistinct ids
      → AllZip (λ (key : Key) (row : TableRow). not (has_one (values_of (filter (λ (e : Names × ℤ). not (keep (key_in e.0))) ids)) row) ≡ keep key)
      before.created rows
  gone_rows distinct =
      let gone : List ℤ = values_of (filter (λ (e : Names × ℤ). not (keep (key_in e.0))) ids) in
      zip_both (IsRowOf before ids) (λ (key : Key) (row : TableRow). keep key ≡ true → has_one gone row ≡ false)
      (λ (key : Key) (row : TableRow). not (has_one gone row) ≡ keep key)
      (λ key row is none.
      ⊎_elim
      (λ passes. ap not (none passes) ∙ sym passes)
      (λ fails.
      let left : id_of key (filter (λ (e : Names × ℤ). not (keep (key_in e.0))) ids) ≡ id_of key ids =
      id_of-filter (λ (k : Key). not (keep k)) key ids ∙ cond-true (not (keep key)) (id_of key ids) None (ap not fails) in
      ap not (among_values key (filter (λ (e : Names × ℤ). not (keep (key_in e.0))) ids) row (ap (option_map Int) left ∙ is.0)) ∙ sym fails)
      (cases_Bool (keep key)))
      before.created rows numbered.saved (none_has gone (all_gone keep ids ids (own_found ids distinct)))

-- the rows after the rows of the cookies that are gone were deleted
pub swept : (before store : Contents) (ids : Ids) (next : ℤ) (rows : List TableRow)
    → AreDistinct ids → Shrinks before store → IsNumbered before ids next rows
    → IsNumbered store (kept_ids store ids) next (after (map Delete (gone_ids store ids)) rows)
swept before store ids next rows distinct shrinks numbered =
    let keep : Key → Bool = has_cookie store in
    let stay : TableRow → Bool = λ (r : TableRow). not (has_one (gone_ids store ids) r) in
    let own : (key : Key) → keep key ≡ true → id_of key (kept_ids store ids) ≡ id_of key ids =
    λ key passes. id_of-filter keep key ids ∙ cond-true (keep key) (id_of key ids) None passes in
    let left : IsNumbered store (kept_ids store ids) next (filter stay rows) = record {
      order = shrinks.order;
      unlimited = shrinks.unlimited;
      has_id = λ key.
          ⊎_elim
          (λ passes. ap is_some (own key passes) ∙ numbered.has_id key ∙ sym (ap is_some (shrinks.kept key passes)))
          (λ fails. ap is_some (id_of-filter keep key ids ∙ cond-false (keep key) (id_of key ids) None fails) ∙ sym fails)
          (cases_Bool (keep key));
      saved = subst (λ (keys : List Key). AllZip (IsRowOf store (kept_ids store ids)) keys (filter stay rows)) (sym shrinks.created)
          (rows-filter (IsRowOf before ids) (IsRowOf store (kept_ids store ids)) keep stay
          (λ key row passes is. (ap (option_map Int) (own key passes) ∙ is.0, subst (λ (o : Option Cookie). IsSavedAs o row) (sym (shrinks.kept key passes)) is.1))
          before.created rows numbered.saved (gone_rows before ids next rows numbered keep distinct));
      ascending = ascending-filter _ stay rows numbered.ascending;
      below = all-filter _ stay rows numbered.below;
    } in
    subst (IsNumbered store (kept_ids store ids) next) (sym (after-deletions (gone_ids store ids) rows)) left
