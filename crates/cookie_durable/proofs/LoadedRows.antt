-- The cookies of the first rows of a table, and of one row more.
use Rattle.std.proofs.Common.{◌≡◌, ℕ, ℤ, pos, ◌+ℤ◌, List, [], ◌∷◌, ◌++◌, Option, Some, None, Ok, Less, inl, refl, sym, ap, subst, ◌∙◌}
use Rattle.std.specs.Prelude.{is_some}
use Rattle.std.specs.List.{AllByRecursion}
use Rattle.std.specs.Map.{KeepsOthers}
use Rattle.sqlite_value.specs.Order.{Row as TableRow, value_cmp}
use Rattle.sqlite_value.specs.declared.value.Value.{Value}
use Rattle.sqlite_value.specs.declared.value.Value.TheVariants.{Int}
use Rattle.sqlite_value.proofs.OrderLemmas.{value_cmp_total}
use Rattle.sqlite_trees.specs.Tree.{IsTable, rowid}
use Rattle.cookie_words.specs.Moments.{epoch}
use Rattle.cookie_parts.specs.Cookie.{Row as Cookie}
use Rattle.cookie_parts.specs.declared.store_action.StoreAction.TheVariants.{UpdatedExisting}
use Rattle.cookie_parts.specs.Domain.{domain_text}
use Rattle.cookie_laws.specs.Contents.{Contents, HasCreationOrder, contents_of, with_cookie}
use Rattle.cookie_laws.specs.Rows.{Key, RowsInOrder, add_created, key_at, key_of, put, row_of, same_key, same_key_equiv}
use Rattle.cookie_laws.proofs.CreationKeys.{once-store_by, once_from_made}
use Rattle.cookie_laws.proofs.LimitedRows.{row-created}
use Rattle.cookie_laws.proofs.RowsByKey.{row_of-put, row_of-put_other}
use Rattle.cookie_laws.proofs.SameCounts.{permutation_from_alike}
use Rattle.cookie_table.specs.FromColumns.{cookie_in}
use Rattle.cookie_durable.specs.Numbering.{Ids, IsNumbered, Names, SetsId, Touches, id_of, key_in}
use Rattle.cookie_durable.specs.SavedTables.{IsSavedAs}
use Rattle.cookie_durable.proofs.IdsByKey.{sets_id}
use Rattle.cookie_durable.proofs.TouchedKeys.{created_by}
use Rattle.cookie_durable.proofs.WrittenCookies.{next_above, pushed}

-- a cookie that is stored without checks touches its key
put-touches : (store : Contents) (cookie : Cookie) → store.limit ≡ None → HasCreationOrder store → Touches (key_of cookie) store (with_cookie store cookie)
put-touches store cookie none has =
    let new = with_cookie store cookie in
    let once = once-store_by (Ok UpdatedExisting) store cookie epoch (once_from_made store has) in
    record {
      order = (permutation_from_alike new.rows new.created once.0, once.1);
      unlimited = none;
      others = λ other away. row_of-put_other other store.rows cookie (same_key_equiv.symm other (key_of cookie) ∙ away);
      created = created_by (key_of cookie) store.created new.created (is_some (row_of (key_of cookie) new.rows))
          (row-created (key_of cookie) new once) (inl refl);
    }

last_of : (P : TableRow → Type 0) (rows : List TableRow) (row : TableRow) → AllByRecursion P (rows ++ row ∷ []) → P row
last_of P [] row all = all.0
last_of P (r ∷ rows) row all = last_of P rows row all.1

-- the rowids up to the last one are below the next
all_below : (id : ℤ) (row : TableRow) → rowid row ≡ Int id → (rows : List TableRow) → IsTable (rows ++ row ∷ [])
    → AllByRecursion (λ (r : TableRow). value_cmp (rowid r) (Int (id +ℤ pos 1)) ≡ Less) (rows ++ row ∷ [])
all_below id row own [] table = (ap (λ (v : Value). value_cmp v (Int (id +ℤ pos 1))) own ∙ next_above id, tt)
all_below id row own (r ∷ rows) table =
    let last : value_cmp (rowid row) (Int (id +ℤ pos 1)) ≡ Less = ap (λ (v : Value). value_cmp v (Int (id +ℤ pos 1))) own ∙ next_above id in
    let before : value_cmp (rowid r) (rowid row) ≡ Less = last_of (λ (b : TableRow). value_cmp (rowid r) (rowid b) ≡ Less) rows row table.0 in
    (value_cmp_total.trans (rowid r) (rowid row) (Int (id +ℤ pos 1)) before last, all_below id row own rows table.1)

-- one row more, whose key is new
pub added : (store : Contents) (cookie : Cookie) (key : Key) (ids new_ids : Ids) (next id : ℤ) (rows : List TableRow) (row : TableRow)
    → key ≡ key_of cookie → cookie_in row ≡ Some cookie → rowid row ≡ Int id → id_of key ids ≡ None → SetsId key (Some id) ids new_ids
    → IsTable (rows ++ row ∷ []) → IsNumbered store ids next rows
    → IsNumbered (with_cookie store cookie) new_ids (id +ℤ pos 1) (rows ++ row ∷ [])
added store cookie key ids new_ids next id rows row same reads own new sets table numbered =
    let put_row_of : row_of key (put store.rows cookie) ≡ Some cookie =
    ap (λ (k : Key). row_of k (put store.rows cookie)) same ∙ row_of-put store.rows cookie in
    let touches : Touches key store (with_cookie store cookie) =
    subst (λ (k : Key). Touches k store (with_cookie store cookie)) (sym same) (put-touches store cookie numbered.unlimited numbered.order) in
    pushed store (with_cookie store cookie) key ids new_ids next rows touches numbered id (id +ℤ pos 1) row own (ap is_some put_row_of)
    (subst (λ (o : Option Cookie). IsSavedAs o row) (sym put_row_of) (inl reads)) new sets table (all_below id row own rows table)

-- the key of names that were taken from a cookie
pub names_key : (names : Names) (view cookie : Cookie) (domain path name : List ℕ) → view ≡ cookie → key_in names ≡ key_at domain path name
    → domain ≡ domain_text view.domain → path ≡ view.path.text → name ≡ cookie.raw.name → key_in names ≡ key_of cookie
names_key names view cookie domain path name same key d p n =
    key ∙ (λ i. key_at ((d ∙ ap (λ (c : Cookie). domain_text c.domain) same) i) ((p ∙ ap (λ (c : Cookie). c.path.text) same) i) (n i))

-- the key of names that had no rowid has this one
pub id_added : (names : Names) (key : Key) (ids new_ids : Ids) (id new_id : ℤ) → key_in names ≡ key → id_of (key_in names) new_ids ≡ Some new_id
    → KeepsOthers (λ (a b : Names). same_key (key_in a) (key_in b)) (λ (other : Names). same_key (key_in names) (key_in other)) ids new_ids
    → new_id ≡ id → SetsId key (Some id) ids new_ids
id_added names key ids new_ids id new_id same now keeps id_is =
    subst (λ (k : Key). SetsId k (Some id) ids new_ids) same (sets_id names (Some id) ids new_ids (now ∙ ap Some id_is) keeps)

-- the same for rows and rowids as they are stored
pub loaded_one : (old new : RowsInOrder) (cookie : Cookie) (ids new_ids : Ids) (next id new_id new_next : ℤ) (row : TableRow)
    → cookie_in row ≡ Some cookie → rowid row ≡ Int id → id_of (key_of cookie) ids ≡ None → SetsId (key_of cookie) (Some new_id) ids new_ids → new_id ≡ id
    → new ≡ record { rows = put old.rows cookie; created = add_created old.created (key_of cookie) }
    → new_next ≡ id +ℤ pos 1 → (rows : List TableRow) → IsTable (rows ++ row ∷ []) → IsNumbered (contents_of old None None) ids next rows
    → IsNumbered (contents_of new None None) new_ids new_next (rows ++ row ∷ [])
loaded_one old new cookie ids new_ids next id new_id new_next row reads own none sets id_is taken counted rows table numbered =
    let sets_own = subst (λ (n : ℤ). SetsId (key_of cookie) (Some n) ids new_ids) id_is sets in
    let more : IsNumbered (with_cookie (contents_of old None None) cookie) new_ids (id +ℤ pos 1) (rows ++ row ∷ []) =
    added (contents_of old None None) cookie (key_of cookie) ids new_ids next id rows row refl reads own none sets_own table numbered in
    subst (λ (r : RowsInOrder). IsNumbered (contents_of r None None) new_ids new_next (rows ++ row ∷ [])) (sym taken)
    (subst (λ (n : ℤ). IsNumbered (with_cookie (contents_of old None None) cookie) new_ids n (rows ++ row ∷ [])) (sym counted) more)
