-- The keys of the Secure rows are among those of the index after each change of the rows.
use Rattle.std.proofs.Common.{◌≡◌, List, [], ◌∷◌, filter, Option, Some, None, Result, Ok, Err, OnErr, OnOk, refl, sym, subst, ap, Bool, true, false, not, ◌&&◌, ◌||◌, ◌∙◌, inl, inr, IfSome}
use Rattle.std.specs.List.{All}
use Rattle.std.proofs.lemmas.Bool.{cases_Bool}
use Rattle.std.proofs.lemmas.List.Elements.{All-cons, All-filter, All-head, All-tail, All-weaker}
use Rattle.cookie_raw.specs.Raw.{Raw}
use Rattle.cookie_parts.specs.Cookie.{Row, is_secure_only}
use Rattle.cookie_parts.specs.declared.cookie_error.CookieError.{CookieError}
use Rattle.cookie_parts.specs.declared.store_action.StoreAction.{StoreAction}
use Rattle.cookie_laws.specs.Contents.{Contents, rows_in_order}
use Rattle.cookie_laws.specs.Rows.{Key, RowsInOrder, has_key, key_of, same_key, same_key-true, same_key_equiv}
use Rattle.cookie_rows.specs.SecureKeys.{NamedScopes, lists_key}
use Rattle.cookie_core.specs.SecureIndexes.{Indexes, IsKeyed, is_secure_stored}

-- the test that a row has if its key is one of these or it is not Secure
abbrev is_keyed : NamedScopes → Raw → Key → Bool
is_keyed keys raw key = not (is_secure_only raw) || lists_key keys key

-- what holds of the row holds of the test
keyed_passes : (keys : NamedScopes) (row : Row) → IsKeyed keys row → is_keyed keys row.raw (key_of row) ≡ true
keyed_passes keys row keyed = elim (cases_Bool (is_secure_only row.raw)) [
  | inl secure ↦ rw secure (keyed secure)
  | inr plain ↦ rw plain refl
]

-- and back
passes_keyed : (keys : NamedScopes) (row : Row) → is_keyed keys row.raw (key_of row) ≡ true → IsKeyed keys row
passes_keyed keys row passes secure = rw secure at passes

-- what each test of raw cookies and keys says of these rows, it says of those
abbrev pub IsKept : List Row → List Row → Type 0
IsKept old new = (test : Raw → Key → Bool) → All (λ row. test row.raw (key_of row) ≡ true) old → All (λ row. test row.raw (key_of row) ≡ true) new

-- so an index of these is one of those
pub indexes_kept : (index : Option NamedScopes) (old new : List Row) → IsKept old new → Indexes index old → Indexes index new
indexes_kept None old new kept indexed = tt
indexes_kept (Some keys) old new kept indexed =
    All-weaker (λ row. is_keyed keys row.raw (key_of row) ≡ true) (IsKeyed keys) (passes_keyed keys) new
    (kept (is_keyed keys) (All-weaker (IsKeyed keys) (λ row. is_keyed keys row.raw (key_of row) ≡ true) (keyed_passes keys) old indexed))

-- the rows that an insertion leaves, if each test that passes the cookie and the rows before passes them
pub kept_inserted : (store after : Contents) (cookie : Row)
    → ((test : Raw → Key → Bool) → test cookie.raw (key_of cookie) ≡ true → All (λ row. test row.raw (key_of row) ≡ true) store.rows
    → All (λ row. test row.raw (key_of row) ≡ true) after.rows)
    → IsKept (cookie ∷ store.rows) after.rows
kept_inserted store after cookie kept test old =
    kept test (All-head (λ row. test row.raw (key_of row) ≡ true) cookie store.rows old) (All-tail (λ row. test row.raw (key_of row) ≡ true) cookie store.rows old)

-- an index for the rows and a cookie serves after the cookie was inserted, or the insertion failed
pub indexes_inserted : (index : Option NamedScopes) (store after : Contents) (cookie : Row) (result : Result StoreAction CookieError) (new : RowsInOrder)
    → IsKept (cookie ∷ store.rows) after.rows → OnOk result (new ≡ rows_in_order after) → OnErr result (new ≡ rows_in_order store)
    → Indexes index (cookie ∷ store.rows) → Indexes index new.rows
indexes_inserted index store after cookie (Ok action) new kept is same indexed =
    subst (λ (left : RowsInOrder). Indexes index left.rows) (sym is) (indexes_kept index (cookie ∷ store.rows) after.rows kept indexed)
indexes_inserted None store after cookie (Err rejection) new kept is same indexed = tt
indexes_inserted (Some keys) store after cookie (Err rejection) new kept is same indexed =
    subst (λ (left : RowsInOrder). All (IsKeyed keys) left.rows) (sym same) (All-tail (IsKeyed keys) cookie store.rows indexed)

-- and without the rows that do not pass
pub indexes_filtered : (index : Option NamedScopes) (test : Row → Bool) (rows : List Row) → Indexes index rows → Indexes index (filter test rows)
indexes_filtered None test rows indexed = tt
indexes_filtered (Some keys) test rows indexed = All-filter test (IsKeyed keys) rows indexed

or_true : (a b : Bool) → b ≡ true → (a || b) ≡ true
or_true true b is = refl
or_true false b is = is

-- one key was added
module _ (old new : NamedScopes) (cookie : Row) (added : (key : Key) → lists_key new key ≡ (same_key (key_of cookie) key || lists_key old key)) where
  -- the keys of other rows are there still
  pub keyed_still : (row : Row) → IsKeyed old row → IsKeyed new row
  keyed_still row keyed secure = added (key_of row) ∙ or_true (same_key (key_of cookie) (key_of row)) (lists_key old (key_of row)) (keyed secure)

  -- and that of the cookie
  pub keyed_new : IsKeyed new cookie
  keyed_new secure = added (key_of cookie) ∙ rw (same_key_equiv.refl (key_of cookie)) refl

-- the keys of an index that there is
pub keyed_by : (index : Option NamedScopes) (keys : NamedScopes) (rows : List Row) → index ≡ Some keys → Indexes index rows → All (IsKeyed keys) rows
keyed_by index keys rows is indexed = subst (λ (i : Option NamedScopes). Indexes i rows) is indexed

-- an index with the key of a cookie is one for the rows and the cookie
pub indexes_added : (keys : NamedScopes) (index : Option NamedScopes) (cookie : Row) (rows : List Row) → All (IsKeyed keys) rows
    → IfSome index (λ new. (key : Key) → lists_key new key ≡ (same_key (key_of cookie) key || lists_key keys key)) → Indexes index (cookie ∷ rows)
indexes_added keys None cookie rows keyed added = tt
indexes_added keys (Some new) cookie rows keyed added =
    All-cons (IsKeyed new) cookie rows (keyed_new keys new cookie added) (All-weaker (IsKeyed keys) (IsKeyed new) (keyed_still keys new cookie added) rows keyed)

-- the key of a Secure row is indexed
stored_keyed : (keys : NamedScopes) (key : Key) (rows : List Row) → All (IsKeyed keys) rows → is_secure_stored key rows ≡ true → lists_key keys key ≡ true
stored_keyed keys key [] keyed stored = absurd (cc)
stored_keyed keys key (row ∷ rows) keyed stored = elim (cases_Bool (has_key key row)) [
  | inl here ↦
      let secure : is_secure_only row.raw ≡ true = rw here at stored in
      ap (lists_key keys) (same_key-true key (key_of row) here) ∙ All-head (IsKeyed keys) row rows keyed secure
  | inr away ↦ stored_keyed keys key rows (All-tail (IsKeyed keys) row rows keyed) (rw away at stored)
]

secure_then : (secure stored keyed : Bool) → (secure && not stored) ≡ false → (stored ≡ true → keyed ≡ true) → secure ≡ true → keyed ≡ true
secure_then true true keyed none follows is = follows refl
secure_then true false keyed none follows is = absurd (cc)
secure_then false stored keyed none follows is = absurd (cc)

-- an index is one for a cookie too that is not Secure or whose row is Secure already
pub keyed_before : (keys : NamedScopes) (cookie : Row) (rows : List Row) → All (IsKeyed keys) rows
    → (is_secure_only cookie.raw && not (is_secure_stored (key_of cookie) rows)) ≡ false → All (IsKeyed keys) (cookie ∷ rows)
keyed_before keys cookie rows keyed none =
    All-cons (IsKeyed keys) cookie rows
    (λ secure. secure_then (is_secure_only cookie.raw) (is_secure_stored (key_of cookie) rows) (lists_key keys (key_of cookie)) none
    (stored_keyed keys (key_of cookie) rows keyed) secure)
    keyed
