-- What a store holds, and which rows are evicted for a new one.
use Rattle.std.specs.Prelude.{◌≡◌, ℕ, ◌+◌, ◌-◌, Bool, true, not, List, [], ◌++◌, filter, length, map, take, Option, Some, None}
use Rattle.std.specs.List.{list_any}
use Rattle.std.specs.List.Sorted.{IsPermutation}
use Rattle.cookie_words.specs.Moments.{Moment}
use Rattle.cookie_psl.specs.Rules.{RuleList}
use Rattle.cookie_parts.specs.Cookie.{Row, is_expired}
use Rattle.cookie_parts.specs.Hosts.{passes}
use Rattle.cookie_laws.specs.Rows.{Key, RowsInOrder, differ, key_of, unexpired_rows, add_created, put, row_of, same_domain, same_key}

-- The contents of a store:
-- - `rows`: the stored cookies
-- - `created`: their keys in creation order, oldest first
-- - `suffixes`: the public suffix list, if any
-- - `limit`: how many rows a domain may have, if limited
pub record Contents : Type 0 where
  pub rows : List Row
  pub created : List Key
  pub suffixes : Option RuleList
  pub limit : Option ℕ

-- `created` is a permutation of the keys of the rows, and no key is in it twice
abbrev pub HasCreationOrder : Contents → Type 0
HasCreationOrder store = IsPermutation (map key_of store.rows) store.created × (differ same_key store.created ≡ true)

-- the rows and their keys in creation order
abbrev pub rows_in_order : Contents → RowsInOrder
rows_in_order store = record { rows = store.rows; created = store.created }

-- a store with these rows, a public suffix list and a limit, both optional
abbrev pub contents_of : RowsInOrder → Option RuleList → Option ℕ → Contents
contents_of ordered suffixes limit = record { rows = ordered.rows; created = ordered.created; suffixes = suffixes; limit = limit }

-- the row of the key exists and has expired
abbrev pub has_expired : Moment → List Row → Key → Bool
has_expired now rows key = passes (is_expired now) (row_of key rows)

-- keys in eviction order: those of expired rows first, then the others, both in the given order
abbrev pub eviction_order : Moment → List Row → List Key → List Key
eviction_order now rows keys = filter (has_expired now rows) keys ++ filter (λ key. not (has_expired now rows key)) keys

-- the keys to evict from a domain so that a new row fits the limit, or all if the limit is 0;
-- `keys` are those of the domain in creation order
abbrev pub over_limit : Option ℕ → Moment → List Row → List Key → List Key
over_limit None now rows keys = []
over_limit (Some limit) now rows keys = take (length keys + 1 - limit) (eviction_order now rows keys)

-- the keys whose rows are evicted for a new row of this key
abbrev pub evicted : Contents → Moment → Key → List Key
evicted store now key = over_limit store.limit now store.rows (filter (same_domain key) store.created)

-- the key is not one of these keys
abbrev pub is_none_of : List Key → Key → Bool
is_none_of keys key = not (list_any (same_key key) keys)

-- the store without the rows of these keys
abbrev pub without : List Key → Contents → Contents
without keys store = record store {
  rows = filter (λ row. is_none_of keys (key_of row)) store.rows;
  created = filter (is_none_of keys) store.created;
}

-- RFC 6265 5.3: the store without its expired cookies
abbrev pub unexpired : Moment → Contents → Contents
unexpired now store = record store {
  rows = unexpired_rows now store.rows;
  created = filter (λ key. not (has_expired now store.rows key)) store.created;
}

-- each result that a closure may return for a value is that of the test
abbrev pub ReturnsTest : {X : Type 0} → (X → Bool → Type 0) → (X → Bool) → Type 0
ReturnsTest {X} returns test = (x : X) (result : Bool) → returns x result → result ≡ test x

-- the row of the key exists and passes the test
abbrev pub is_retained : (Row → Bool) → List Row → Key → Bool
is_retained test rows key = passes test (row_of key rows)

-- the store with the rows that pass the test, and the keys of these in creation order
abbrev pub retained : (Row → Bool) → Contents → Contents
retained test store = record store {
  rows = filter test store.rows;
  created = filter (is_retained test store.rows) store.created;
}

-- the store with the cookie stored: it replaces the row of its key, which keeps its place in the
-- creation order, or it is a new row, created last
abbrev pub with_cookie : Contents → Row → Contents
with_cookie store cookie = record store { rows = put store.rows cookie; created = add_created store.created (key_of cookie) }
