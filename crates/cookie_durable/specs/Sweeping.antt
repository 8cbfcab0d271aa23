-- The rowids of the cookies that a store has no more.
use Rattle.std.specs.Prelude.{◌≡◌, ℤ, Bool, true, not, List, filter, is_some, None}
use Rattle.std.specs.List.{IsDistinct}
use Rattle.std.specs.Map.{keys_of, values_of}
use Rattle.cookie_laws.specs.Contents.{Contents, HasCreationOrder}
use Rattle.cookie_laws.specs.Rows.{Key, row_of, same_key}
use Rattle.sqlite_trees.specs.View.{View}
use Rattle.sqlite_value.specs.Order.{Row as TableRow}
use Rattle.cookie_durable.specs.Durable.{Durable, IsInStep}
use Rattle.cookie_durable.specs.Numbering.{Ids, IsNumbered, Names, key_in}

-- whether the store has a cookie of the key
abbrev pub has_cookie : Contents → Key → Bool
has_cookie store key = is_some (row_of key store.rows)

-- the rowids of the keys that have a cookie
abbrev pub kept_ids : Contents → Ids → Ids
kept_ids store ids = filter (λ (entry : Names × ℤ). has_cookie store (key_in entry.0)) ids

-- the rowids of the other keys
abbrev pub gone_ids : Contents → Ids → List ℤ
gone_ids store ids = values_of (filter (λ (entry : Names × ℤ). not (has_cookie store (key_in entry.0))) ids)

-- no two entries have the same key
abbrev pub AreDistinct : Ids → Type 0
AreDistinct ids = IsDistinct (λ (a b : Names). same_key (key_in a) (key_in b)) (keys_of ids)

-- cookies were removed, and the others are as they were
pub record Shrinks (old new : Contents) : Type 0 where
  pub order : HasCreationOrder new
  pub unlimited : new.limit ≡ None
  pub kept : (key : Key) → has_cookie new key ≡ true → row_of key new.rows ≡ row_of key old.rows
  pub created : new.created ≡ filter (has_cookie new) old.created

-- cookies were removed in memory from a store that was in step with its file, and nothing else changed
pub record HasRemoved {S : Type 0} (before d : Durable S) (v : View) : Type 0 where
  pub in_step : IsInStep before v
  pub rest : d ≡ record before { store = d.store }
  pub shrinks : (rows : List TableRow) → IsNumbered before.store before.ids before.next rows → Shrinks before.store d.store
