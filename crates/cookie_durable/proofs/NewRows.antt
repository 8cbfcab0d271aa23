-- The rows of a table after all rows were deleted and those of other cookies were put.
use Rattle.std.proofs.Common.{◌≡◌, ℕ, ℤ, pos, ◌+◌, ◌+ℤ◌, List, [], ◌∷◌, ◌++◌, length, map, Less, append-nil, append_assoc, refl, sym, ap, ◌∙◌}
use Rattle.std.specs.List.{AllByRecursion}
use Rattle.std.specs.Map.{values_of}
use Rattle.sqlite_value.specs.Order.{Row as TableRow, value_cmp}
use Rattle.sqlite_value.specs.declared.value.Value.TheVariants.{Int}
use Rattle.sqlite_value.proofs.OrderLemmas.{value_cmp_total}
use Rattle.sqlite_trees.specs.Tree.{Trees, put_row, rowid}
use Rattle.sqlite_trees.specs.View.{View}
use Rattle.sqlite_trees.proofs.ListLemmas.{all_weaker}
use Rattle.sqlite_trees.proofs.TreeLemmas.{all-put_row}
use Rattle.cookie_parts.specs.Cookie.{Row as Cookie}
use Rattle.cookie_laws.specs.Contents.{Contents}
use Rattle.cookie_table.specs.Columns.{table_row}
use Rattle.durable_table.specs.Changes.{after, changed, in_table}
use Rattle.durable_table.specs.Transactions.{CommitsChanges}
use Rattle.durable_table.specs.declared.change.Change.{Change}
use Rattle.durable_table.specs.declared.change.Change.TheVariants.{Put, Delete}
use Rattle.durable_table.proofs.InTable.{in_table-at}
use Rattle.cookie_durable.specs.Durable.{IsSaved}
use Rattle.cookie_durable.specs.Numbering.{Ids, IsNumbered}
use Rattle.cookie_durable.specs.Replacing.{new_rows, rows_from}
use Rattle.cookie_durable.proofs.RowEdits.{put_row-last}
use Rattle.cookie_durable.proofs.WrittenCookies.{next_above, none_left}

-- one more change was made, and one cookie fewer is left
pub one_more : (changes more : List Change) (cookie : Cookie) (cookies : List Cookie)
    → more ≡ changes ++ Put (table_row (pos (length changes + 1)) cookie) ∷ [] → length more ≡ length changes + 1
    → more ++ map Put (rows_from (pos (length more + 1)) cookies) ≡ changes ++ map Put (rows_from (pos (length changes + 1)) (cookie ∷ cookies))
one_more changes more cookie cookies is longer =
    let rest : List Change = map Put (rows_from (pos (length changes + 1 + 1)) cookies) in
    ap (λ n. more ++ map Put (rows_from (pos (n + 1)) cookies)) longer
    ∙ ap (λ (c : List Change). c ++ rest) is
    ∙ append_assoc changes (Put (table_row (pos (length changes + 1)) cookie) ∷ []) rest

-- changes, and then others
after-both : (changes others : List Change) (rows : List TableRow) → after (changes ++ others) rows ≡ after others (after changes rows)
after-both [] others rows = refl
after-both (change ∷ changes) others rows = after-both changes others (changed change rows)

-- rows above all others are put last
after-puts : (id : ℤ) (cookies : List Cookie) (rows : List TableRow)
    → AllByRecursion (λ (r : TableRow). value_cmp (rowid r) (Int id) ≡ Less) rows
    → after (map Put (rows_from id cookies)) rows ≡ rows ++ rows_from id cookies
after-puts id [] rows below = sym (append-nil rows)
after-puts id (cookie ∷ cookies) rows below =
    let row = table_row id cookie in
    let next = id +ℤ pos 1 in
    let last : put_row row rows ≡ rows ++ row ∷ [] = put_row-last row rows below in
    let above : AllByRecursion (λ (r : TableRow). value_cmp (rowid r) (Int next) ≡ Less) (put_row row rows) =
    all-put_row (λ (r : TableRow). value_cmp (rowid r) (Int next) ≡ Less) row rows (next_above id)
    (all_weaker _ (λ (r : TableRow). value_cmp (rowid r) (Int next) ≡ Less)
    (λ r lower. value_cmp_total.trans (rowid r) (Int id) (Int next) lower (next_above id)) rows below) in
    after-puts next cookies (put_row row rows) above
    ∙ ap (λ (rs : List TableRow). rs ++ rows_from next cookies) last
    ∙ append_assoc rows (row ∷ []) (rows_from next cookies)

-- all rows are deleted, and those of other cookies put
replaced-rows : (before : Contents) (ids : Ids) (next : ℤ) (rows : List TableRow) (cookies : List Cookie) (changes : List Change)
    → changes ≡ map Delete (values_of ids) ++ map Put (new_rows cookies) → IsNumbered before ids next rows
    → after changes rows ≡ new_rows cookies
replaced-rows before ids next rows cookies changes are numbered =
    ap (λ (cs : List Change). after cs rows) are
    ∙ after-both (map Delete (values_of ids)) (map Put (new_rows cookies)) rows
    ∙ ap (after (map Put (new_rows cookies))) (none_left before ids next rows numbered)
    ∙ after-puts (pos 1) cookies [] tt

-- changes that delete all rows and put those of other cookies
module _ (before : Contents) (ids : Ids) (next : ℤ) (table : ℕ) (v : View) (cookies : List Cookie) (changes : List Change)
    (are : changes ≡ map Delete (values_of ids) ++ map Put (new_rows cookies)) (saved : IsSaved before ids next table v) where
  -- once they are committed, the table has these
  pub committed-new : (w : View) → CommitsChanges table changes v w → w.committed table ≡ new_rows cookies
  committed-new w commits =
      ap (λ (u : View). u.committed table) commits.is
      ∙ in_table-at table (after changes) v.committed
      ∙ replaced-rows before ids next (v.committed table) cookies changes are saved.numbered

  -- and so they are after a crash that leaves the changes
  pub recovered-new : (db : Trees) → db ≡ in_table table (after changes) v.committed → db table ≡ new_rows cookies
  recovered-new db is =
      ap (λ (trees : Trees). trees table) is
      ∙ in_table-at table (after changes) v.committed
      ∙ replaced-rows before ids next (v.committed table) cookies changes are saved.numbered
