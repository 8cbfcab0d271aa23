-- The rows of the table once the changes of a call were made, after those of earlier calls.
use Rattle.std.proofs.Common.{◌≡◌, ℕ, ℤ, List, [], ◌∷◌, ◌++◌, map, Option, refl, sym, ap, subst, ◌∙◌}
use Rattle.std.specs.Prelude.{option_to_list}
use Rattle.std.specs.Map.{values_of}
use Rattle.sqlite_value.specs.Order.{Row as TableRow}
use Rattle.cookie_parts.specs.Cookie.{Row as Cookie}
use Rattle.cookie_laws.specs.Contents.{Contents}
use Rattle.cookie_laws.specs.Rows.{key_at, row_of}
use Rattle.cookie_laws.specs.Runs.{Clear, step}
use Rattle.durable_table.specs.Changes.{after, changed}
use Rattle.durable_table.specs.declared.change.Change.{Change}
use Rattle.durable_table.specs.declared.change.Change.TheVariants.{Delete}
use Rattle.cookie_durable.specs.Numbering.{Ids, IsNumbered, Names, Touches, WritesCookie, key_in}
use Rattle.cookie_durable.proofs.WrittenCookies.{cleared, written}

-- the rows after changes and more of them
after-append : (changes more : List Change) (rows : List TableRow) → after (changes ++ more) rows ≡ after more (after changes rows)
after-append [] more rows = refl
after-append (change ∷ changes) more rows = after-append changes more (changed change rows)

-- the cookies before the call, once the earlier changes were made
module _ (before store : Contents) (ids new_ids : Ids) (next : ℤ) (rows : List TableRow) (changes new_changes : List Change)
    (numbered : IsNumbered before ids next (after changes rows)) where
  -- a call that touches the key of these names, and the change that writes its cookie
  pub added-numbered : (names : Names) (new_next : ℤ) (found : Option Cookie) (change : Option Change) (domain path name : List ℕ)
      → Touches (key_in names) before store → found ≡ row_of (key_at domain path name) store.rows
      → key_at domain path name ≡ key_in names → WritesCookie found (key_in names) ids next new_ids new_next change
      → new_changes ≡ changes ++ option_to_list change → IsNumbered store new_ids new_next (after new_changes rows)
  added-numbered names new_next found change domain path name touches is_row key writes are =
      subst (IsNumbered store new_ids new_next)
      (sym (ap (λ (cs : List Change). after cs rows) are ∙ after-append changes (option_to_list change) rows))
      (written before store (key_in names) ids new_ids next (after changes rows) touches numbered new_next change
      (subst (λ (o : Option Cookie). WritesCookie o (key_in names) ids next new_ids new_next change) (is_row ∙ ap (λ k. row_of k store.rows) key) writes))

  -- all cookies were removed
  pub cleared-numbered : (deletions : List Change) → store ≡ (step Clear before).store → new_ids ≡ []
      → deletions ≡ map Delete (values_of ids) → new_changes ≡ changes ++ deletions → IsNumbered store new_ids next (after new_changes rows)
  cleared-numbered deletions store_is ids_are deletions_are are =
      subst (IsNumbered store new_ids next)
      (sym (ap (λ (cs : List Change). after cs rows) (are ∙ ap (λ ds. changes ++ ds) deletions_are)
      ∙ after-append changes (map Delete (values_of ids)) rows))
      (subst (λ (i : Ids). IsNumbered store i next (after (map Delete (values_of ids)) (after changes rows))) (sym ids_are)
      (subst (λ (s : Contents). IsNumbered s [] next (after (map Delete (values_of ids)) (after changes rows))) (sym store_is)
      (cleared before ids next (after changes rows) numbered)))
