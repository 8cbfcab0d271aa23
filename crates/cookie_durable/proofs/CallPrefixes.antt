-- The table after the first calls of a list.
use Rattle.std.proofs.Common.{◌≡◌, ℕ, ◌+◌, List, [], ◌∷◌, ◌++◌, length, map, take, refl, sym, ap, subst, ◌∙◌, arith, length-append, append_assoc, ◌⊎◌, inl, inr}
use Rattle.std.proofs.lemmas.List.{length-map, map-append}
use Rattle.sqlite_value.specs.Order.{Row as TableRow}
use Rattle.sqlite_trees.specs.Tree.{Trees}
use Rattle.cookie_laws.specs.Contents.{Contents}
use Rattle.cookie_laws.specs.Runs.{Call, Reply, replies, step, store_after}
use Rattle.cookie_core.proofs.LongerRuns.{store_after_more}
use Rattle.cookie_durable.specs.Durable.{HoldsAfterPrefix}
use Rattle.cookie_durable.specs.SavedTables.{Holds}

-- the first items of two lists, as many as the first has
take-prefix : {T : Type 0} (xs ys : List T) → take (length xs) (xs ++ ys) ≡ xs
take-prefix [] ys = refl
take-prefix (x ∷ xs) ys = ap (λ zs. x ∷ zs) (take-prefix xs ys)

-- calls of which these were executed
module _ (store : Contents) (rows : List TableRow) (done calls : List Call) where
  -- the table has the store after them
  holds-done : (rest : List Call) → calls ≡ done ++ rest → Holds (store_after done store) rows → HoldsAfterPrefix (length done) calls store rows
  holds-done rest all holds = record {
    count = length done;
    all_done = omega arith;
    one_more = omega arith;
    within = omega (arith, ap length all, length-append done rest);
    is = subst (λ (cs : List Call). Holds (store_after cs store) rows) (sym (ap (take (length done)) all ∙ take-prefix done rest)) holds;
  }

  -- or after one more
  holds-one_more : (call : Call) (rest : List Call) → calls ≡ done ++ call ∷ rest → Holds (step call (store_after done store)).store rows
      → HoldsAfterPrefix (length done) calls store rows
  holds-one_more call rest all holds =
      let more : List Call = done ++ call ∷ [] in
      let long : length more ≡ length done + 1 = length-append done (call ∷ []) in
      let all_more : calls ≡ more ++ rest = all ∙ sym (append_assoc done (call ∷ []) rest) in
      record {
        count = length more;
        all_done = omega (arith, long);
        one_more = omega (arith, long);
        within = omega (arith, ap length all_more, length-append more rest);
        is = subst (λ (cs : List Call). Holds (store_after cs store) rows) (sym (ap (take (length more)) all_more ∙ take-prefix more rest))
            (subst (λ (s : Contents). Holds s rows) (sym (store_after_more done call store)) holds);
      }

-- there is a reply for each call
pub replies-length : (calls : List Call) (store : Contents) → length (replies calls store) ≡ length calls
replies-length [] store = refl
replies-length (call ∷ calls) store = omega (arith, replies-length calls (step call store).store)

-- calls of a list, of which these were executed and have these replies
module _ {A B : Type 0} (call_of : A → Call) (reply_of : B → Reply) (store before : Contents) (table before_table : ℕ) (db : Trees)
    (executed calls : List A) (reported : List B)
    (replied : map reply_of reported ≡ replies (map call_of executed) store) (store_is : before ≡ store_after (map call_of executed) store)
    (table_is : before_table ≡ table) where
  count_is : length (map call_of executed) ≡ length reported
  count_is = sym (replies-length (map call_of executed) store) ∙ ap length (sym replied) ∙ length-map reported reply_of

  -- the table has the store after them
  pub prefix_done : (rest : List A) → calls ≡ executed ++ rest → Holds before (db before_table)
      → HoldsAfterPrefix (length reported) (map call_of calls) store (db table)
  prefix_done rest all holds =
      subst (λ (n : ℕ). HoldsAfterPrefix n (map call_of calls) store (db table)) count_is
      (holds-done store (db table) (map call_of executed) (map call_of calls) (map call_of rest)
      (ap (map call_of) all ∙ map-append call_of executed rest)
      (subst (λ (s : Contents). Holds s (db table)) store_is (subst (λ (t : ℕ). Holds before (db t)) table_is holds)))

  -- or after one more
  pub prefix_one_more : (call : A) (rest : List A) → calls ≡ executed ++ call ∷ rest
      → Holds before (db before_table) ⊎ Holds (step (call_of call) before).store (db before_table)
      → HoldsAfterPrefix (length reported) (map call_of calls) store (db table)
  prefix_one_more call rest all (inl holds) = prefix_done (call ∷ rest) all holds
  prefix_one_more call rest all (inr holds) =
      subst (λ (n : ℕ). HoldsAfterPrefix n (map call_of calls) store (db table)) count_is
      (holds-one_more store (db table) (map call_of executed) (map call_of calls) (call_of call) (map call_of rest)
      (ap (map call_of) all ∙ map-append call_of executed (call ∷ rest))
      (subst (λ (s : Contents). Holds (step (call_of call) s).store (db table)) store_is
      (subst (λ (t : ℕ). Holds (step (call_of call) before).store (db t)) table_is holds)))
