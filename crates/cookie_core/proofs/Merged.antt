-- Cookies that are merged one after the other.
use Rattle.std.proofs.Common.{◌≡◌, ℕ, ◌+◌, List, [], ◌∷◌, ◌++◌, map, Bor, ap, sym, ◌∙◌, append-nil, cond}
use Rattle.std.specs.List.{count_by}
use Rattle.std.proofs.lemmas.Grind.{flat_map-append}
use Rattle.std.proofs.lemmas.List.Sums.{sum_by-append}
use Rattle.cookie_words.specs.Moments.{Moment}
use Rattle.cookie_parts.specs.Cookie.{Row}
use Rattle.cookie_laws.specs.Contents.{Contents}
use Rattle.cookie_laws.specs.Runs.{replies, store_after}
use Rattle.cookie_core.specs.Merging.{is_stored, own_insertion, own_insertions}
use Rattle.cookie_core.proofs.LongerRuns.{replies-append, store_after-append}
use Rattle.cookie_core.proofs.Walked.{done_more}

module _ (now : Moment) (done : List Row) (cookie : Row) where
  -- the insertions of one more cookie
  insertions_more : own_insertions now (done ++ cookie ∷ []) ≡ own_insertions now done ++ own_insertion now cookie
  insertions_more =
      flat_map-append (own_insertion now) done (cookie ∷ [])
      ∙ ap (λ calls. own_insertions now done ++ calls) (append-nil (own_insertion now cookie))

  -- the store after them
  merged_more : (store : Contents) → store_after (own_insertions now (done ++ cookie ∷ [])) store
      ≡ store_after (own_insertion now cookie) (store_after (own_insertions now done) store)
  merged_more store =
      ap (λ calls. store_after calls store) insertions_more
      ∙ store_after-append (own_insertions now done) (own_insertion now cookie) store

  -- how many are stored
  stored_more : (store : Contents) → count_by is_stored (replies (own_insertions now (done ++ cookie ∷ [])) store)
      ≡ count_by is_stored (replies (own_insertions now done) store)
      + count_by is_stored (replies (own_insertion now cookie) (store_after (own_insertions now done) store))
  stored_more store =
      ap (λ calls. count_by is_stored (replies calls store)) insertions_more
      ∙ ap (count_by is_stored) (replies-append (own_insertions now done) (own_insertion now cookie) store)
      ∙ sum_by-append (λ reply. cond (is_stored reply) 1 0) (replies (own_insertions now done) store) (replies (own_insertion now cookie) (store_after (own_insertions now done) store))

-- one step of the loop
module _ (now : Moment) (done : List (Bor Row)) (cookie : Bor Row) (store before : Contents)
    (so_far : before ≡ store_after (own_insertions now (map (λ c. c.now) done)) store) where
  pub merged_on : (after : Contents) → after ≡ store_after (own_insertion now cookie.now) before
      → after ≡ store_after (own_insertions now (map (λ c. c.now) (done ++ cookie ∷ []))) store
  merged_on after is =
      is ∙ ap (store_after (own_insertion now cookie.now)) so_far
      ∙ sym (merged_more now (map (λ c. c.now) done) cookie.now store)
      ∙ ap (λ cookies. store_after (own_insertions now cookies) store) (sym (done_more done cookie))

  pub stored_on : (stored : ℕ) → stored ≡ count_by is_stored (replies (own_insertion now cookie.now) before)
      → count_by is_stored (replies (own_insertions now (map (λ c. c.now) (done ++ cookie ∷ []))) store)
      ≡ count_by is_stored (replies (own_insertions now (map (λ c. c.now) done)) store) + stored
  stored_on stored is =
      ap (λ cookies. count_by is_stored (replies (own_insertions now cookies) store)) (done_more done cookie)
      ∙ stored_more now (map (λ c. c.now) done) cookie.now store
      ∙ ap (λ n. count_by is_stored (replies (own_insertions now (map (λ c. c.now) done)) store) + n)
      (ap (λ s. count_by is_stored (replies (own_insertion now cookie.now) s)) (sym so_far) ∙ sym is)
