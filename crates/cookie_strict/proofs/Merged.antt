-- Cookies that are merged one after the other under the rules.
use Rattle.std.proofs.Common.{◌≡◌, ℕ, ◌+◌, List, [], ◌∷◌, ◌++◌, map, Bor, ap, sym, ◌∙◌, append-nil, refl, subst, arith, Some, None, Result, Ok, Err}
use Rattle.url.specs.Parts.{Parts}
use Rattle.std.specs.Prelude.{is_ok, if◌then◌else◌}
use Rattle.std.proofs.lemmas.Grind.{flat_map-append}
use Rattle.std.proofs.lemmas.List.{append_assoc, map-append}
use Rattle.cookie_words.specs.Moments.{Moment}
use Rattle.cookie_parts.specs.Cookie.{Row}
use Rattle.cookie_parts.specs.declared.store_action.StoreAction.{StoreAction}
use Rattle.cookie_laws.specs.Contents.{Contents}
use Rattle.cookie_laws.specs.Runs.{Call, Insert}
use Rattle.cookie_core.specs.Merging.{own_insertion, own_insertions, own_page}
use Rattle.cookie_strict.specs.StrictMerging.{how_many_allowed}
use Rattle.cookie_strict.specs.StrictRuns.{store_after_call, strict_call, strict_insertion, strict_store_after, IsStrictReply}
use Rattle.cookie_strict.specs.declared.error.StrictError.{StrictError}

-- the store after calls and more of them
store_after-append : (calls more : List Call) (store : Contents) → strict_store_after (calls ++ more) store ≡ strict_store_after more (strict_store_after calls store)
store_after-append [] more store = refl
store_after-append (first ∷ calls) more store = store_after-append calls more (store_after_call (strict_call first store) store)

-- and how many are allowed
allowed-append : (calls more : List Call) (store : Contents)
    → how_many_allowed (calls ++ more) store ≡ how_many_allowed calls store + how_many_allowed more (strict_store_after calls store)
allowed-append [] more store = omega arith
allowed-append (first ∷ calls) more store = omega (arith, allowed-append calls more (store_after_call (strict_call first store) store))

module _ (now : Moment) (done : List Row) (cookie : Row) where
  -- the insertions of one more cookie
  insertions_more : own_insertions now (done ++ cookie ∷ []) ≡ own_insertions now done ++ own_insertion now cookie
  insertions_more =
      flat_map-append (own_insertion now) done (cookie ∷ [])
      ∙ ap (λ calls. own_insertions now done ++ calls) (append-nil (own_insertion now cookie))

-- one step of the loop
module _ (now : Moment) (done : List (Bor Row)) (cookie : Bor Row) (store before : Contents)
    (so_far : before ≡ strict_store_after (own_insertions now (map (λ c. c.now) done)) store) where
  abbrev rows : List Row
  rows = map (λ c. c.now) done

  one_more : own_insertions now (map (λ c. c.now) (done ++ cookie ∷ [])) ≡ own_insertions now rows ++ own_insertion now cookie.now
  one_more = ap (own_insertions now) (map-append (λ c. c.now) done (cookie ∷ [])) ∙ insertions_more now rows cookie.now

  pub merged_on : (after : Contents) → after ≡ strict_store_after (own_insertion now cookie.now) before
      → after ≡ strict_store_after (own_insertions now (map (λ c. c.now) (done ++ cookie ∷ []))) store
  merged_on after is =
      is ∙ ap (strict_store_after (own_insertion now cookie.now)) so_far
      ∙ sym (ap (λ calls. strict_store_after calls store) one_more ∙ store_after-append (own_insertions now rows) (own_insertion now cookie.now) store)

  pub allowed_on : (stored : ℕ) → stored ≡ how_many_allowed (own_insertion now cookie.now) before
      → how_many_allowed (own_insertions now (map (λ c. c.now) (done ++ cookie ∷ []))) store
      ≡ how_many_allowed (own_insertions now rows) store + stored
  allowed_on stored is =
      ap (λ calls. how_many_allowed calls store) one_more
      ∙ allowed-append (own_insertions now rows) (own_insertion now cookie.now) store
      ∙ ap (λ n. how_many_allowed (own_insertions now rows) store + n)
      (ap (how_many_allowed (own_insertion now cookie.now)) (sym so_far) ∙ sym is)

  -- the cookies so far and the remaining ones are all
  pub walked_on : (left after all : List Row) → left ≡ cookie.now ∷ after → rows ++ left ≡ all → map (λ c. c.now) (done ++ cookie ∷ []) ++ after ≡ all
  walked_on left after all step is =
      ap (λ xs. xs ++ after) (map-append (λ c. c.now) done (cookie ∷ []))
      ∙ append_assoc rows (cookie.now ∷ []) after
      ∙ ap (λ xs. rows ++ xs) (sym step) ∙ is

-- a cookie that was inserted was allowed
allowed_one : (call : Call) (action : StoreAction) (store : Contents) → IsStrictReply (Ok action) (strict_call call store) store
    → 1 ≡ how_many_allowed (call ∷ []) store
allowed_one call action store reply = counted (strict_call call store) reply
  where
    counted : (allowed : Result Call StrictError) → IsStrictReply (Ok action) allowed store
        → 1 ≡ (if is_ok allowed then 1 else 0) + how_many_allowed [] (store_after_call allowed store)
    counted (Ok call) reply = refl
    counted (Err error) reply = absurd reply

-- so a copy of it, from its own page
pub stored_one : (now : Moment) (cookie copy : Row) (page : Parts) (action : StoreAction) (store : Contents) → copy ≡ cookie → own_page cookie ≡ Some page
    → IsStrictReply (Ok action) (strict_insertion copy page now store) store → 1 ≡ how_many_allowed (own_insertion now cookie) store
stored_one now cookie copy page action store same is reply =
    allowed_one (Insert cookie page now) action store (subst (λ c. IsStrictReply (Ok action) (strict_insertion c page now store) store) same reply)
    ∙ ap (λ found. how_many_allowed (elim found [ None ↦ [] | Some page ↦ Insert cookie page now ∷ [] ]) store) (sym is)
