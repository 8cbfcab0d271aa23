-- The rowids of the cookies that are gone, among one entry more.
use Rattle.std.proofs.Common.{◌≡◌, ℕ, ℤ, ◌+◌, Bool, true, false, cond, not, List, [], ◌∷◌, ◌++◌, filter, take, Some, ap, ◌∙◌, append-nil}
use Rattle.std.specs.List.{slice_get}
use Rattle.std.specs.Map.{values_of}
use Rattle.std.proofs.lemmas.List.{map-append, take_more}
use Rattle.std.proofs.lemmas.List.Elements.{filter-append}
use Rattle.std.proofs.lemmas.Option.{get_or_from_slice_get, slice_get_within}
use Rattle.cookie_laws.specs.Contents.{Contents}
use Rattle.cookie_durable.specs.Numbering.{Ids, Names, key_in}
use Rattle.cookie_durable.specs.Sweeping.{gone_ids, has_cookie}

module _ (store : Contents) (ids : Ids) (i : ℕ) (e : Names × ℤ) (at : slice_get ids i ≡ Some e) where
  one_more : (b : Bool) → has_cookie store (key_in e.0) ≡ b → gone_ids store (take (i + 1) ids) ≡ gone_ids store (take i ids) ++ cond (not b) (e.1 ∷ []) []
  one_more b is =
      let gone : Names × ℤ → Bool = λ (x : Names × ℤ). not (has_cookie store (key_in x.0)) in
      ap (gone_ids store) (take_more ids i e (slice_get_within ids i e at) ∙ ap (λ (x : Names × ℤ). take i ids ++ x ∷ []) (get_or_from_slice_get ids i e e at))
      ∙ ap values_of (filter-append gone (take i ids) (e ∷ []))
      ∙ map-append (λ (x : Names × ℤ). x.1) (filter gone (take i ids)) (filter gone (e ∷ []))
      ∙ ap (λ (found : List ℤ). gone_ids store (take i ids) ++ found) (by b is)
    where
      by : (b : Bool) → has_cookie store (key_in e.0) ≡ b
          → values_of (cond (not (has_cookie store (key_in e.0))) (e ∷ []) []) ≡ cond (not b) (e.1 ∷ []) []
      by true is = ap (λ c. values_of (cond (not c) (e ∷ []) [])) is
      by false is = ap (λ c. values_of (cond (not c) (e ∷ []) [])) is

  -- its cookie is gone
  pub gone_more : has_cookie store (key_in e.0) ≡ false → gone_ids store (take (i + 1) ids) ≡ gone_ids store (take i ids) ++ e.1 ∷ []
  gone_more gone = one_more false gone

  -- it has a cookie
  pub kept_more : has_cookie store (key_in e.0) ≡ true → gone_ids store (take (i + 1) ids) ≡ gone_ids store (take i ids)
  kept_more kept = one_more true kept ∙ append-nil (gone_ids store (take i ids))
