-- Iterating over borrowed items, one step further.
use Rattle.std.proofs.Common.{◌≡◌, List, [], ◌∷◌, ◌++◌, map, Bor, sym, ap, ◌∙◌}
use Rattle.std.proofs.lemmas.List.{append_assoc, map-append}

module _ {A : Type 0} (done : List (Bor A)) (x : Bor A) where
  -- the items visited, with one more
  pub done_more : map (λ c. c.now) (done ++ x ∷ []) ≡ map (λ c. c.now) done ++ x.now ∷ []
  done_more = map-append (λ c. c.now) done (x ∷ [])

  module _ (left after all : List A) (step : left ≡ x.now ∷ after) (so_far : map (λ c. c.now) done ++ left ≡ all) where
    -- all items are those visited, this one, and those left
    pub around : all ≡ map (λ c. c.now) done ++ x.now ∷ after
    around = sym so_far ∙ ap (λ xs. map (λ c. c.now) done ++ xs) step

    -- the same one step further
    pub walked_on : map (λ c. c.now) (done ++ x ∷ []) ++ after ≡ all
    walked_on = ap (λ xs. xs ++ after) done_more ∙ append_assoc (map (λ c. c.now) done) (x.now ∷ []) after ∙ sym around
