-- The expiries of cookies, parsed one after the other.
use Rattle.std.proofs.Common.{◌≡◌, List, [], ◌∷◌, ◌++◌, ℕ, Option, Some, None, option_map, refl, sym, ap}
use Rattle.std.proofs.lemmas.List.{append_assoc}
use Rattle.cookie_words.specs.Moments.{Moment}
use Rattle.cookie_forms.specs.Saved.{Parts}
use Rattle.cookie_forms.specs.FromJson.{with_parsed_expiry, all_with_parsed_expiry}

moved : (front : List (Parts Moment)) (q : Parts Moment) (o : Option (List (Parts Moment)))
    → option_map (λ rest. front ++ rest) (option_map (λ qs. q ∷ qs) o) ≡ option_map (λ rest. (front ++ q ∷ []) ++ rest) o
moved front q None = refl
moved front q (Some qs) = ap Some (sym (append_assoc front (q ∷ []) qs))

-- one more expiry is valid
pub end_read : (front : List (Parts Moment)) (p : Parts (List ℕ)) (ps : List (Parts (List ℕ))) (q : Parts Moment) → with_parsed_expiry p ≡ Some q
    → option_map (λ rest. front ++ rest) (all_with_parsed_expiry (p ∷ ps)) ≡ option_map (λ rest. (front ++ q ∷ []) ++ rest) (all_with_parsed_expiry ps)
end_read front p ps q e = rw e (moved front q (all_with_parsed_expiry ps))

-- an expiry that is not valid
pub end_rejected : (front : List (Parts Moment)) (p : Parts (List ℕ)) (ps : List (Parts (List ℕ))) → with_parsed_expiry p ≡ None
    → option_map (λ rest. front ++ rest) (all_with_parsed_expiry (p ∷ ps)) ≡ None
end_rejected front p ps e = rw e refl

pub ruleset end_steps = (end_read, end_rejected)
