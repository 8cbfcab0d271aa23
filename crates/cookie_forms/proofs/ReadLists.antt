-- Reading the items of a list, one after the other.
use Rattle.std.proofs.Common.{◌≡◌, List, [], ◌∷◌, ◌++◌, ℕ, Some, None, Option, true, false, option_map, option_and_then, is_some, true≢false, refl, sym, ap, ◌∙◌}
use Rattle.std.proofs.lemmas.List.{append_assoc}
use Rattle.serde_json.specs.Data.{Data, Items, item}
use Rattle.cookie_words.specs.Moments.{Moment}
use Rattle.cookie_forms.specs.Saved.{Parts}
use Rattle.cookie_forms.specs.FromJson.{parts_in, all_parts_in, with_parsed_expiry, all_with_parsed_expiry, all_in}

is_some_map : {A B : Type 0} (f : A → B) (o : Option A) → is_some (option_map f o) ≡ is_some o
is_some_map f None = refl
is_some_map f (Some a) = refl

-- an item that has the shape
pub shape_step : (d : Data) (ds : Items) (p : Parts (List ℕ)) → Some p ≡ parts_in d → is_some (all_parts_in (item d ds)) ≡ is_some (all_parts_in ds)
shape_step d ds p e = rw (← e) (is_some_map (λ ps. p ∷ ps) (all_parts_in ds))

-- an item that does not
pub shape_end : (d : Data) (ds : Items) → None ≡ parts_in d → is_some (all_parts_in (item d ds)) ≡ false
shape_end d ds e = rw (← e) refl

read_one : (o : Option (List (Parts (List ℕ)))) (p : Parts (List ℕ)) (q : Parts Moment) → with_parsed_expiry p ≡ Some q
    → option_and_then all_with_parsed_expiry (option_map (λ ps. p ∷ ps) o) ≡ option_map (λ qs. q ∷ qs) (option_and_then all_with_parsed_expiry o)
read_one None p q e = refl
read_one (Some ps) p q e = rw e refl

read_none : (o : Option (List (Parts (List ℕ)))) (p : Parts (List ℕ)) → with_parsed_expiry p ≡ None
    → option_and_then all_with_parsed_expiry (option_map (λ ps. p ∷ ps) o) ≡ None
read_none None p e = refl
read_none (Some ps) p e = rw e refl

-- an item with a valid expiry
pub read_step : (d : Data) (ds : Items) (p : Parts (List ℕ)) (q : Parts Moment) → Some p ≡ parts_in d → with_parsed_expiry p ≡ Some q
    → all_in (item d ds) ≡ option_map (λ qs. q ∷ qs) (all_in ds)
read_step d ds p q e f = rw (← e) (read_one (all_parts_in ds) p q f)

-- an item whose expiry is not a valid time
pub read_end : (d : Data) (ds : Items) (p : Parts (List ℕ)) → Some p ≡ parts_in d → with_parsed_expiry p ≡ None → all_in (item d ds) ≡ None
read_end d ds p e f = rw (← e) (read_none (all_parts_in ds) p f)

-- an item that does not have the shape
pub read_stop : (d : Data) (ds : Items) → None ≡ parts_in d → all_in (item d ds) ≡ None
read_stop d ds e = rw (← e) refl

-- one more item has been read
pub behind : (front : List (Parts Moment)) (q : Parts Moment) (o : Option (List (Parts Moment)))
    → option_map (λ rest. front ++ rest) (option_map (λ qs. q ∷ qs) o) ≡ option_map (λ rest. (front ++ q ∷ []) ++ rest) o
behind front q None = refl
behind front q (Some qs) = ap Some (sym (append_assoc front (q ∷ []) qs))

flag_step : (d : Data) (ds : Items) (p : Parts (List ℕ)) (r : Option (Parts Moment)) → with_parsed_expiry p ≡ r
    → Some p ≡ parts_in d → is_some r ≡ true → is_some (all_in (item d ds)) ≡ is_some (all_in ds)
flag_step d ds p None f e h = absurd (true≢false (sym h))
flag_step d ds p (Some q) f e h = ap is_some (read_step d ds p q e f) ∙ is_some_map (λ qs. q ∷ qs) (all_in ds)

flag_end : (d : Data) (ds : Items) (p : Parts (List ℕ)) (r : Option (Parts Moment)) → with_parsed_expiry p ≡ r
    → Some p ≡ parts_in d → is_some r ≡ false → is_some (all_in (item d ds)) ≡ false
flag_end d ds p None f e h = ap is_some (read_end d ds p e f)
flag_end d ds p (Some q) f e h = absurd (true≢false h)

-- whether all items are valid, if this one is
pub all_read_step : (d : Data) (ds : Items) (p : Parts (List ℕ)) → Some p ≡ parts_in d → is_some (with_parsed_expiry p) ≡ true
    → is_some (all_in (item d ds)) ≡ is_some (all_in ds)
all_read_step d ds p e h = flag_step d ds p (with_parsed_expiry p) refl e h

-- and if it is not
pub all_read_end : (d : Data) (ds : Items) (p : Parts (List ℕ)) → Some p ≡ parts_in d → is_some (with_parsed_expiry p) ≡ false
    → is_some (all_in (item d ds)) ≡ false
all_read_end d ds p e h = flag_end d ds p (with_parsed_expiry p) refl e h

pub all_read_stop : (d : Data) (ds : Items) → None ≡ parts_in d → is_some (all_in (item d ds)) ≡ false
all_read_stop d ds e = ap is_some (read_stop d ds e)

pub ruleset shape_steps = (shape_step, shape_end)

pub ruleset flag_steps = (all_read_step, all_read_end, all_read_stop)

pub ruleset read_steps = (read_step, read_end, read_stop, behind)
