-- The result of an input, by the list that it is read as.
use Rattle.std.proofs.Common.{◌≡◌, ℕ, List, [], Option, Some, None, Result, Ok, Err, ◌⊎◌, inl, inr, refl}
use Rattle.std.specs.Str.{chars}
use Rattle.cookie_words.specs.Moments.{Moment}
use Rattle.cookie_forms.specs.Saved.{Parts}
use Rattle.cookie_forms.specs.FromJson.{all_with_parsed_expiry}
use Rattle.cookie_forms.specs.declared.error.SavedError.{SavedError}
use Rattle.cookie_forms.specs.declared.error.SavedError.TheVariants as ErrorCase
use Rattle.cookie_ron.specs.Grammar.{IsList}
use Rattle.cookie_ron.specs.RonInput.{list_at}
use Rattle.cookie_ron.specs.ParsedRon.{RonParsesTo}
use Rattle.cookie_ron.proofs.ListFronts.{list_front, list_read}

none_read : (s : List ℕ) (parts : List (Parts (List ℕ))) → list_at s ≡ None → ¬ IsList parts s
none_read s parts none is = let some = list_read s parts is in cc

-- an input that is not a list
pub ron_error : (text : List ℕ) (e : SavedError) → (e ≡ ErrorCase.Memory) ⊎ ((e ≡ ErrorCase.Ron) × (list_at (chars text) ≡ None))
    → (e ≡ ErrorCase.Memory) ⊎ RonParsesTo text (Err e)
ron_error text e errors = elim errors [
  | inl memory ↦ inl memory
  | inr (ron, none) ↦ inr (inl (ron, λ parts is. none_read (chars text) parts none is))
]

-- a list whose expiries are valid times
pub list_result : (text : List ℕ) (parts : List (Parts (List ℕ))) (list : List (Parts Moment)) → list_at (chars text) ≡ Some parts
    → all_with_parsed_expiry parts ≡ Some list → RonParsesTo text (Ok list)
list_result text parts list read moments = (parts, list_front (chars text) parts read, moments)

-- a list with an expiry that is not a valid time
pub moment_error : (text : List ℕ) (parts : List (Parts (List ℕ))) (e : SavedError) → list_at (chars text) ≡ Some parts
    → (e ≡ ErrorCase.Memory) ⊎ ((e ≡ ErrorCase.Moment) × (all_with_parsed_expiry parts ≡ None)) → (e ≡ ErrorCase.Memory) ⊎ RonParsesTo text (Err e)
moment_error text parts e read errors = elim errors [
  | inl memory ↦ inl memory
  | inr (moment, none) ↦ inr (inr (moment, parts, list_front (chars text) parts read, none))
]

-- the empty input is not a list
pub empty_is_ron_error : (text : List ℕ) → text ≡ [] → (ErrorCase.Ron ≡ ErrorCase.Memory) ⊎ RonParsesTo text (Err ErrorCase.Ron)
unfolding list_at chars
empty_is_ron_error text none =
    let unread : list_at (chars text) ≡ None = rw none refl in
    ron_error text ErrorCase.Ron (inr (refl, unread))

-- every input has a result
pub result_of : (text : List ℕ) → (outcome : Result (List (Parts Moment)) SavedError) × RonParsesTo text outcome
result_of text = by_list (list_at (chars text)) refl
  where
    by_list : (read : Option (List (Parts (List ℕ)))) → list_at (chars text) ≡ read → (outcome : Result (List (Parts Moment)) SavedError) × RonParsesTo text outcome
    by_list None e = (Err ErrorCase.Ron, inl (refl, λ parts is. none_read (chars text) parts e is))
    by_list (Some parts) e = by_ends (all_with_parsed_expiry parts) refl
      where
        by_ends : (read : Option (List (Parts Moment))) → all_with_parsed_expiry parts ≡ read → (outcome : Result (List (Parts Moment)) SavedError) × RonParsesTo text outcome
        by_ends None m = (Err ErrorCase.Moment, inr (refl, parts, list_front (chars text) parts e, m))
        by_ends (Some list) m = (Ok list, (parts, list_front (chars text) parts e, m))
