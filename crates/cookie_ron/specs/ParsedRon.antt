-- The result of reading an input in RON: a list or an error.
use Rattle.std.specs.Prelude.{◌≡◌, ◌⊎◌, ℕ, List, Some, None, Result, Ok, Err}
use Rattle.std.specs.Str.{chars}
use Rattle.cookie_words.specs.Moments.{Moment}
use Rattle.cookie_forms.specs.FromJson.{all_with_parsed_expiry}
use Rattle.cookie_forms.specs.Saved.{Parts}
use Rattle.cookie_forms.specs.declared.error.SavedError.{SavedError}
use Rattle.cookie_forms.specs.declared.error.SavedError.TheVariants as ErrorCase
use Rattle.cookie_ron.specs.Grammar.{IsList}

-- A list: the input is that list by the grammar, and each expiry is a valid time. `Ron`: the input is no list by the grammar.
-- `Moment`: the input is a list by the grammar, and some expiry is not a valid time.
abbrev pub RonParsesTo : List ℕ → Result (List (Parts Moment)) SavedError → Type 0
RonParsesTo text (Ok list) = (parts : List (Parts (List ℕ))) × IsList parts (chars text) × (all_with_parsed_expiry parts ≡ Some list)
RonParsesTo text (Err fault) =
    ((fault ≡ ErrorCase.Ron) × ((parts : List (Parts (List ℕ))) → ¬ IsList parts (chars text)))
    ⊎ ((fault ≡ ErrorCase.Moment) × (parts : List (Parts (List ℕ))) × IsList parts (chars text) × (all_with_parsed_expiry parts ≡ None))
