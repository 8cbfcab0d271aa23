-- Fields that HTAB separates.
use Rattle.std.proofs.Common.{◌≡◌, ℕ, ◌<◌, ◌==◌, ◌≤◌, Bool, true, false, List, [], ◌∷◌, length, Bor, Option, Some, None, MatchOption, refl, ⊎_elim, arith}
use Rattle.std.specs.List.{after_first, before_first, list_any, position_or_len}
use Rattle.std.proofs.lemmas.List.Splits.{length-slice_split, slice_split_first, slice_split_none}
use Rattle.std.proofs.lemmas.List.Sums.{fails_before_first}
use Rattle.std.proofs.lemmas.List.Folds.{list_any_none}
use Rattle.std.proofs.lemmas.Bool.{both_ways, cases_lt}
use Rattle.cookie_words.specs.Strings.{pieces}
use Rattle.cookie_netscape.specs.Lines.{fields_of, last_fields}
use Rattle.cookie_netscape.proofs.JoinedFields.{one_piece}

-- the byte is HTAB
abbrev is_tab : ℕ → Bool
is_tab b = b == 9

-- the first field and the others, or the only one, as `split_once` finds them
pub first_field : (text : List ℕ) (found : Option (Bor (List ℕ) × Bor (List ℕ)))
    → MatchOption found (position_or_len is_tab text ≡ length text)
    (λ parts. (position_or_len is_tab text < length text) × (parts.0.now ≡ before_first is_tab text) × (parts.1.now ≡ after_first is_tab text))
    → MatchOption found (pieces 9 text ≡ text ∷ []) (λ parts. pieces 9 text ≡ parts.0.now ∷ pieces 9 parts.1.now)
first_field text None none = slice_split_none is_tab text (λ k d within. fails_before_first is_tab text k d (omega arith))
first_field text (Some parts) (within, first, rest) = rw (first, rest) (slice_split_first is_tab text 0 within)

-- fields after the value
after_value : (domain subdomains path secure expiry name value : List ℕ) (more : List (List ℕ)) → 0 < length more
    → last_fields domain subdomains path (secure ∷ expiry ∷ name ∷ value ∷ more) ≡ None
after_value domain subdomains path secure expiry name value [] several = elim several [ ]
after_value domain subdomains path secure expiry name value (field ∷ more) several = refl

-- HTAB is found before the end of a string that has it
has_tab : (text : List ℕ) → list_any is_tab text ≡ true → position_or_len is_tab text < length text
has_tab text some =
    ⊎_elim (λ (l : position_or_len is_tab text < length text). l)
    (λ (least : length text ≤ position_or_len is_tab text). absurd (both_ways _ (list_any_none is_tab text (λ k d within. fails_before_first is_tab text k d (omega (arith, least, within)))) some))
    (cases_lt (position_or_len is_tab text) (length text))

-- what follows the name has HTAB
pub too_many : (text name value : List ℕ) → pieces 9 text ≡ name ∷ pieces 9 value → list_any is_tab value ≡ true
    → (domain subdomains path secure expiry : List ℕ) → last_fields domain subdomains path (secure ∷ expiry ∷ pieces 9 text) ≡ None
too_many text name value first some = λ domain subdomains path secure expiry.
    rw (first, slice_split_first is_tab value 0 (has_tab value some))
    (after_value domain subdomains path secure expiry name (before_first is_tab value) (pieces 9 (after_first is_tab value))
    (omega (arith, length-slice_split is_tab (after_first is_tab value))))

-- what follows the name is the value
pub last_two : (text name value : List ℕ) → pieces 9 text ≡ name ∷ pieces 9 value → list_any is_tab value ≡ false
    → (domain subdomains path secure expiry : List ℕ)
    → last_fields domain subdomains path (secure ∷ expiry ∷ pieces 9 text) ≡ Some (fields_of domain subdomains path secure expiry name value)
last_two text name value first none = λ domain subdomains path secure expiry. rw (first, one_piece 9 value none) refl
