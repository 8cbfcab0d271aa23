-- Fields joined by HTAB, and split again.
use Rattle.std.proofs.Common.{◌≡◌, ℕ, ◌==◌, Bool, true, false, List, [], ◌∷◌, ◌++◌, ap, refl, ◌∙◌}
use Rattle.std.specs.Char.{is_ascii_control}
use Rattle.std.specs.List.{All, AllByRecursion, join_with_byte, list_any}
use Rattle.std.proofs.lemmas.Bool.{both_ways, eq-eqb, false_from_ne_true, ne_eqb, or_from}
use Rattle.std.proofs.lemmas.List.Folds.{list_any-append, list_any_at, list_any_none}
use Rattle.std.proofs.lemmas.List.Splits.{slice_split_at, slice_split_none}
use Rattle.cookie_words.specs.Strings.{pieces}
use Rattle.cookie_netscape.specs.Lines.{has_control}

-- the string has no control character
abbrev pub IsField : List ℕ → Type 0
IsField text = has_control text ≡ false

-- the string does not have the byte
abbrev pub Lacks : ℕ → List ℕ → Type 0
Lacks byte text = list_any (λ b. b == byte) text ≡ false

-- if no byte of a string passes, each of them fails
pub none_passes : (p : ℕ → Bool) (text : List ℕ) → list_any p text ≡ false → All (λ b. p b ≡ false) text
none_passes p text none k d within = false_from_ne_true _ (λ passes. both_ways _ none (list_any_at p text k d within passes))

-- a string without control characters lacks each of them
pub field_lacks : (byte : ℕ) (text : List ℕ) → is_ascii_control byte ≡ true → IsField text → Lacks byte text
field_lacks byte text control field =
    list_any_none (λ b. b == byte) text
    (λ k d within. ne_eqb _ byte (λ e. both_ways _ (none_passes is_ascii_control text field k d within) (ap is_ascii_control e ∙ control)))

-- a string that lacks the byte is one piece
pub one_piece : (byte : ℕ) (text : List ℕ) → Lacks byte text → pieces byte text ≡ text ∷ []
one_piece byte text lacks = slice_split_none (λ b. b == byte) text (none_passes _ text lacks)

-- a string that lacks the byte is the first piece, if the byte follows it
pub first_piece : (byte : ℕ) (text rest : List ℕ) → Lacks byte text
    → pieces byte (text ++ byte ∷ rest) ≡ text ∷ pieces byte rest
first_piece byte text rest lacks =
    slice_split_at (λ b. b == byte) text byte rest (none_passes _ text lacks) (eq-eqb byte byte refl)

-- joined fields are split into the same fields
pub split_joined : (first : List ℕ) (more : List (List ℕ)) → IsField first → AllByRecursion IsField more
    → pieces 9 (join_with_byte 9 (first ∷ more)) ≡ first ∷ more
split_joined first [] field fields = one_piece 9 first (field_lacks 9 first refl field)
split_joined first (second ∷ more) field fields =
    first_piece 9 first (join_with_byte 9 (second ∷ more)) (field_lacks 9 first refl field)
    ∙ ap (λ pieces. first ∷ pieces) (split_joined second more fields.0 fields.1)

-- joined fields lack each control character but HTAB
pub joined_lacks : (byte : ℕ) → is_ascii_control byte ≡ true → (9 == byte) ≡ false
    → (first : List ℕ) (more : List (List ℕ)) → IsField first → AllByRecursion IsField more
    → Lacks byte (join_with_byte 9 (first ∷ more))
joined_lacks byte control other first [] field fields = field_lacks byte first control field
joined_lacks byte control other first (second ∷ more) field fields =
    list_any-append (λ b. b == byte) first (9 ∷ join_with_byte 9 (second ∷ more))
    ∙ or_from _ _ (field_lacks byte first control field) (or_from _ _ other (joined_lacks byte control other second more fields.0 fields.1))
