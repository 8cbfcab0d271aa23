-- The last label of a domain, and the labels before it.
use Rattle.std.proofs.Common.{◌≡◌, ℕ, ◌+◌, ◌==◌, ◌<◌, ◌≤◌, List, [], ◌∷◌, ◌++◌, length, get_or, take, drop, reverse, refl, ap, sym, ◌∙◌, true, false, Bool, cond, arith}
use Rattle.std.specs.List.{All, slice_split, onto_first}
use Rattle.std.specs.Str.{NoCharPasses}
use Rattle.std.specs.Str.Pattern.{HasCharAt}
use Rattle.std.proofs.lemmas.Bool.{ne_eqb}
use Rattle.std.proofs.lemmas.List.{get_or_default, length-reverse, take-append-drop, reverse-append}
use Rattle.std.proofs.lemmas.List.Splits.{slice_split_none, length-slice_split}
use Rattle.std.proofs.lemmas.List.Sums.{count_by-le-length}
use Rattle.std.proofs.lemmas.Str.Pattern.{NoCharPasses-char, drop_at_char}
use Rattle.cookie_psl.specs.Rules.{labels_of}

-- a string without dots has no byte that is a dot
no_dots : (text : List ℕ) → NoCharPasses (λ b. b == 46) text → All (λ b. (b == 46) ≡ false) text
no_dots text lacks k d below =
    ne_eqb (get_or text k d) 46 (λ same. NoCharPasses-char 46 text k lacks (omega arith) below (get_or_default text k 0 d below ∙ same))

-- one more byte in front of joined pieces
step_join : (is_dot : Bool) (b : ℕ) (parts others : List (List ℕ)) → 0 < length parts →
    cond is_dot ([] ∷ (parts ++ others)) (onto_first b (parts ++ others)) ≡ cond is_dot ([] ∷ parts) (onto_first b parts) ++ others
step_join true b parts others some = refl
step_join false b [] others some = absurd (omega arith)
step_join false b (part ∷ parts) others some = refl

-- a string is split at each of its dots
split_join : (prefix label : List ℕ) → slice_split (λ b. b == 46) (prefix ++ 46 ∷ label) ≡ slice_split (λ b. b == 46) prefix ++ slice_split (λ b. b == 46) label
split_join [] label = refl
split_join (b ∷ prefix) label =
    ap (λ parts. cond (b == 46) ([] ∷ parts) (onto_first b parts)) (split_join prefix label)
    ∙ step_join (b == 46) b (slice_split (λ x. x == 46) prefix) (slice_split (λ x. x == 46) label) (omega (arith, length-slice_split (λ x. x == 46) prefix))

-- a string without dots is its only label
pub one_label : (text : List ℕ) → NoCharPasses (λ b. b == 46) text → labels_of text ≡ text ∷ []
one_label text lacks = ap reverse (slice_split_none (λ b. b == 46) text (no_dots text lacks))

-- what follows the last dot is the last label
labels_join : (prefix label : List ℕ) → NoCharPasses (λ b. b == 46) label → labels_of (prefix ++ 46 ∷ label) ≡ label ∷ labels_of prefix
labels_join prefix label lacks =
    ap reverse (split_join prefix label ∙ ap (λ parts. slice_split (λ b. b == 46) prefix ++ parts) (slice_split_none (λ b. b == 46) label (no_dots label lacks)))
    ∙ reverse-append (slice_split (λ b. b == 46) prefix) (label ∷ [])

-- the same, with the position of the dot
pub last_label : (domain prefix label : List ℕ) (i j : ℕ) → NoCharPasses (λ b. b == 46) (drop j domain) → HasCharAt 46 domain i j → prefix ≡ take i domain → label ≡ drop j domain →
    labels_of domain ≡ label ∷ labels_of prefix
last_label domain prefix label i j lacks at is_front is_label =
    ap labels_of (sym (take-append-drop i domain) ∙ ap (λ rest. take i domain ++ rest) (drop_at_char 46 domain i j at (omega arith)))
    ∙ labels_join (take i domain) (drop j domain) lacks ∙ cc

-- a string has at most one label more than bytes
pub labels-le : (text : List ℕ) → length (labels_of text) ≤ length text + 1
labels-le text = omega (arith, length-reverse (slice_split (λ b. b == 46) text), length-slice_split (λ b. b == 46) text, count_by-le-length (λ b. b == 46) text)
