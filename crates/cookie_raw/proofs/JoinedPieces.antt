-- Splitting a string that was joined from pieces.
use Rattle.std.proofs.Common.{◌≡◌, ℕ, ◌+◌, Bool, true, false, List, [], ◌∷◌, ◌++◌, length, take, drop, Option, Some, None, IfSome, refl, sym, ap, ◌∙◌, arith, append_assoc, append-nil, take_at, take_all, drop_at}
use Rattle.std.specs.List.{AllByRecursion, cons_option, list_any, slice_split, onto_first, before_first, after_first, position_or_len}
use Rattle.std.proofs.lemmas.Bool.{or_parts}
use Rattle.std.proofs.lemmas.List.{length_push}
use Rattle.std.proofs.lemmas.List.Splits.{slice_split-cons_yes, slice_split-cons_no}
use Rattle.cookie_words.specs.Strings.{pieces}
use Rattle.cookie_raw.specs.SetCookie.{is_semicolon, pair_of, attributes, name_of}

-- a string in which no byte passes is one piece
one_piece : (p : ℕ → Bool) (text : List ℕ) → list_any p text ≡ false → slice_split p text ≡ text ∷ []
one_piece p [] h = refl
one_piece p (b ∷ bs) h =
    let parts = or_parts (p b) (list_any p bs) h in
    slice_split-cons_no p b bs parts.0 ∙ ap (onto_first b) (one_piece p bs parts.1)

-- the first piece ends at the first byte that passes
cut_at : (p : ℕ → Bool) (text : List ℕ) (b : ℕ) (rest : List ℕ) → list_any p text ≡ false → p b ≡ true
    → slice_split p (text ++ b ∷ rest) ≡ text ∷ slice_split p rest
cut_at p [] b rest h e = slice_split-cons_yes p b rest e
cut_at p (x ∷ xs) b rest h e =
    let parts = or_parts (p x) (list_any p xs) h in
    slice_split-cons_no p x (xs ++ b ∷ rest) parts.0 ∙ ap (onto_first x) (cut_at p xs b rest parts.1 e)

-- a byte that does not pass is counted
counted : (p : ℕ → Bool) (x : ℕ) (xs : List ℕ) (n : ℕ) → p x ≡ false → position_or_len p xs ≡ n
    → position_or_len p (x ∷ xs) ≡ 1 + n
counted p x xs n h e = rw (h, e)

-- if no byte passes, the position is the end
pub no_place : (p : ℕ → Bool) (text : List ℕ) → list_any p text ≡ false → position_or_len p text ≡ length text
no_place p [] h = refl
no_place p (x ∷ xs) h =
    let parts = or_parts (p x) (list_any p xs) h in
    counted p x xs (length xs) parts.0 (no_place p xs parts.1) ∙ omega arith

-- the position of the first byte that passes
place_at : (p : ℕ → Bool) (text : List ℕ) (b : ℕ) (rest : List ℕ) → list_any p text ≡ false → p b ≡ true
    → position_or_len p (text ++ b ∷ rest) ≡ length text
place_at p [] b rest h e = rw e
place_at p (x ∷ xs) b rest h e =
    let parts = or_parts (p x) (list_any p xs) h in
    counted p x (xs ++ b ∷ rest) (length xs) parts.0 (place_at p xs b rest parts.1 e) ∙ omega arith

-- what precedes that byte
pub before_at : (p : ℕ → Bool) (text : List ℕ) (b : ℕ) (rest : List ℕ) → list_any p text ≡ false → p b ≡ true
    → before_first p (text ++ b ∷ rest) ≡ text
before_at p text b rest h e =
    ap (λ n. take n (text ++ b ∷ rest)) (place_at p text b rest h e) ∙ take_at text (b ∷ rest) (length text) refl

-- what follows it
pub after_at : (p : ℕ → Bool) (text : List ℕ) (b : ℕ) (rest : List ℕ) → list_any p text ≡ false → p b ≡ true
    → after_first p (text ++ b ∷ rest) ≡ rest
after_at p text b rest h e =
    ap (λ n. drop (n + 1) (text ++ b ∷ rest)) (place_at p text b rest h e)
    ∙ ap (drop (length text + 1)) (sym (append_assoc text (b ∷ []) rest))
    ∙ drop_at (text ++ b ∷ []) rest (length text + 1) (length_push text b)

-- if no byte passes, all precedes it
pub before_none : (p : ℕ → Bool) (text : List ℕ) → list_any p text ≡ false → before_first p text ≡ text
before_none p text h = ap (λ n. take n text) (no_place p text h) ∙ take_all (length text) text (omega arith)

-- an attribute to print: its name, and the piece between `;` if it is printed
pub record Attribute : Type 0 where
  pub name : List ℕ
  pub piece : Option (List ℕ)

-- the piece has this name and no `;`
pub record IsPiece (name piece : List ℕ) : Type 0 where
  pub named : name_of piece ≡ name
  pub has_no_semicolon : list_any is_semicolon piece ≡ false

-- the piece has the attribute's name, if it is printed
abbrev pub IsWellPrinted : Attribute → Type 0
IsWellPrinted attribute = IfSome attribute.piece (IsPiece attribute.name)

-- a `;` and the piece, if it is printed
abbrev pub behind_semicolon : Option (List ℕ) → List ℕ
behind_semicolon None = []
behind_semicolon (Some piece) = 59 ∷ piece

-- all printed pieces, each after a `;`
abbrev pub joined : List Attribute → List ℕ
joined [] = []
joined (attribute ∷ more) = behind_semicolon attribute.piece ++ joined more

-- all printed pieces
abbrev pub present : List Attribute → List (List ℕ)
present [] = []
present (attribute ∷ more) = cons_option attribute.piece (present more)

-- one more attribute to split
split_one_more : (first : List ℕ) (piece : Option (List ℕ)) (name : List ℕ) (more : List Attribute)
    → list_any is_semicolon first ≡ false → IfSome piece (IsPiece name)
    → ((text : List ℕ) → list_any is_semicolon text ≡ false → pieces 59 (text ++ joined more) ≡ text ∷ present more)
    → pieces 59 (first ++ (behind_semicolon piece ++ joined more)) ≡ first ∷ cons_option piece (present more)
split_one_more first None name more h k split = split first h
split_one_more first (Some piece) name more h k split =
    cut_at is_semicolon first 59 (piece ++ joined more) h refl ∙ ap (λ rest. first ∷ rest) (split piece k.has_no_semicolon)

-- the pieces of a joined string
split_joined : (first : List ℕ) (more : List Attribute) → list_any is_semicolon first ≡ false
    → AllByRecursion IsWellPrinted more → pieces 59 (first ++ joined more) ≡ first ∷ present more
split_joined first [] h k = ap (pieces 59) (append-nil first) ∙ one_piece is_semicolon first h
split_joined first (attribute ∷ more) h k =
    split_one_more first attribute.piece attribute.name more h k.0 (λ text e. split_joined text more e k.1)

-- what precedes the first printed piece
pair_before : (first : List ℕ) (piece : Option (List ℕ)) (rest : List ℕ) → list_any is_semicolon first ≡ false
    → pair_of (first ++ rest) ≡ first → pair_of (first ++ (behind_semicolon piece ++ rest)) ≡ first
pair_before first None rest h e = e
pair_before first (Some piece) rest h e = before_at is_semicolon first 59 (piece ++ rest) h refl

-- the name-value-pair of a joined string
pub pair_of_joined : (first : List ℕ) (more : List Attribute) → list_any is_semicolon first ≡ false
    → pair_of (first ++ joined more) ≡ first
pair_of_joined first [] h = ap pair_of (append-nil first) ∙ before_none is_semicolon first h
pair_of_joined first (attribute ∷ more) h =
    pair_before first attribute.piece (joined more) h (pair_of_joined first more h)

-- the attributes of a joined string
pub attributes_of_joined : (first : List ℕ) (more : List Attribute) → list_any is_semicolon first ≡ false
    → AllByRecursion IsWellPrinted more → attributes (first ++ joined more) ≡ present more
attributes_of_joined first more h k = ap (drop 1) (split_joined first more h k)
