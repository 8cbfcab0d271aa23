-- The last labels of a domain, from right to left.
use Rattle.std.proofs.Common.{◌≡◌, ℕ, ◌+◌, ◌-◌, ◌<◌, Bool, true, false, cond, List, [], ◌∷◌, ◌++◌, length, take, drop, Option, Some, None, MatchOption, Bor, get_or, refl, sym, ap, ◌∙◌, subst, zero-add, arith, lit<}
use Rattle.std.specs.Prelude.{◌==◌}
use Rattle.std.specs.List.{All, onto_first, join_with_byte}
use Rattle.std.specs.Str.{IsCharBoundary, IsUtf8, NoCharPasses}
use Rattle.std.specs.Str.Pattern.{RFindsChar, SplitsAroundMatch}
use Rattle.std.proofs.Math.Seq.{drop-append_seam, drop-append-add, drop-length, take-append_seam, get_or-append_seam}
use Rattle.std.proofs.lemmas.Bool.{ne_eqb}
use Rattle.std.proofs.lemmas.List.{append-nil, append_assoc, drop_all, drop-append-le, length-append, length-drop, take-append-drop}
use Rattle.std.proofs.lemmas.List.Elements.{All-from_get_or}
use Rattle.std.proofs.lemmas.List.Splits.{slice_split_none, slice_split-cons_yes, length-slice_split}
use Rattle.std.proofs.lemmas.Str.{IsCharBoundary-end, IsCharBoundary-before_ascii, IsCharBoundary-after_ascii, IsUtf8-take}
use Rattle.std.proofs.lemmas.Str.Pattern.{NoCharPasses-char, drop_at_char}
use Rattle.cookie_words.specs.Strings.{pieces}
use Rattle.cookie_psl.specs.Rules.{last_labels}

-- the string has no dot
abbrev pub LacksDot : List ℕ → Type 0
LacksDot text = All (λ b. (b == 46) ≡ false) text

-- the first piece grows, and the others are unchanged
grown_first : (x : ℕ) (ps qs : List (List ℕ)) (is_cut : Bool) → 0 < length ps
    → cond is_cut ([] ∷ (ps ++ qs)) (onto_first x (ps ++ qs)) ≡ cond is_cut ([] ∷ ps) (onto_first x ps) ++ qs
grown_first x [] qs is_cut h = absurd (omega arith)
grown_first x (p ∷ ps) qs true h = refl
grown_first x (p ∷ ps) qs false h = refl

-- there is at least one piece
has_piece : (text : List ℕ) → 0 < length (pieces 46 text)
has_piece text = omega (arith, length-slice_split (λ b. b == 46) text)

-- a string is split at each of its dots
pieces-cut : (before after : List ℕ) → pieces 46 (before ++ 46 ∷ after) ≡ pieces 46 before ++ pieces 46 after
pieces-cut [] after = slice_split-cons_yes (λ b. b == 46) 46 after refl
pieces-cut (x ∷ before) after =
    ap (λ ps. cond (x == 46) ([] ∷ ps) (onto_first x ps)) (pieces-cut before after)
    ∙ grown_first x (pieces 46 before) (pieces 46 after) (x == 46) (has_piece before)

-- a string without a dot is one piece
pieces-one : (text : List ℕ) → LacksDot text → pieces 46 text ≡ text ∷ []
pieces-one text h = slice_split_none (λ b. b == 46) text h

-- one more label
pieces-more : (before label : List ℕ) → LacksDot label → pieces 46 (before ++ 46 ∷ label) ≡ pieces 46 before ++ label ∷ []
pieces-more before label h = pieces-cut before label ∙ ap (λ ps. pieces 46 before ++ ps) (pieces-one label h)

-- a last label follows a dot
joined_more : (first : List ℕ) (ps : List (List ℕ)) (label : List ℕ)
    → join_with_byte 46 ((first ∷ ps) ++ label ∷ []) ≡ join_with_byte 46 (first ∷ ps) ++ 46 ∷ label
joined_more first [] label = refl
joined_more first (p ∷ ps) label =
    ap (λ more. first ++ (46 ∷ more)) (joined_more p ps label)
    ∙ sym (append_assoc first (46 ∷ join_with_byte 46 (p ∷ ps)) (46 ∷ label))

-- the same for a nonempty list of labels
joined_behind : (ps : List (List ℕ)) (label : List ℕ) → 0 < length ps
    → join_with_byte 46 (ps ++ label ∷ []) ≡ join_with_byte 46 ps ++ 46 ∷ label
joined_behind [] label h = absurd (omega arith)
joined_behind (p ∷ ps) label h = joined_more p ps label

-- the last labels of a list with one more label
lasts_more : (n : ℕ) (ps : List (List ℕ)) (label : List ℕ) → 0 < length ps
    → join_with_byte 46 (drop (length (ps ++ label ∷ []) - (n + 2)) (ps ++ label ∷ []))
    ≡ join_with_byte 46 (drop (length ps - (n + 1)) ps) ++ 46 ∷ label
lasts_more n ps label h =
    let same : length (ps ++ label ∷ []) - (n + 2) ≡ length ps - (n + 1) = omega (arith, length-append ps (label ∷ [])) in
    ap (λ k. join_with_byte 46 (drop k (ps ++ label ∷ []))) same
    ∙ ap (join_with_byte 46) (drop-append-le (length ps - (n + 1)) ps (label ∷ []) (omega arith))
    ∙ joined_behind (drop (length ps - (n + 1)) ps) label (omega (arith, length-drop (length ps - (n + 1)) ps))

-- zero labels
pub last_labels-none : (text : List ℕ) → last_labels 0 text ≡ []
last_labels-none text = ap (join_with_byte 46) (drop_all (length (pieces 46 text) - 0) (pieces 46 text) (omega arith))

-- the last label
pub last_labels-one : (before label : List ℕ) → LacksDot label → last_labels 1 (before ++ 46 ∷ label) ≡ label
last_labels-one before label h =
    let ps = pieces 46 before in
    let same : length (ps ++ label ∷ []) - 1 ≡ length ps = omega (arith, length-append ps (label ∷ [])) in
    ap (λ qs. join_with_byte 46 (drop (length qs - 1) qs)) (pieces-more before label h)
    ∙ ap (λ k. join_with_byte 46 (drop k (ps ++ label ∷ []))) same
    ∙ ap (join_with_byte 46) (drop-append_seam ps (label ∷ []))

-- one label more than the last n + 1
pub last_labels-more : (n : ℕ) (before label : List ℕ) → LacksDot label
    → last_labels (n + 2) (before ++ 46 ∷ label) ≡ last_labels (n + 1) before ++ 46 ∷ label
last_labels-more n before label h =
    ap (λ qs. join_with_byte 46 (drop (length qs - (n + 2)) qs)) (pieces-more before label h)
    ∙ lasts_more n (pieces 46 before) label (has_piece before)

-- all labels of a string without a dot
pub last_labels-all : (n : ℕ) (text : List ℕ) → LacksDot text → last_labels (n + 1) text ≡ text
last_labels-all n text h =
    let none : 1 - (n + 1) ≡ 0 = omega arith in
    ap (λ qs. join_with_byte 46 (drop (length qs - (n + 1)) qs)) (pieces-one text h)
    ∙ ap (λ k. join_with_byte 46 (drop k (text ∷ []))) none

-- a string in which the search finds no dot
LacksDot-searched : (text : List ℕ) → NoCharPasses (λ d. d == 46) text → LacksDot text
LacksDot-searched text h =
    All-from_get_or (λ b. (b == 46) ≡ false) text 0 (λ i l. ne_eqb (get_or text i 0) 46 (NoCharPasses-char 46 text i h (lit< tt) l))

-- what precedes the last dot and what follows it, if there is one
pub rsplit_parts : (text : List ℕ) (parts : Option (Bor (List ℕ) × Bor (List ℕ)))
    → MatchOption parts (RFindsChar 46 text None) (λ p. SplitsAroundMatch (RFindsChar 46) text p.0.now p.1.now)
    → MatchOption parts (LacksDot text) (λ p. (text ≡ p.0.now ++ 46 ∷ p.1.now) × LacksDot p.1.now)
rsplit_parts text None h = LacksDot-searched text h
rsplit_parts text (Some p) h = (
  sym (take-append-drop h.0 text)
      ∙ ap (λ rest. take h.0 text ++ rest) (drop_at_char 46 text h.0 h.1 h.2.1 (lit< tt))
      ∙ ap (λ prefix. prefix ++ 46 ∷ drop h.1 text) (sym h.3)
      ∙ ap (λ back. p.0.now ++ 46 ∷ back) (sym h.4),
  subst LacksDot (sym h.4) (LacksDot-searched (drop h.1 text) h.2.0),
)

-- what precedes a dot in a UTF-8 string is UTF-8
pub before_is_utf8 : (before label : List ℕ) → IsUtf8 (before ++ 46 ∷ label) → IsUtf8 before
before_is_utf8 before label utf8 =
    let dot : get_or (before ++ 46 ∷ label) (length before) 0 ≡ 46 = get_or-append_seam before 46 label 0 in
    let ends = IsCharBoundary-before_ascii (before ++ 46 ∷ label) (length before) (omega (arith, length-append before (46 ∷ label))) (omega arith) in
    subst IsUtf8 (take-append_seam before (46 ∷ label)) (IsUtf8-take (before ++ 46 ∷ label) (length before) utf8 ends)

-- the last `count` labels begin at `start`, and `prefix` precedes them
pub record HasPassed (domain prefix : List ℕ) (count start : ℕ) : Type 0 where
  pub split : domain ≡ prefix ++ drop (length prefix) domain
  pub more : (n : ℕ) → last_labels (count + (n + 1)) domain ≡ last_labels (n + 1) prefix ++ drop (length prefix) domain
  pub labels : drop start domain ≡ last_labels count domain
  pub cut : IsCharBoundary domain start

-- the walk begins at the end of the domain
pub HasPassed-none : (domain : List ℕ) → HasPassed domain domain 0 (length domain)
HasPassed-none domain =
    let none = drop-length domain in
    record {
      split = sym (ap (λ rest. domain ++ rest) none ∙ append-nil domain);
      more = λ n.
          ap (λ k. last_labels k domain) (zero-add (n + 1))
          ∙ sym (append-nil (last_labels (n + 1) domain))
          ∙ ap (λ rest. last_labels (n + 1) domain ++ rest) (sym none);
      labels = none ∙ sym (last_labels-none domain);
      cut = IsCharBoundary-end domain;
    }

-- the walk passes one more label
pub HasPassed-more : (domain prefix before label : List ℕ) (count start : ℕ) → IsUtf8 domain → LacksDot label
    → prefix ≡ before ++ 46 ∷ label → HasPassed domain prefix count start
    → HasPassed domain before (count + 1) (length before + 1)
HasPassed-more domain prefix before label count start utf8 lacks e h =
    let rest = drop (length prefix) domain in
    let whole : domain ≡ before ++ (46 ∷ (label ++ rest)) =
    h.split ∙ ap (λ xs. xs ++ rest) e ∙ append_assoc before (46 ∷ label) rest in
    let behind : drop (length before) domain ≡ 46 ∷ (label ++ rest) =
    ap (drop (length before)) whole ∙ drop-append_seam before (46 ∷ (label ++ rest)) in
    let dot : get_or domain (length before) 0 ≡ 46 =
    ap (λ xs. get_or xs (length before) 0) whole ∙ get_or-append_seam before 46 (label ++ rest) 0 in
    let within : length before < length domain =
    omega (arith, ap length whole, length-append before (46 ∷ (label ++ rest))) in
    record {
      split = whole ∙ ap (λ xs. before ++ xs) (sym behind);
      more = λ n.
          let one_more : count + 1 + (n + 1) ≡ count + ((n + 1) + 1) = omega arith in
          let two : (n + 1) + 1 ≡ n + 2 = omega arith in
          ap (λ k. last_labels k domain) one_more
          ∙ h.more (n + 1)
          ∙ ap (λ k. last_labels k prefix ++ rest) two
          ∙ ap (λ xs. last_labels (n + 2) xs ++ rest) e
          ∙ ap (λ xs. xs ++ rest) (last_labels-more n before label lacks)
          ∙ append_assoc (last_labels (n + 1) before) (46 ∷ label) rest
          ∙ ap (λ xs. last_labels (n + 1) before ++ xs) (sym behind);
      labels =
          ap (drop (length before + 1)) whole
          ∙ drop-append-add before (46 ∷ (label ++ rest)) 1
          ∙ ap (λ xs. xs ++ rest) (sym (last_labels-one before label lacks))
          ∙ ap (λ xs. last_labels 1 xs ++ rest) (sym e)
          ∙ sym (h.more 0);
      cut = IsCharBoundary-after_ascii domain (length before) utf8 within (omega arith);
    }

-- if the front is a single label, more labels than were passed are all
pub HasPassed-all : (domain prefix : List ℕ) (passed count start : ℕ) → LacksDot prefix → passed < count
    → HasPassed domain prefix passed start → domain ≡ last_labels count domain
HasPassed-all domain prefix passed count start lacks less h =
    let n = count - passed - 1 in
    let same : passed + (n + 1) ≡ count = omega arith in
    h.split
    ∙ ap (λ xs. xs ++ drop (length prefix) domain) (sym (last_labels-all n prefix lacks))
    ∙ sym (h.more n)
    ∙ ap (λ k. last_labels k domain) same
