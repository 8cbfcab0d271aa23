-- Parsing the labels of a rule one by one.
use Rattle.std.proofs.Common.{◌≡◌, ℕ, ◌<◌, zero, suc, List, [], ◌∷◌, ◌++◌, length, get_or, Option, Some, None, Err, refl, ap, sym, ◌∙◌, arith}
use Rattle.cookie_words.specs.Steps.{◌>>=◌}
use Rattle.cookie_psl.specs.ParsedRules.{ParsesOrMemory}
use Rattle.cookie_psl.specs.ListFormat.{label_from, labels_from}
use Rattle.cookie_psl.specs.declared.reading.LineError.{LineError}
use Rattle.cookie_psl.specs.declared.reading.LineError.TheVariants.{Bad, Memory}

-- one more parsed label after the others
abbrev and_label : Option (List (Option (List ℕ))) → Option (Option (List ℕ)) → Option (List (Option (List ℕ)))
and_label before own = do
  labels ← before
  label ← own
  Some (labels ++ label ∷ [])

-- the first label
first_label : (own : Option (Option (List ℕ))) → (own >>= λ label. Some (label ∷ [])) ≡ and_label (Some []) own
first_label None = refl
first_label (Some label) = refl

-- a label before and one after the others, in either order
between : (first : Option (Option (List ℕ))) (labels : Option (List (Option (List ℕ)))) (own : Option (Option (List ℕ)))
    → (first >>= λ label. and_label labels own >>= λ others. Some (label ∷ others))
    ≡ and_label (first >>= λ label. labels >>= λ others. Some (label ∷ others)) own
between None labels own = refl
between (Some label) None own = refl
between (Some label) (Some others) None = refl
between (Some label) (Some others) (Some own) = refl

-- the labels of one more string
labels_from-append : (texts : List (List ℕ)) (text : List ℕ) → labels_from (texts ++ text ∷ []) ≡ and_label (labels_from texts) (label_from text)
labels_from-append [] text = first_label (label_from text)
labels_from-append (first ∷ texts) text =
    rw (labels_from-append texts text) (between (label_from first) (labels_from texts) (label_from text))

-- one more label after those parsed
pub labels_from-push : (texts : List (List ℕ)) (text : List ℕ) (labels : List (Option (List ℕ))) (label : Option (List ℕ))
    → labels_from texts ≡ Some labels → label_from text ≡ Some label → labels_from (texts ++ text ∷ []) ≡ Some (labels ++ label ∷ [])
labels_from-push texts text labels label before own = labels_from-append texts text ∙ rw (before, own)

-- malformed labels
abbrev none : Option (List (Option (List ℕ)))
none = None

-- malformed labels stay malformed after one more
before_bad : (first : Option (Option (List ℕ))) → (first >>= λ label. none >>= λ others. Some (label ∷ others)) ≡ None
before_bad None = refl
before_bad (Some label) = refl

-- a malformed label makes all labels malformed
pub labels_from-bad : (texts : List (List ℕ)) (k : ℕ) (text : List ℕ) → k < length texts → text ≡ get_or texts k text
    → label_from text ≡ None → labels_from texts ≡ None
labels_from-bad [] k text within at bad = absurd (omega arith)
labels_from-bad (first ∷ texts) zero text within at bad = rw (ap label_from (sym at) ∙ bad)
labels_from-bad (first ∷ texts) (suc k) text within at bad =
    let later : labels_from texts ≡ None = labels_from-bad texts k text (omega arith) at bad in
    rw later (before_bad (label_from first))

-- what makes a part malformed makes the whole malformed
pub ParsesOrMemory-err : {T U V W : Type 0} (part_view : T → U) (view : V → W) (fault : LineError) (part : Option U) (whole : Option W)
    → ParsesOrMemory part_view (Err fault) part → (part ≡ None → whole ≡ None) → ParsesOrMemory view (Err fault) whole
ParsesOrMemory-err part_view view Bad part whole given bad = bad given
ParsesOrMemory-err part_view view Memory part whole given bad = tt
