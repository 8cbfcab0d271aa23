-- The labels of a domain without its trailing dot fit into a usize.
use Rattle.std.proofs.Common.{◌≡◌, ℕ, suc, inl, inr, ◌+◌, ◌-◌, ◌^◌, ◌<◌, ◌≤◌, ◌==◌, ◌&&◌, nat_eq, List, [], ◌∷◌, length, get_or, take, refl, ap, ◌∙◌, true, false, Bool, cond, codes, arith, length-take, drop-cons}
use Rattle.std.specs.Cmp.Lexicographic.{pointwise}
use Rattle.std.specs.List.{count_by, ends_with, slice_split}
use Rattle.std.proofs.lemmas.Bool.{cases_eq, ne_eqb}
use Rattle.std.proofs.lemmas.List.{drop_all, length-reverse, take_all}
use Rattle.std.proofs.lemmas.List.Splits.{length-slice_split}
use Rattle.std.proofs.lemmas.List.Sums.{count_by-le-length, count_by_more_no}
use Rattle.cookie_psl.specs.Rules.{labels_of, without_final_dot}
use Rattle.cookie_psl.proofs.LabelsCut.{labels-le}

-- whether a string ends with a dot, by its last byte
last_test : (text : List ℕ) → 0 < length text → ends_with nat_eq text (codes ".") ≡ ((46 == get_or text (length text - 1) 0) && true)
last_test text some =
    ap (pointwise nat_eq (46 ∷ []))
    (drop-cons text (length text - 1) 0 (omega arith) ∙ ap (λ rest. get_or text (length text - 1) 0 ∷ rest) (drop_all (suc (length text - 1)) text (omega arith)))

-- a string that does not end with a dot has fewer dots than bytes
fewer_dots : (text : List ℕ) → 0 < length text → ends_with nat_eq text (codes ".") ≡ false → count_by (λ b. b == 46) text < length text
fewer_dots text some other =
    let last : (get_or text (length text - 1) 0 == 46) ≡ false =
    ne_eqb (get_or text (length text - 1) 0) 46 (λ same. let is = last_test text some ∙ ap (λ b. (46 == b) && true) same in cc) in
    let more = count_by_more_no (λ b. b == 46) text (length text - 1) 0 (omega arith) last in
    let whole : take (length text - 1 + 1) text ≡ text = take_all (length text - 1 + 1) text (omega arith) in
    omega (arith, ap (count_by (λ b. b == 46)) whole, more, count_by-le-length (λ b. b == 46) (take (length text - 1) text), length-take (length text - 1) text)

-- a nonempty string that does not end with a dot has at most as many labels as bytes
labels-few : (text : List ℕ) → 0 < length text → ends_with nat_eq text (codes ".") ≡ false → length (labels_of text) ≤ length text
labels-few text some other = omega (arith, length-reverse (slice_split (λ b. b == 46) text), length-slice_split (λ b. b == 46) text, fewer_dots text some other)

-- the same, whether or not there is a trailing dot
labels_fit : (has_dot : Bool) (domain : List ℕ) → ends_with nat_eq domain (codes ".") ≡ has_dot → length domain < 2 ^ 64 →
    length (labels_of (cond has_dot (take (length domain - 1) domain) domain)) < 2 ^ 64
labels_fit true domain is fits = omega (arith, labels-le (take (length domain - 1) domain), length-take (length domain - 1) domain)
labels_fit false domain is fits =
    elim (cases_eq (length domain) 0) [
      | inl none ↦ omega (arith, labels-le domain)
      | inr some ↦ omega (arith, labels-few domain (omega arith) is)
    ]

-- the number of labels of a domain without its trailing dot is less than 2^64
pub bare_labels_fit : (domain : List ℕ) → length domain < 2 ^ 64 → length (labels_of (without_final_dot domain)) < 2 ^ 64
bare_labels_fit domain fits = labels_fit (ends_with nat_eq domain (codes ".")) domain refl fits
