-- The candidate paths: they differ, and how many there are.
use Rattle.std.proofs.Common.{◌≡◌, ℕ, zero, suc, ◌+◌, ◌*◌, ◌<◌, ◌≤◌, Bool, true, false, ◌||◌, List, [], ◌∷◌, ◌++◌, length, take, get_or, refl, sym, ◌∙◌, ap, subst, inl, inr, eqb, bytes_eq, arith, cond, length-append, append-nil}
use Rattle.std.specs.Prelude.{if◌then◌else◌}
use Rattle.std.specs.List.{list_any, starts_with}
use Rattle.std.proofs.Math.Seq.{take-length}
use Rattle.std.proofs.lemmas.Bool.Decides.{nat_tests}
use Rattle.std.proofs.lemmas.Slice.Eq.{bytes_eq-Decides}
use Rattle.std.proofs.lemmas.List.Sums.{count_by_more_yes, count_by_more_no}
use Rattle.std.proofs.lemmas.List.{get_or_past}
use Rattle.cookie_laws.specs.Rows.{differ}
use Rattle.cookie_lookup.specs.Candidates.{ends_candidate, front_texts, candidate_paths, slashes}
use Rattle.cookie_lookup.proofs.CandidateCuts.{bool_cases}
use Rattle.cookie_lookup.proofs.CandidateDomains.{longer}

pub any_append : {X : Type 0} (p : X → Bool) (xs ys : List X) → list_any p (xs ++ ys) ≡ (list_any p xs || list_any p ys)
any_append p [] ys = refl
any_append p (x ∷ xs) ys = grind (arith, nat_tests, any_append p xs ys)

pub differ_push : (xs : List (List ℕ)) (y : List ℕ) → differ bytes_eq xs ≡ true → list_any (bytes_eq y) xs ≡ false → differ bytes_eq (xs ++ y ∷ []) ≡ true
differ_push [] y h k = refl
differ_push (x ∷ xs) y h k =
    let flip : bytes_eq x y ≡ bytes_eq y x = grind (arith, nat_tests, bytes_eq-Decides x y, bytes_eq-Decides y x) in
    grind (arith, nat_tests, h, k, flip, differ_push xs y, any_append (bytes_eq x) xs (y ∷ []))

length_take_le : (n : ℕ) (bs : List ℕ) → length (take n bs) ≤ n
length_take_le zero bs = omega arith
length_take_le (suc n) [] = omega arith
length_take_le (suc n) (b ∷ bs) = omega (arith, length_take_le n bs)

length_take_is : (n : ℕ) (bs : List ℕ) → n ≤ length bs → length (take n bs) ≡ n
length_take_is zero bs h = refl
length_take_is (suc n) [] h = absurd (omega arith)
length_take_is (suc n) (b ∷ bs) h = omega (arith, length_take_is n bs (omega arith))

fronts_short : (r t : List ℕ) (m : ℕ) → m < length t → list_any (bytes_eq t) (front_texts r m) ≡ false
fronts_short r t zero h = refl
fronts_short r t (suc m) h = elim (bool_cases (ends_candidate r m)) [
  | inl e ↦ rw (e, any_append (bytes_eq t) (front_texts r m) (take (suc m) r ∷ [])) (grind (arith, nat_tests, fronts_short r t m (omega arith), longer (take (suc m) r) t (omega (arith, length_take_le (suc m) r))))
  | inr e ↦ rw (e, any_append (bytes_eq t) (front_texts r m) []) (grind (arith, nat_tests, fronts_short r t m (omega arith)))
]

fronts_differ : (r : List ℕ) (m : ℕ) → m ≤ length r → differ bytes_eq (front_texts r m) ≡ true
fronts_differ r zero h = refl
fronts_differ r (suc m) h = elim (bool_cases (ends_candidate r m)) [
  | inl e ↦ rw e (differ_push (front_texts r m) (take (suc m) r) (fronts_differ r m (omega arith)) (fronts_short r (take (suc m) r) m (omega (arith, length_take_is (suc m) r h))))
  | inr e ↦ rw e (subst (λ ts. differ bytes_eq ts ≡ true) (sym (append-nil (front_texts r m))) (fronts_differ r m (omega arith)))
]

pub path_differ : (r : List ℕ) → differ bytes_eq (candidate_paths r) ≡ true
path_differ r = elim (bool_cases (starts_with eqb r (47 ∷ []))) [
  | inl e ↦ rw e (fronts_differ r (length r) (omega arith))
  | inr e ↦ rw e refl
]

-- how many there are
slash_at : List ℕ → ℕ → ℕ
slash_at r i = cond (eqb (get_or r i 0) 47) 1 0

end_at : List ℕ → ℕ → ℕ
end_at r i = cond (eqb i (length r)) 1 0

slashes_to : List ℕ → ℕ → ℕ
slashes_to r zero = 0
slashes_to r (suc i) = slashes_to r i + slash_at r i

at_most : (a b c : Bool) (n : List (List ℕ)) (t : List ℕ) → length (n ++ (if (a || b || c) then t ∷ [] else [])) ≤ length n + cond a 1 0 + cond b 1 0 + cond c 1 0
at_most true b c n t = omega (arith, length-append n (t ∷ []))
at_most false true c n t = omega (arith, length-append n (t ∷ []))
at_most false false true n t = omega (arith, length-append n (t ∷ []))
at_most false false false n t = omega (arith, length-append {A = List ℕ} n [])

fronts_count : (r : List ℕ) (m : ℕ) → m ≤ length r → length (front_texts r m) ≤ slashes_to r m + slashes_to r (suc m) + end_at r m
unfolding slashes_to slash_at end_at
fronts_count r zero h = omega arith
fronts_count r (suc m) h =
    let before : eqb m (length r) ≡ false = grind (arith, nat_tests, h) in
    let last = fronts_count r m (omega arith) in
    let most = at_most (eqb (m + 1) (length r)) (eqb (get_or r m 0) 47) (eqb (get_or r (m + 1) 0) 47) (front_texts r m) (take (suc m) r) in
    let step : m + 1 ≡ suc m = omega arith in
    let last' = rw before at last in
    let here : end_at r (m + 1) ≡ end_at r (suc m) = ap (end_at r) step in
    let next : slash_at r (m + 1) ≡ slash_at r (suc m) = ap (slash_at r) step in
    omega (arith, most, last', here, next)

slashes_is : (r : List ℕ) (m : ℕ) → m ≤ length r → slashes_to r m ≡ slashes (take m r)
unfolding slashes_to slash_at
slashes_is r zero h = refl
slashes_is r (suc m) h =
    let step : m + 1 ≡ suc m = omega arith in
    elim (bool_cases (eqb (get_or r m 0) 47)) [
      | inl e ↦ rw (e, ← step, count_by_more_yes (λ b. eqb b 47) r m 0 (omega arith) e, slashes_is r m (omega arith)) refl
      | inr e ↦ rw (e, ← step, count_by_more_no (λ b. eqb b 47) r m 0 (omega arith) e, slashes_is r m (omega arith)) (omega arith)
    ]

none_past : (r : List ℕ) → slashes_to r (suc (length r)) ≡ slashes_to r (length r)
unfolding slashes_to slash_at
none_past r = rw (get_or_past r (length r) 0 (omega arith)) (omega arith)

pub length_paths : (r : List ℕ) → length (candidate_paths r) ≤ 1 + 2 * slashes r
unfolding end_at
length_paths r = elim (bool_cases (starts_with eqb r (47 ∷ []))) [
  | inl e ↦ rw e (
      let all = fronts_count r (length r) (omega arith) in
      let same : slashes_to r (length r) ≡ slashes r = slashes_is r (length r) (omega arith) ∙ ap slashes (take-length r) in
      let past = none_past r in
      let one : cond (eqb (length r) (length r)) 1 0 ≤ 1 = grind (arith, nat_tests) in
      omega (arith, all, same, past, one))
  | inr e ↦ rw e (omega arith)
]
