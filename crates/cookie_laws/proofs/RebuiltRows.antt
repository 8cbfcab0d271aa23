-- Storing the rows of a store one after the other gives them in the same order.
use Rattle.std.proofs.Common.{◌≡◌, Bool, true, false, not, ◌&&◌, ◌||◌, List, [], ◌∷◌, ◌++◌, map, refl, sym, ap, ◌∙◌, arith, append_assoc, append-nil}
use Rattle.std.specs.List.{list_any}
use Rattle.std.specs.Cmp.{IsEquivalence}
use Rattle.std.proofs.lemmas.Bool.{and_parts, cond_both, cond-false}
use Rattle.cookie_words.specs.Moments.{Moment}
use Rattle.cookie_parts.specs.Cookie.{Row}
use Rattle.cookie_laws.specs.Rows.{key_of, same_domain_equiv, same_group_equiv, same_key_equiv, has_key, in_domain, in_group, after_last, replaced, placed, put, put_all, built, differ, are_adjacent, are_rows}

-- rows, of which each has a key
module _ {R K : Type 0} (key : R → K) where
  -- a row in the midst passes by its key
  any_at : (p : K → Bool) (xs : List R) (y : R) (ys : List R) → p (key y) ≡ true → list_any p (map key (xs ++ y ∷ ys)) ≡ true
  any_at p [] y ys h = grind arith
  any_at p (x ∷ xs) y ys h = grind (arith, any_at p xs y ys h)

  -- if keys differ, no row has the key of a later one
  none_before : {alike : K → K → Bool} → IsEquivalence alike → (xs : List R) (y : R) (ys : List R)
      → differ alike (map key (xs ++ y ∷ ys)) ≡ true → list_any (λ x. alike (key y) (key x)) xs ≡ false
  none_before laws [] y ys h = refl
  none_before {alike = alike} laws (x ∷ xs) y ys h =
      grind (arith, laws.symm (key x) (key y), any_at (alike (key x)) xs y ys, none_before laws xs y ys)

  -- if rows with alike keys are adjacent, and a later row is like x, no row before it is the last like x
  not_last : {alike : K → K → Bool} → IsEquivalence alike → (x z : R) (zs : List R) (y : R) (ys : List R)
      → are_adjacent alike (map key (x ∷ z ∷ zs ++ y ∷ ys)) ≡ true
      → (alike (key y) (key x) && not (list_any (λ r. alike (key y) (key r)) (z ∷ zs))) ≡ false
  not_last {alike = alike} laws x z zs y ys h =
      let followed : (alike (key x) (key z) || not (list_any (alike (key x)) (map key (zs ++ y ∷ ys)))) ≡ true = (and_parts _ _ h).0 in
      grind (arith, followed, laws.symm (key y) (key x), laws.congr (key x) (key y) (key z), any_at (alike (key x)) zs y ys)

  -- so the place after the last such row before a row is its own
  last_before : {alike : K → K → Bool} → IsEquivalence alike → (xs : List R) (y : R) (ys : List R)
      → are_adjacent alike (map key (xs ++ y ∷ ys)) ≡ true → after_last (λ x. alike (key y) (key x)) xs y ≡ xs ++ y ∷ []
  last_before laws [] y ys h = refl
  last_before laws (x ∷ []) y ys h = grind arith
  last_before {alike = alike} laws (x ∷ z ∷ zs) y ys h =
      let like = λ (r : R). alike (key y) (key r) in
      cond-false (like x && not (list_any like (z ∷ zs))) (x ∷ y ∷ z ∷ zs) (x ∷ after_last like (z ∷ zs) y) (not_last laws x z zs y ys h)
      ∙ ap (λ rows. x ∷ rows) (last_before laws (z ∷ zs) y ys (and_parts _ _ h).1)

-- a row that comes next in the order is put behind those before it
put-next : (before : List Row) (row : Row) (after : List Row) → are_rows (before ++ row ∷ after) ≡ true → put before row ≡ before ++ row ∷ []
put-next before row after h =
    let parts = and_parts _ _ h in
    let order = and_parts _ _ parts.1 in
    let key = key_of row in
    let new = none_before key_of same_key_equiv before row after parts.0 in
    cond-false _ (replaced (has_key key) before row) (placed before row) new
    ∙ cond_both (list_any (in_group key) before) (after_last (in_group key) before row) (after_last (in_domain key) before row)
    (λ rows. rows ≡ before ++ row ∷ [])
    (λ some. last_before key_of same_group_equiv before row after order.1)
    (λ none. last_before key_of same_domain_equiv before row after order.0)

-- so are all that come next
put_all-next : (before after : List Row) → are_rows (before ++ after) ≡ true → put_all before after ≡ before ++ after
put_all-next before [] h = sym (append-nil before)
put_all-next before (row ∷ after) h =
    let one = append_assoc before (row ∷ []) after in
    ap (λ rows. put_all rows after) (put-next before row after h)
    ∙ put_all-next (before ++ row ∷ []) after (rw one h)
    ∙ one

-- rows are built from themselves
pub rebuilt : (rows : List Row) (now : Moment) → are_rows rows ≡ true → (built true now rows).rows ≡ rows
rebuilt rows now h = put_all-next [] rows h
