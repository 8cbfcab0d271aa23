-- The rowid of a key.
use Rattle.std.proofs.Common.{◌≡◌, ℤ, pos, ◌+ℤ◌, true, ◌||◌, [], ◌∷◌, Option, Some, None, ⊎_elim, sym, ap, subst, ◌∙◌, true≢false}
use Rattle.std.specs.Prelude.{is_some, option_map, unwrap_or}
use Rattle.std.specs.Map.{KeepsOthers, values_of}
use Rattle.std.proofs.lemmas.Bool.{cases_Bool, cond-true, cond-false}
use Rattle.sqlite_value.specs.Order.{Row as TableRow}
use Rattle.sqlite_value.specs.declared.value.Value.TheVariants.{Int}
use Rattle.sqlite_trees.specs.Tree.{has_rowid, rowid}
use Rattle.cookie_laws.specs.Rows.{Key, same_key, same_key-true, same_key_equiv}
use Rattle.cookie_durable.specs.Numbering.{GivesId, Ids, Names, SetsId, id_of, key_in}
use Rattle.cookie_durable.proofs.RowEdits.{has_one, has_own, or_right}

pub some_same : {T : Type 0} (a b : T) → Some a ≡ Some b → a ≡ b
some_same a b e = ap (λ o. unwrap_or o a) e

pub none_some : {T : Type 0} (a : T) → None ≡ Some a → ⊥
none_some a e = true≢false (sym (ap is_some e))

-- the map of the rowids has another value for these names, or none any more
pub sets_id : (names : Names) (id : Option ℤ) (ids new_ids : Ids) → id_of (key_in names) new_ids ≡ id
    → KeepsOthers (λ (a b : Names). same_key (key_in a) (key_in b)) (λ (other : Names). same_key (key_in names) (key_in other)) ids new_ids
    → SetsId (key_in names) id ids new_ids
unfolding KeepsOthers
sets_id names id ids new_ids own keeps = (
  own,
  λ other away.
      keeps (λ (n : Names). same_key other (key_in n))
      (λ x y here. ap (λ (k : Key). same_key k (key_in y)) (same_key-true other (key_in x) here))
      (λ n here. sym (ap (same_key other) (same_key-true (key_in names) (key_in n) here)) ∙ same_key_equiv.symm other (key_in names) ∙ away),
)

-- a new key takes the next one
pub gives_next : (own : Option ℤ) (next id new_next : ℤ) → own ≡ None → id ≡ next → new_next ≡ next +ℤ pos 1 → GivesId own next id new_next
gives_next own next id new_next new is counted = subst (λ (o : Option ℤ). GivesId o next id new_next) (sym new) (is, counted)

-- the rowid that a row has
pub own_rowid : (own : Option ℤ) (id : ℤ) (row : TableRow) → own ≡ Some id → option_map Int own ≡ Some (rowid row) → rowid row ≡ Int id
own_rowid own id row found is = sym (some_same (Int id) (rowid row) (ap (option_map Int) (sym found) ∙ is))

-- the rowid of a key is one of all rowids
pub among_values : (key : Key) (ids : Ids) (row : TableRow) → option_map Int (id_of key ids) ≡ Some (rowid row)
    → has_one (values_of ids) row ≡ true
among_values key [] row is = absurd (none_some (rowid row) is)
among_values key (e ∷ ids) row is =
    let same = same_key key (key_in e.0) in
    let rest = has_one (values_of ids) row in
    ⊎_elim
    (λ here.
    let own : rowid row ≡ Int e.1 = own_rowid (id_of key (e ∷ ids)) e.1 row (cond-true same (Some e.1) (id_of key ids) here) is in
    ap (λ b. b || rest) (has_own e.1 row own))
    (λ away.
    or_right (has_rowid e.1 row) rest
    (among_values key ids row (sym (ap (option_map Int) (cond-false same (Some e.1) (id_of key ids) away)) ∙ is)))
    (cases_Bool same)
