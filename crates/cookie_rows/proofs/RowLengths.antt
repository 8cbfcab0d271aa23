-- How many rows there are after a change.
use Rattle.std.proofs.Common.{◌≡◌, ℕ, ◌+◌, ◌<◌, ◌≤◌, Bool, eqb, true, false, List, [], ◌∷◌, find, length, map, refl, sym, ◌∙◌, ap, subst, inl, inr, None, Option, Some, arith, length-append}
use Rattle.std.specs.Prelude.{◌≢◌, is_some, nat_eq, String}
use Rattle.std.specs.List.{AllByRecursion, list_any}
use Rattle.std.specs.Map.{values_of}
use Rattle.std.proofs.lemmas.Bool.{cases_Bool, or_cases}
use Rattle.std.proofs.lemmas.Bool.Decides.{nat_tests}
use Rattle.std.proofs.lemmas.List.{length-map}
use Rattle.std.proofs.lemmas.Map.Steps.{length-le_from_distinct_below}
use Rattle.ordered_map.specs.Entries.{in_order}
use Rattle.cookie_parts.specs.Cookie.{Row, expired_row}
use Rattle.cookie_laws.specs.Rows.{Key, after_last, changed, has_key, in_domain, in_group, key_of, placed, put, removed, row_of}
use Rattle.cookie_lookup.specs.Groups.{flat, flat_paths}
use Rattle.cookie_lookup.specs.Positions.{paths_in_order}
use Rattle.cookie_rows.specs.GroupChanges.{texts_by}
use Rattle.cookie_rows.specs.Items.{AreItems, Item, ItemGroups, ItemPaths, bare, bare_paths, expire_items, find_items, joined, numbered, put_items, remove_items, rows_of}
use Rattle.cookie_rows.specs.Least.{items_in_groups, items_in_paths}
use Rattle.cookie_rows.specs.Stored.{StoredPaths, all_stored}
use Rattle.cookie_rows.proofs.AfterLast.{none_passes}
use Rattle.cookie_rows.proofs.AreItems.{found_items, kept_expired, kept_put, kept_removed}
use Rattle.cookie_rows.proofs.Joined.{joined_is}
use Rattle.cookie_rows.proofs.Keyed.{keys_groups}
use Rattle.cookie_rows.proofs.Ordered.{distinct_from_differ}

-- items that pass a test

module _ {T : Type 0} (test : T → Bool) where
  -- if one is found, one passes
  some_passes : (xs : List T) → find test xs ≢ None → list_any test xs ≡ true
  some_passes [] some = absurd (some refl)
  some_passes (x ∷ xs) some = elim (cases_Bool (test x)) [
    | inl e ↦ rw e refl
    | inr e ↦ rw e (some_passes xs (rw e at some))
  ]

  -- an item more after the last that passes
  length-after_last : (xs : List T) (y : T) → length (after_last test xs y) ≡ length xs + 1
  length-after_last [] y = refl
  length-after_last (x ∷ xs) y = grind (arith, length-after_last xs y)

  -- one that is changed
  length-changed : (change : T → T) (xs : List T) → length (changed test change xs) ≡ length xs
  length-changed change [] = refl
  length-changed change (x ∷ xs) = grind (arith, length-changed change xs)

  -- one that is removed
  length-removed : (xs : List T) → list_any test xs ≡ true → length (removed test xs) + 1 ≡ length xs
  length-removed [] some = absurd (cc)
  length-removed (x ∷ xs) some = grind (arith, length-removed xs)

  -- none that is removed
  length-unremoved : (xs : List T) → list_any test xs ≡ false → length (removed test xs) ≡ length xs
  length-unremoved [] none = refl
  length-unremoved (x ∷ xs) none = grind (arith, length-unremoved xs)

-- an option

-- that is not some
pub none_unless : {A : Type 0} (o : Option A) → is_some o ≡ false → o ≡ None
none_unless None none = refl
none_unless (Some x) none = absurd (cc)

-- rows

-- a new row is one more
length-placed : (rows : List Row) (row : Row) → length (placed rows row) ≡ length rows + 1
length-placed rows row = elim (cases_Bool (list_any (in_group (key_of row)) rows)) [
  | inl e ↦ rw e (length-after_last (in_group (key_of row)) rows row)
  | inr e ↦ rw e (length-after_last (in_domain (key_of row)) rows row)
]

-- so if there is none of its key
length-new : (rows : List Row) (row : Row) → row_of (key_of row) rows ≡ None → length (put rows row) ≡ length rows + 1
length-new rows row none = rw (none_passes (has_key (key_of row)) rows none) (length-placed rows row)

-- a row that replaces another is not
length-stored : (rows : List Row) (row : Row) → row_of (key_of row) rows ≢ None → length (put rows row) ≡ length rows
length-stored rows row some = rw (some_passes (has_key (key_of row)) rows some) (length-changed (has_key (key_of row)) (λ _. row) rows)

-- rows in groups

-- there are no more rows than numbers
pub few_rows : (n : ℕ) (gs : ItemGroups) → AreItems n gs → length (flat (bare gs)) ≤ n
few_rows n gs a =
    let numbers : List ℕ = map (λ x. x.1) (numbered gs) in
    let same : length (flat (bare gs)) ≡ length numbers =
    sym (length-map (flat (bare gs)) key_of) ∙ ap length (keys_groups gs a.0.1) ∙ length-map (numbered gs) (λ x. x.0) ∙ sym (length-map (numbered gs) (λ x. x.1)) in
    subst (λ k. k ≤ n) (sym same) (length-le_from_distinct_below numbers n (distinct_from_differ nat_eq numbers a.3) (below_each (numbered gs) a.2))
  where
    -- each number is below
    below_each : (xs : List (Key × ℕ)) → AllByRecursion (λ x. x.1 < n) xs → (q : ℕ) → list_any (eqb q) (map (λ x. x.1) xs) ≡ true → q < n
    below_each [] b q is = absurd (cc)
    below_each (x ∷ xs) b q is = elim (or_cases (eqb q x.1) _ is) [
      | inl e ↦ let same : q ≡ x.1 = grind (arith, nat_tests, e) in subst (λ k. k < n) (sym same) b.0
      | inr e ↦ below_each xs b.1 q e
    ]

-- the number of rows
abbrev pub row_count : ItemGroups → ℕ
row_count gs = length (flat (bare gs))

module _ (n : ℕ) (gs : ItemGroups) (a : AreItems n gs) where
  module _ (row : Row) where
    -- after a row is stored
    count_put : row_count (put_items row n gs) ≡ length (put (flat (bare gs)) row)
    count_put = ap (λ k. length k.rows) (kept_put n gs a row)

    -- a new one
    pub count_new : find_items (key_of row) gs ≡ None → row_count (put_items row n gs) ≡ row_count gs + 1
    count_new none = count_put ∙ length-new (flat (bare gs)) row (sym (found_items n gs a (key_of row)) ∙ none)

    -- one that replaces another
    pub count_stored : find_items (key_of row) gs ≢ None → row_count (put_items row n gs) ≡ row_count gs
    count_stored some = count_put ∙ length-stored (flat (bare gs)) row (λ none. some (found_items n gs a (key_of row) ∙ none))

  module _ (key : Key) where
    -- after a row is expired
    pub count_expired : row_count (expire_items key gs) ≡ row_count gs
    count_expired = ap (λ k. length k.rows) (kept_expired n gs a key) ∙ length-changed (has_key key) expired_row (flat (bare gs))

    -- after one is removed
    pub count_removed : find_items key gs ≢ None → row_count (remove_items key gs) + 1 ≡ row_count gs
    count_removed some =
        let there = some_passes (has_key key) (flat (bare gs)) (λ none. some (found_items n gs a key ∙ none)) in
        ap (λ k. length k.rows + 1) (kept_removed n gs a key) ∙ length-removed (has_key key) (flat (bare gs)) there

    -- after none is
    pub count_unremoved : find_items key gs ≡ None → row_count (remove_items key gs) ≡ row_count gs
    count_unremoved none =
        let absent = none_passes (has_key key) (flat (bare gs)) (sym (found_items n gs a key) ∙ none) in
        ap (λ k. length k.rows) (kept_removed n gs a key) ∙ length-unremoved (has_key key) (flat (bare gs)) absent

-- the rows of the groups of all domains
pub count_all : {A : Type 0} (domains : List StoredPaths) (es : List (String A × StoredPaths)) → domains ≡ values_of es
    → length (joined (map in_order (all_stored domains))) ≡ row_count (texts_by paths_in_order es)
count_all domains es are =
    ap (λ ds. length (joined (map in_order (all_stored ds)))) are ∙ sym (length-map (joined (map in_order (all_stored (values_of es)))) (λ (x : Item). x.row)) ∙ ap length (joined_is es)

-- of a domain
pub count_paths : (ps : ItemPaths) → length (items_in_paths ps) ≡ length (flat_paths (bare_paths ps))
count_paths [] = refl
count_paths (p ∷ ps) =
    omega (arith, length-append p.1 (items_in_paths ps), length-append (rows_of p.1) (flat_paths (bare_paths ps)), length-map p.1 (λ (x : Item). x.row), count_paths ps)

-- of groups
pub count_items : (gs : ItemGroups) → length (items_in_groups gs) ≡ row_count gs
count_items [] = refl
count_items (g ∷ gs) =
    omega (arith, length-append (items_in_paths g.1) (items_in_groups gs), length-append (flat_paths (bare_paths g.1)) (flat (bare gs)), count_paths g.1, count_items gs)
