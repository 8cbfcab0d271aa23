-- The keys in creation order, as rows are stored, expired and removed.
use Rattle.std.proofs.Common.{◌≡◌, ℕ, suc, ◌<◌, ◌⊎◌, Bool, true, false, List, [], ◌∷◌, length, map, refl, sym, ◌∙◌, ap, subst, inl, inr, bytes_eq, arith, IsPermutation}
use Rattle.std.specs.Prelude.{◌≢◌, nat_eq, None}
use Rattle.std.specs.List.{AllByRecursion, list_any}
use Rattle.std.proofs.lemmas.Bool.{cases_Bool, cond_both}
use Rattle.std.proofs.lemmas.List.{map-append}
use Rattle.std.proofs.lemmas.List.Sorted.{IsPermutation-map}
use Rattle.std.proofs.lemmas.Simd.{map-map}
use Rattle.cookie_parts.specs.Cookie.{Row}
use Rattle.cookie_laws.specs.Contents.{HasCreationOrder, contents_of}
use Rattle.cookie_laws.specs.Rows.{Key, add_created, after_last, differ, has_key, key_of, row_of, same_key, same_key_equiv}
use Rattle.cookie_lookup.specs.Groups.{flat, ArePaths, AreGroups}
use Rattle.cookie_rows.specs.Items.{AreItems, Below, Item, ItemGroups, ItemPaths, NumbersDiffer, bare, bare_paths, by_number, creation_order, expire_items, groups_in_order, numbered, put_items, rows_of}
use Rattle.cookie_rows.proofs.AfterLast.{list_any-map, map-changed}
use Rattle.cookie_rows.proofs.All.{all_from_map, all_map}
use Rattle.cookie_rows.proofs.ByNumber.{Gains, all_gained, differ_gained, gains_after_last, gains_map, ordered_gained}
use Rattle.cookie_rows.proofs.FilteredGroups.{ItemsOf, items_of, some_paths}
use Rattle.cookie_rows.proofs.Flat.{find_none}
use Rattle.cookie_rows.proofs.Keyed.{Keyed, PathsDiffer, TextsDiffer, keyed, keys_differ, keys_groups, numbers_keyed}
use Rattle.cookie_rows.proofs.KeyedChanges.{expired, expired_keyed, keyed_put, new, of_domain, of_group, of_key, put_keyed, stored}
use Rattle.cookie_rows.proofs.Ordered.{any_ordered, differ_moved, ordered_moved}

-- the names of groups of rows differ, and no group is empty

pub texts_differ : (gs : ItemGroups) → AreGroups (bare gs) → TextsDiffer gs
texts_differ gs a = (
  ap (differ bytes_eq) (sym (map-map (λ g. g.0) (λ (g : List ℕ × ItemPaths). (g.0, bare_paths g.1)) gs)) ∙ a.0,
  all_map (λ (g : List ℕ × ItemPaths). (0 < length (bare_paths g.1)) × ArePaths g.0 (bare_paths g.1)) (λ g. PathsDiffer g.1)
      (λ g of. ap (differ bytes_eq) (sym (map-map (λ (p : List ℕ × List Row). p.0) (λ (p : List ℕ × List Item). (p.0, rows_of p.1)) g.1)) ∙ of.1.0) gs
      (all_from_map (λ (g : List ℕ × ItemPaths). (g.0, bare_paths g.1)) (λ g. (0 < length g.1) × ArePaths g.0 g.1) gs a.1),
)

pub all_filled : (gs : ItemGroups) → AreGroups (bare gs) → AllByRecursion (λ g. (0 < length g.1) × AllByRecursion (λ p. 0 < length p.1) g.1) gs
all_filled gs a =
    all_map (λ (g : List ℕ × ItemPaths). (0 < length (bare_paths g.1)) × ArePaths g.0 (bare_paths g.1)) (λ g. (0 < length g.1) × AllByRecursion (λ p. 0 < length p.1) g.1)
    (λ g of. (some_paths g.1 of.0, all_map (ItemsOf g.0) (λ p. 0 < length p.1) (λ p is. is.0) g.1 (items_of g.0 g.1 of.1.1))) gs
    (all_from_map (λ (g : List ℕ × ItemPaths). (g.0, bare_paths g.1)) (λ g. (0 < length g.1) × ArePaths g.0 g.1) gs a.1)

-- a row is stored

-- a numbered key is this one
abbrev is_key : Key → Key × ℕ → Bool
is_key key x = same_key key x.0

module _ (row : Row) (n : ℕ) (gs : ItemGroups) (a : AreGroups (bare gs)) where
  -- a known key keeps its number, a new one has this
  puts : ((list_any (is_key (key_of row)) (numbered gs) ≡ true) × (numbered (put_items row n gs) ≡ numbered gs))
      ⊎ ((list_any (is_key (key_of row)) (numbered gs) ≡ false) × Gains (key_of row, n) (numbered gs) (numbered (put_items row n gs)))
  puts =
      let xs = keyed gs in
      let number : Keyed → Key × ℕ = λ e. (e.0, e.1.number) in
      let after = numbers_keyed (put_items row n gs) ∙ ap (map number) (keyed_put row n gs (texts_differ gs a) (all_filled gs a)) in
      let any : list_any (is_key (key_of row)) (numbered gs) ≡ list_any (of_key (key_of row)) xs = ap (list_any (is_key (key_of row))) (numbers_keyed gs) ∙ list_any-map number (is_key (key_of row)) xs in
      elim (cases_Bool (list_any (of_key (key_of row)) xs)) [
        | inl e ↦ inl (any ∙ e, after ∙ rw e (map-changed number (of_key (key_of row)) (stored row n) xs (λ k. refl)) ∙ sym (numbers_keyed gs))
        | inr e ↦
            let gains : Gains (new row n) xs (put_keyed row n xs) = rw e (cond_both (list_any (of_group (key_of row)) xs) (after_last (of_group (key_of row)) xs (new row n)) (after_last (of_domain (key_of row)) xs (new row n))
            (Gains (new row n) xs) (λ _. gains_after_last (new row n) (of_group (key_of row)) xs) (λ _. gains_after_last (new row n) (of_domain (key_of row)) xs)) in
            inr (
              any ∙ e,
              subst (λ ns. Gains (key_of row, n) ns (numbered (put_items row n gs))) (sym (numbers_keyed gs))
                  (subst (Gains (key_of row, n) (map number xs)) (sym after) (gains_map (new row n) number xs (put_keyed row n xs) gains)),
            )
      ]

  -- its key is created last, unless it was created before
  pub created_put : Below n gs → creation_order (put_items row n gs) ≡ add_created (creation_order gs) (key_of row)
  created_put b =
      let any = list_any-map (λ (x : Key × ℕ). x.0) (same_key (key_of row)) (by_number (numbered gs)) ∙ any_ordered (is_key (key_of row)) (numbered gs) in
      elim puts [
        | inl h ↦ let known : list_any (same_key (key_of row)) (creation_order gs) ≡ true = any ∙ h.0 in rw known (ap (λ ks. map (λ x. x.0) (by_number ks)) h.1)
        | inr h ↦
            let fresh : list_any (same_key (key_of row)) (creation_order gs) ≡ false = any ∙ h.0 in
            rw fresh (ap (map (λ x. x.0)) (ordered_gained (key_of row, n) (numbered gs) (numbered (put_items row n gs)) h.1 b) ∙ map-append (λ (x : Key × ℕ). x.0) (by_number (numbered gs)) ((key_of row, n) ∷ []))
      ]

  -- its number is below the next
  pub below_put : Below n gs → Below (suc n) (put_items row n gs)
  below_put b =
      let more : AllByRecursion (λ x. x.1 < suc n) (numbered gs) = all_map (λ x. x.1 < n) (λ x. x.1 < suc n) (λ x h. omega (arith, h)) (numbered gs) b in
      elim puts [
        | inl h ↦ subst (AllByRecursion (λ x. x.1 < suc n)) (sym h.1) more
        | inr h ↦ all_gained (key_of row, n) (λ x. x.1 < suc n) (numbered gs) (numbered (put_items row n gs)) h.1 (omega arith) more
      ]

  -- and no other row has it
  pub differ_put : Below n gs → NumbersDiffer gs → NumbersDiffer (put_items row n gs)
  differ_put b d = elim puts [
    | inl h ↦ ap (λ ks. differ nat_eq (map (λ x. x.1) ks)) h.1 ∙ d
    | inr h ↦ differ_gained (key_of row, n) (numbered gs) (numbered (put_items row n gs)) h.1 b d
  ]

  -- if there is a row of its key, the numbers are unchanged
  pub stays_numbered : row_of (key_of row) (flat (bare gs)) ≢ None → numbered (put_items row n gs) ≡ numbered gs
  stays_numbered there = elim puts [
    | inl h ↦ h.1
    | inr h ↦
        let none : list_any (has_key (key_of row)) (flat (bare gs)) ≡ false =
        sym (list_any-map key_of (same_key (key_of row)) (flat (bare gs))) ∙ ap (list_any (same_key (key_of row))) (keys_groups gs a.1) ∙ list_any-map (λ (x : Key × ℕ). x.0) (same_key (key_of row)) (numbered gs) ∙ h.0 in
        absurd (there (find_none (has_key (key_of row)) (flat (bare gs)) none))
  ]

-- a row is expired; its key and number are unchanged
pub numbered_expire : (key : Key) (gs : ItemGroups) → AreGroups (bare gs) → numbered (expire_items key gs) ≡ numbered gs
numbered_expire key gs a =
    numbers_keyed (expire_items key gs) ∙ ap (map (λ e. (e.0, e.1.number))) (expired_keyed key gs (texts_differ gs a))
    ∙ map-changed (λ (e : Keyed). (e.0, e.1.number)) (of_key key) (expired key) (keyed gs) (λ k. refl) ∙ sym (numbers_keyed gs)

-- the rows of groups and their keys
pub created_once : (n : ℕ) (gs : ItemGroups) → AreItems n gs → HasCreationOrder (contents_of (groups_in_order gs) None None)
created_once n gs a =
    let moved = IsPermutation-map (λ (x : Key × ℕ). x.0) (numbered gs) (by_number (numbered gs)) (ordered_moved (numbered gs)) in (
      subst (λ keys. IsPermutation keys (creation_order gs)) (sym (keys_groups gs a.0.1)) moved,
      differ_moved same_key same_key_equiv.symm (map (λ x. x.0) (numbered gs)) (creation_order gs) moved (keys_differ gs a.0 a.1),
    )
