-- What remains of rows in groups if those for which a closure returns false are removed.
use Rattle.std.proofs.Common.{◌≡◌, ℕ, Bool, true, false, not, List, [], ◌∷◌, cond, length, map, refl, sym, ◌∙◌, ap, ap₂, subst, bytes_eq, arith, Some, None}
use Rattle.std.specs.Prelude.{if◌then◌else◌, ◌==◌, string_bytes, String}
use Rattle.std.specs.List.{filter, items_where_true}
use Rattle.std.specs.List.Retain.{IsFiltered, ReturnsInTurn}
use Rattle.std.specs.Map.{values_of}
use Rattle.std.specs.Map.Calls.{RetainsPairs}
use Rattle.std.proofs.lemmas.Bool.Decides.{nat_tests}
use Rattle.cookie_words.specs.Moments.{Moment}
use Rattle.cookie_parts.specs.Cookie.{Row, is_expired}
use Rattle.cookie_parts.specs.Hosts.{passes}
use Rattle.cookie_laws.specs.Contents.{ReturnsTest, contents_of, has_expired, is_retained, retained, rows_in_order, unexpired}
use Rattle.cookie_laws.specs.Rows.{is_unexpired, row_of}
use Rattle.cookie_lookup.specs.Groups.{flat}
use Rattle.cookie_rows.specs.GroupChanges.{texts_by, unless_empty}
use Rattle.cookie_rows.specs.Items.{AreItems, AreNamed, Item, ItemGroups, ItemPaths, bare, groups_in_order}
use Rattle.cookie_rows.specs.Eviction.{filter_groups, filter_paths, is_filled}
use Rattle.cookie_rows.specs.NameMaps.{names_differ, names_in}
use Rattle.cookie_rows.specs.Retained.{RetainsDomains, RetainsGroups, RetainsItems, RetainsPaths}
use Rattle.cookie_rows.proofs.All.{all_any, all_map}
use Rattle.cookie_rows.proofs.FilteredGroups.{kept}
use Rattle.cookie_rows.proofs.FilteredItems.{kept_filtered, row_of_item}
use Rattle.cookie_rows.proofs.Keyed.{Keyed, keyed}
use Rattle.cookie_rows.proofs.Leaves.{differ_leaves, leaves_map}
use Rattle.cookie_rows.proofs.RetainedGroups.{some_items}

-- the calls that ran

-- in a list
module _ {F : Type 0} (R : F → Item → Bool → F → Type 0) (returns : Item → Bool → Type 0) (f : F)
    (says : (x : Item) (b : Bool) (g : F) → R f x b g → returns x b × (g ≡ f)) where
  pub list_retained : (xs ys : List Item) → IsFiltered R f xs ys → RetainsItems returns xs ys
  list_retained xs ys k = subst (RetainsItems returns xs) (sym k.4) (in_turn k.0 xs k.1 k.2 k.3)
    where
      -- what one result leaves
      one_left : (b : Bool) (bs : List Bool) (x : Item) (xs : List Item)
          → items_where_true (b ∷ bs) (x ∷ xs) ≡ (if b then x ∷ items_where_true bs xs else items_where_true bs xs)
      one_left true bs x xs = refl
      one_left false bs x xs = refl

      -- the results in turn
      in_turn : (bs : List Bool) (xs : List Item) (q : F) → length bs ≡ length xs → ReturnsInTurn R f bs xs q → RetainsItems returns xs (items_where_true bs xs)
      in_turn [] [] q e t = refl
      in_turn [] (x ∷ xs) q e t = absurd (omega arith)
      in_turn (b ∷ bs) [] q e t = absurd t
      in_turn (b ∷ bs) (x ∷ xs) q e t =
          let one = says x b t.0 t.1 in
          (b, items_where_true bs xs, one.0, in_turn bs xs q (omega arith) (subst (λ (g : F). ReturnsInTurn R g bs xs q) one.1 t.2), one_left b bs x xs)

-- in a map of rows
module _ {A F : Type 0} (T : F → String A → Item → Bool → Item → F → Type 0) (returns : Item → Bool → Type 0) (f : F)
    (says : (k : String A) (v : Item) (b : Bool) (w : Item) (g : F) → T f k v b w g → returns v b × (w ≡ v) × (g ≡ f)) where
  pub values_retained : (es left : List (String A × Item)) → RetainsPairs T f es left → RetainsItems returns (values_of es) (values_of left)
  values_retained [] left h = ap values_of h
  values_retained (e ∷ es) left h =
      let s = says e.0 e.1 h.0 h.1 h.2 h.4 in
      let rest = values_retained es h.3 (subst (λ g. RetainsPairs T g es h.3) s.2 h.5) in
      (h.0, values_of h.3, s.0, rest, ap values_of h.6 ∙ value_left e.0 h.0 h.1 h.3 ∙ ap (λ v. cond h.0 (v ∷ values_of h.3) (values_of h.3)) s.1)
    where
      -- what one result leaves
      value_left : (k : String A) (b : Bool) (w : Item) (rest : List (String A × Item)) → values_of (cond b ((k, w) ∷ rest) rest) ≡ cond b (w ∷ values_of rest) (values_of rest)
      value_left k true w rest = refl
      value_left k false w rest = refl

-- each key is still its row's name
module _ {A F : Type 0} (T : F → String A → Item → Bool → Item → F → Type 0) (f : F)
    (says : (k : String A) (v : Item) (b : Bool) (w : Item) (g : F) → T f k v b w g → (w ≡ v) × (g ≡ f)) where
  pub named_retained : (es left : List (String A × Item)) → RetainsPairs T f es left → AreNamed es → AreNamed left
  named_retained [] left h named = subst AreNamed (sym h) tt
  named_retained (e ∷ es) left h named =
      let s = says e.0 e.1 h.0 h.1 h.2 h.4 in
      let rest = named_retained es h.3 (subst (λ g. RetainsPairs T g es h.3) s.1 h.5) named.1 in
      subst AreNamed (sym h.6) (name_left e.0 h.0 h.1 h.3 (named.0 ∙ ap (λ (v : Item). v.row.raw.name) (sym s.0)) rest)
    where
      -- what one result leaves
      name_left : (k : String A) (b : Bool) (w : Item) (rest : List (String A × Item)) → string_bytes k ≡ w.row.raw.name → AreNamed rest → AreNamed (cond b ((k, w) ∷ rest) rest)
      name_left k true w rest own named = (own, named)
      name_left k false w rest own named = named

-- in a map of groups, where `contents` is what a value of the map has in order
module _ {A V X F : Type 0} (contents : V → List X) (T : F → String A → V → Bool → V → F → Type 0) (Retains : List X → List X → Type 0) (f : F)
    (says : (k : String A) (v : V) (b : Bool) (w : V) (g : F) → T f k v b w g → Retains (contents v) (contents w) × (b ≡ not (length (contents w) == 0)) × (g ≡ f)) where
  pub texts_retained : (es left : List (String A × V)) → RetainsPairs T f es left → RetainsGroups Retains (texts_by contents es) (texts_by contents left)
  texts_retained [] left h = ap (texts_by contents) h
  texts_retained (e ∷ es) left h =
      let s = says e.0 e.1 h.0 h.1 h.2 h.4 in
      let rest = texts_retained es h.3 (subst (λ g. RetainsPairs T g es h.3) s.2 h.5) in
      (contents h.1, texts_by contents h.3, s.0, rest, ap (texts_by contents) h.6 ∙ map_left e.0 h.0 h.1 h.3 ∙ group_left (string_bytes e.0) h.0 (contents h.1) (texts_by contents h.3) s.1)
    where
      -- what one result leaves
      map_left : (k : String A) (b : Bool) (w : V) (rest : List (String A × V)) → texts_by contents (cond b ((k, w) ∷ rest) rest) ≡ cond b ((string_bytes k, contents w) ∷ texts_by contents rest) (texts_by contents rest)
      map_left k true w rest = refl
      map_left k false w rest = refl

      -- which is dropped if it is empty
      group_left : (text : List ℕ) (b : Bool) (xs : List X) (rest : List (List ℕ × List X)) → b ≡ not (length xs == 0) → cond b ((text, xs) ∷ rest) rest ≡ unless_empty text xs rest
      group_left text b [] rest e = rw e refl
      group_left text b (x ∷ xs) rest e =
          let some : (length (x ∷ xs) == 0) ≡ false = grind (arith, nat_tests) in
          let stays : b ≡ true = e ∙ ap not some in
          rw stays refl

-- names still differ
pub differ_retained : (returns : Item → Bool → Type 0) (xs ys : List Item) → RetainsItems returns xs ys → names_differ xs ≡ true → names_differ ys ≡ true
differ_retained returns xs ys h d = differ_leaves bytes_eq (names_in xs) (names_in ys) (leaves_map (λ (x : Item). x.row.raw.name) xs ys (some_items returns xs ys h)) d

-- rows that pass a test

-- groups of which each is changed by a function
module _ {X : Type 0} (Retains : List X → List X → Type 0) (change : List X → List X) where
  groups_changed : ((xs ys : List X) → Retains xs ys → ys ≡ change xs) → (gs hs : List (List ℕ × List X)) → RetainsGroups Retains gs hs
      → hs ≡ filter is_filled (map (λ g. (g.0, change g.1)) gs)
  groups_changed is [] hs h = h
  groups_changed is (g ∷ gs) hs h =
      h.4 ∙ ap₂ (λ xs rest. unless_empty g.0 xs rest) (is g.1 h.0 h.2) (groups_changed is gs h.1 h.3)
      ∙ kept g.0 (change g.1) (filter is_filled (map (λ g. (g.0, change g.1)) gs))

module _ (returns : Item → Bool → Type 0) (test : Item → Bool) (computes : ReturnsTest returns test) where
  -- of a group
  items_tested : (xs ys : List Item) → RetainsItems returns xs ys → ys ≡ filter test xs
  items_tested [] ys h = h
  items_tested (x ∷ xs) ys h =
      let result = computes x h.0 h.2 in
      let rest = items_tested xs h.1 h.3 in
      h.4 ∙ (λ j. cond (result j) (x ∷ rest j) (rest j))

  -- of a domain
  pub paths_tested : (ps qs : ItemPaths) → RetainsPaths returns ps qs → qs ≡ filter_paths test ps
  paths_tested ps qs h = groups_changed (RetainsItems returns) (filter test) items_tested ps qs h

  -- of all domains
  pub groups_tested : (gs hs : ItemGroups) → RetainsDomains returns gs hs → hs ≡ filter_groups test gs
  groups_tested gs hs h = groups_changed (RetainsPaths returns) (filter_paths test) paths_tested gs hs h

module _ (returns : Item → Bool → Type 0) (n : ℕ) (gs hs : ItemGroups) (a : AreItems n gs) (h : RetainsDomains returns gs hs) where
  -- if the closure computes a test of rows, the store has the rows that pass it
  pub kept_retained : (test : Row → Bool) → ReturnsTest returns (λ x. test x.row) → groups_in_order hs ≡ rows_in_order (retained test (contents_of (groups_in_order gs) None None))
  kept_retained test computes =
      let rows = flat (bare gs) in
      ap groups_in_order (groups_tested returns (λ x. test x.row) computes gs hs h)
      ∙ kept_filtered n gs a (λ x. test x.row) test (is_retained test rows) (all_any (λ (e : Keyed). test e.1.row ≡ test e.1.row) (λ e. refl) (keyed gs))
      (all_map (λ (e : Keyed). row_of e.0 rows ≡ Some e.1.row) (λ e. is_retained test rows e.0 ≡ test e.1.row) (λ e found. ap (passes test) found) (keyed gs) (row_of_item n gs a))

  -- if it computes that they have not expired, those that have not
  pub kept_unexpired : (now : Moment) → ReturnsTest returns (λ x. is_unexpired now x.row) → groups_in_order hs ≡ rows_in_order (unexpired now (contents_of (groups_in_order gs) None None))
  kept_unexpired now computes =
      let rows = flat (bare gs) in
      ap groups_in_order (groups_tested returns (λ x. is_unexpired now x.row) computes gs hs h)
      ∙ kept_filtered n gs a (λ x. is_unexpired now x.row) (is_unexpired now) (λ key. not (has_expired now rows key)) (all_any (λ (e : Keyed). is_unexpired now e.1.row ≡ is_unexpired now e.1.row) (λ e. refl) (keyed gs))
      (all_map (λ (e : Keyed). row_of e.0 rows ≡ Some e.1.row) (λ e. not (has_expired now rows e.0) ≡ is_unexpired now e.1.row) (λ e found. ap (λ row. not (passes (is_expired now) row)) found)
      (keyed gs) (row_of_item n gs a))
