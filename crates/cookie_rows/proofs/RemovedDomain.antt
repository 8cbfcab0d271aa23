-- The rows of one domain are removed.
use Rattle.std.proofs.Common.{◌≡◌, ℕ, ◌+◌, ◌<◌, Bool, true, false, ◌||◌, List, [], ◌∷◌, length, refl, sym, ◌∙◌, ap, subst, inl, inr, Option, Some, None, IfSome, IfNone, bytes_eq, arith, length-append}
use Rattle.std.specs.Prelude.{string_bytes, String}
use Rattle.std.specs.List.{filter}
use Rattle.std.specs.Map.{lookup, remove_entry}
use Rattle.std.specs.Option.{unwrap_or}
use Rattle.std.proofs.lemmas.Bool.{cases_Bool}
use Rattle.cookie_laws.specs.Contents.{contents_of, retained, rows_in_order}
use Rattle.cookie_laws.specs.Rows.{removed}
use Rattle.cookie_lookup.specs.Groups.{flat, flat_paths}
use Rattle.cookie_lookup.specs.Positions.{paths_in_order}
use Rattle.cookie_rows.specs.Eviction.{filter_groups, filter_paths}
use Rattle.cookie_rows.specs.GroupChanges.{lessened_at, texts_by, unless_empty}
use Rattle.cookie_rows.specs.Items.{AreItems, Item, ItemGroups, ItemPaths, bare, bare_paths, groups_in_order}
use Rattle.cookie_rows.specs.Least.{items_in_paths}
use Rattle.cookie_rows.specs.Retained.{RetainsDomains, has_other_domain}
use Rattle.cookie_rows.specs.Stored.{StoredPaths}
use Rattle.cookie_rows.proofs.Created.{texts_differ}
use Rattle.cookie_rows.proofs.FilteredGroups.{evicted_filtered, parted_first, retains_filtered}
use Rattle.cookie_rows.proofs.Maps.{at_text}
use Rattle.cookie_rows.proofs.RetainedGroups.{items_retained}
use Rattle.cookie_rows.proofs.RetainedItems.{kept_retained}
use Rattle.cookie_rows.proofs.RowLengths.{count_paths, row_count}

-- no item passes
none_pass : (xs : List Item) → filter (λ x. false) xs ≡ []
none_pass [] = refl
none_pass (x ∷ xs) = none_pass xs

-- so nothing is left of the groups of a domain
none_left : (ps : ItemPaths) → filter_paths (λ x. false) ps ≡ []
none_left [] = refl
none_left (p ∷ ps) =
    parted_first (filter (λ x. false)) p ps ∙ ap (λ xs. unless_empty p.0 xs (filter_paths (λ x. false) ps)) (none_pass p.1) ∙ none_left ps

-- rows

module _ (d : List ℕ) where
  -- the row is not of the domain
  abbrev remains : Item → Bool
  remains x = has_other_domain d x.row || false

  remains_is : (b : Bool) → (b || false) ≡ b
  remains_is true = refl
  remains_is false = refl

  -- a group of which nothing is left is removed
  removed_lessened : (gs : ItemGroups) → lessened_at (filter_paths (λ x. false)) d gs ≡ removed (λ g. bytes_eq d g.0) gs
  removed_lessened [] = refl
  removed_lessened (g ∷ gs) = elim (cases_Bool (bytes_eq d g.0)) [
    | inl e ↦ rw e (ap (λ ps. unless_empty g.0 ps gs) (none_left g.1))
    | inr e ↦ rw e (ap (λ hs. g ∷ hs) (removed_lessened gs))
  ]

  module _ (n : ℕ) (gs hs : ItemGroups) (a : AreItems n gs) (is : hs ≡ removed (λ g. bytes_eq d g.0) gs) where
    -- the others remain
    others_remain : RetainsDomains (λ x b. b ≡ remains x) gs hs
    others_remain =
        let same : filter_groups remains gs ≡ hs =
        sym (evicted_filtered (λ x. false) d gs a.0 (texts_differ gs a.0).0) ∙ removed_lessened gs ∙ sym is in
        subst (RetainsDomains (λ x b. b ≡ remains x) gs) same (retains_filtered remains gs)

    -- they are groups of rows
    pub others_are_items : AreItems n hs
    others_are_items = items_retained (λ x b. b ≡ remains x) n gs hs a others_remain

    -- the store has the rows of other domains
    pub others_retained : groups_in_order hs ≡ rows_in_order (retained (has_other_domain d) (contents_of (groups_in_order gs) None None))
    others_retained =
        kept_retained (λ x b. b ≡ remains x) n gs hs a others_remain (has_other_domain d) (λ x b e. e ∙ remains_is (has_other_domain d x.row))

-- how many rows there are

-- of one group and of the others
one_group : (g : List ℕ × ItemPaths) (gs : ItemGroups) → row_count (g ∷ gs) ≡ length (items_in_paths g.1) + row_count gs
one_group g gs = omega (arith, length-append (flat_paths (bare_paths g.1)) (flat (bare gs)), count_paths g.1)

module _ {A : Type 0} (q : List ℕ) where
  abbrev others : List (String A × StoredPaths) → ItemGroups
  others es = texts_by paths_in_order (remove_entry (at_text q) es)

  -- those of the domain are removed
  pub count_others : (es : List (String A × StoredPaths)) (v : StoredPaths) → Some v ≡ lookup (at_text q) es
      → length (items_in_paths (paths_in_order v)) + row_count (others es) ≡ row_count (texts_by paths_in_order es)
  count_others [] v l = absurd (cc)
  count_others (e ∷ es) v l = elim (cases_Bool (at_text q e.0)) [
    | inl t ↦
        let l' = rw t at l in
        let same : v ≡ e.1 = cc in
        rw t (ap (λ v. length (items_in_paths (paths_in_order v)) + row_count (texts_by paths_in_order es)) same ∙ sym (one_group (q, paths_in_order e.1) (texts_by paths_in_order es)))
    | inr t ↦
        let l' = rw t at l in
        rw t (omega (arith, one_group (q, paths_in_order e.1) (others es), one_group (q, paths_in_order e.1) (texts_by paths_in_order es), count_others es v l'))
  ]

  -- or none, if there is no such domain
  pub none_removed : (es : List (String A × StoredPaths)) → None ≡ lookup (at_text q) es
      → texts_by paths_in_order es ≡ removed (λ g. bytes_eq q g.0) (texts_by paths_in_order es)
  none_removed [] l = refl
  none_removed (e ∷ es) l = elim (cases_Bool (at_text q e.0)) [
    | inl t ↦ let l' = rw t at l in absurd (cc)
    | inr t ↦ let l' = rw t at l in rw t (ap (λ gs. (string_bytes e.0, paths_in_order e.1) ∷ gs) (none_removed es l'))
  ]

-- as many rows are left as there is room for
pub rows_left : (room : Option ℕ) (len own others all : ℕ) → own + others ≡ all → len ≡ all → IfSome room (λ r. own + r ≡ len) → IfNone room (len < own)
    → unwrap_or room 0 ≡ others
rows_left None len own others all is same some none = absurd (omega (arith, is, same, none))
rows_left (Some r) len own others all is same some none = omega (arith, is, same, some)
