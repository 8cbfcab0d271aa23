-- Groups of which the items that pass a test remain.
use Rattle.std.proofs.Common.{◌≡◌, ℕ, ◌<◌, Bool, true, false, not, ◌||◌, List, [], ◌∷◌, ◌++◌, cond, length, map, refl, sym, ◌∙◌, ap, ap₂, subst, inl, inr, bytes_eq, arith}
use Rattle.std.specs.Cmp.{IsEquivalence}
use Rattle.std.specs.List.{AllByRecursion, filter, flat_map, list_any}
use Rattle.std.proofs.lemmas.Bool.{and_parts, cases_Bool, not-true, or_parts}
use Rattle.std.proofs.lemmas.List.{length-map}
use Rattle.std.proofs.lemmas.List.Elements.{filter-append, filter_passes, recursion_from_All}
use Rattle.std.proofs.lemmas.Map.Steps.{list_any_congr}
use Rattle.std.proofs.lemmas.Simd.{map-map}
use Rattle.cookie_parts.specs.Cookie.{Row}
use Rattle.cookie_parts.specs.Domain.{domain_text}
use Rattle.cookie_laws.specs.Rows.{differ, key_at, removed}
use Rattle.cookie_lookup.specs.Groups.{AreGroups, ArePaths, Filled, HasDomainAndPath}
use Rattle.cookie_rows.specs.GroupChanges.{lessened_at, unless_empty}
use Rattle.cookie_rows.specs.Items.{Item, ItemGroups, ItemPaths, bare, bare_paths, rows_of}
use Rattle.cookie_rows.specs.Eviction.{filter_groups, filter_paths, is_filled}
use Rattle.cookie_rows.specs.Retained.{RetainsDomains, RetainsGroups, RetainsItems, RetainsPaths}
use Rattle.cookie_rows.proofs.AfterLast.{list_any-map}
use Rattle.cookie_rows.proofs.All.{all_any, all_from_map, all_map}
use Rattle.cookie_rows.proofs.Keyed.{Keyed, filter_all, keyed, keyed_names, keyed_paths}
use Rattle.cookie_rows.proofs.Leaves.{Leaves, leaves_filter, leaves_map}
use Rattle.cookie_rows.proofs.Flat.{absent}
use Rattle.cookie_rows.proofs.RetainedGroups.{listed_unless}

-- a filter

-- tests that agree keep the same items
pub filter_same : {T : Type 0} (t u : T → Bool) (xs : List T) → AllByRecursion (λ x. t x ≡ u x) xs → filter t xs ≡ filter u xs
filter_same t u [] a = refl
filter_same t u (x ∷ xs) a = let rest = filter_same t u xs a.1 in λ i. cond (a.0 i) (x ∷ rest i) (rest i)

-- a function of the items that pass, and a test of its values
pub map_filtered : {A B : Type 0} (f : A → B) (keeps : B → Bool) (test : A → Bool) (xs : List A) → AllByRecursion (λ x. keeps (f x) ≡ test x) xs → map f (filter test xs) ≡ filter keeps (map f xs)
map_filtered f keeps test [] a = refl
map_filtered f keeps test (x ∷ xs) a = elim (cases_Bool (test x)) [
  | inl e ↦ let passed : keeps (f x) ≡ true = a.0 ∙ e in rw (e, passed) (ap (λ ys. f x ∷ ys) (map_filtered f keeps test xs a.1))
  | inr e ↦ let failed : keeps (f x) ≡ false = a.0 ∙ e in rw (e, failed) (map_filtered f keeps test xs a.1)
]

-- the same of a test of each value
pub map-filter : {A B : Type 0} (f : A → B) (test : B → Bool) (xs : List A) → map f (filter (λ x. test (f x)) xs) ≡ filter test (map f xs)
map-filter f test xs = map_filtered f test (λ x. test (f x)) xs (all_any (λ x. test (f x) ≡ test (f x)) (λ x. refl) xs)

-- one item is removed

module _ {T : Type 0} where
  -- at most one item passes
  abbrev pub AtMostOne : (T → Bool) → List T → Type 0
  AtMostOne test [] = Unit {0}
  AtMostOne test (x ∷ xs) = (test x ≡ true → list_any test xs ≡ false) × AtMostOne test xs

  -- if none passes, each fails
  pub each_fails : (test : T → Bool) (xs : List T) → list_any test xs ≡ false → AllByRecursion (λ x. test x ≡ false) xs
  each_fails test [] n = tt
  each_fails test (x ∷ xs) n = let parts = or_parts (test x) (list_any test xs) n in (parts.0, each_fails test xs parts.1)

  -- so to remove one is to keep those that fail
  pub removed_filter : (test : T → Bool) (xs : List T) → AtMostOne test xs → removed test xs ≡ filter (λ x. not (test x)) xs
  removed_filter test [] a = refl
  removed_filter test (x ∷ xs) a = elim (cases_Bool (test x)) [
    | inl e ↦
        let others = filter_all (λ x. not (test x)) xs (all_map (λ x. test x ≡ false) (λ x. not (test x) ≡ true) (λ x f. ap not f) xs (each_fails test xs (a.0 e))) in
        rw e (sym others)
    | inr e ↦ rw e (ap (λ ys. x ∷ ys) (removed_filter test xs a.1))
  ]

  -- of items that differ at most one is like another
  pub one_alike : {alike : T → T → Bool} → IsEquivalence alike → (x : T) (xs : List T) → differ alike xs ≡ true → AtMostOne (alike x) xs
  one_alike laws x [] d = tt
  one_alike {alike = alike} laws x (y ∷ ys) d =
      let parts = and_parts (not (list_any (alike y) ys)) (differ alike ys) d in
      ((λ e. list_any_congr laws x y ys e ∙ not-true _ parts.0), one_alike laws x ys parts.1)

-- at most one passes of a function's values, and of what they are values of
pub one_of_map : {A B : Type 0} (f : A → B) (test : B → Bool) (xs : List A) → AtMostOne test (map f xs) → AtMostOne (λ x. test (f x)) xs
one_of_map f test [] a = tt
one_of_map f test (x ∷ xs) a = ((λ e. sym (list_any-map f test xs) ∙ a.0 e), one_of_map f test xs a.1)

-- groups of any kind

module _ {X : Type 0} where
  -- a group that is not empty remains
  pub kept : (text : List ℕ) (xs : List X) (rest : List (List ℕ × List X)) → unless_empty text xs rest ≡ cond (is_filled (text, xs)) ((text, xs) ∷ rest) rest
  kept text [] rest = refl
  kept text (x ∷ xs) rest = refl

  pub filled : (text : List ℕ) (xs : List X) (rest : List (List ℕ × List X)) → 0 < length xs → unless_empty text xs rest ≡ (text, xs) ∷ rest
  filled text [] rest some = absurd (omega (arith, some))
  filled text (x ∷ xs) rest some = refl

  -- the groups with a part of each
  abbrev parted : (List X → List X) → List (List ℕ × List X) → List (List ℕ × List X)
  parted part gs = filter is_filled (map (λ g. (g.0, part g.1)) gs)

  module _ (part : List X → List X) where
    -- of the first, and of the others
    pub parted_first : (g : List ℕ × List X) (gs : List (List ℕ × List X)) → parted part (g ∷ gs) ≡ unless_empty g.0 (part g.1) (parted part gs)
    parted_first g gs = sym (kept g.0 (part g.1) (parted part gs))

    -- some of the names remain
    pub names_parted : (gs : List (List ℕ × List X)) → Leaves (map (λ g. g.0) gs) (map (λ g. g.0) (parted part gs))
    names_parted gs =
        let parts : List (List ℕ × List X) = map (λ g. (g.0, part g.1)) gs in
        subst (λ names. Leaves names (map (λ g. g.0) (parted part gs))) (map-map (λ (g : List ℕ × List X). g.0) (λ (g : List ℕ × List X). (g.0, part g.1)) gs)
        (leaves_map (λ (g : List ℕ × List X). g.0) parts (parted part gs) (leaves_filter is_filled parts))

    -- no group is empty
    pub parted_filled : (gs : List (List ℕ × List X)) → AllByRecursion (λ g. 0 < length g.1) (parted part gs)
    parted_filled gs = all_map (λ g. is_filled g ≡ true) (λ g. 0 < length g.1) some (parted part gs) (recursion_from_All (λ g. is_filled g ≡ true) (parted part gs) (filter_passes is_filled (map (λ g. (g.0, part g.1)) gs)))
      where
        some : (g : List ℕ × List X) → is_filled g ≡ true → 0 < length g.1
        some (text, []) e = absurd (cc)
        some (text, x ∷ xs) e = omega arith

    -- they remain as `Retains` says
    pub retains_parted : (Retains : List X → List X → Type 0) → ((xs : List X) → Retains xs (part xs)) → (gs : List (List ℕ × List X)) → RetainsGroups Retains gs (parted part gs)
    retains_parted Retains each [] = refl
    retains_parted Retains each (g ∷ gs) = (part g.1, parted part gs, each g.1, retains_parted Retains each gs, parted_first g gs)

    -- a list of something of them is filtered
    pub listed_parted : {T : Type 0} (list : List ℕ → List X → List T) → ((text : List ℕ) → list text [] ≡ []) → (test : T → Bool) → ((text : List ℕ) (xs : List X) → list text (part xs) ≡ filter test (list text xs))
        → (gs : List (List ℕ × List X)) → flat_map (λ g. list g.0 g.1) (parted part gs) ≡ filter test (flat_map (λ g. list g.0 g.1) gs)
    listed_parted list nothing test same [] = refl
    listed_parted list nothing test same (g ∷ gs) =
        ap (flat_map (λ g. list g.0 g.1)) (parted_first g gs) ∙ listed_unless list nothing g.0 (part g.1) (parted part gs)
        ∙ ap₂ (λ xs ys. xs ++ ys) (same g.0 g.1) (listed_parted list nothing test same gs) ∙ sym (filter-append test (list g.0 g.1) (flat_map (λ g. list g.0 g.1) gs))

    -- the same part of each
    parted_same : (other : List X → List X) (gs : List (List ℕ × List X)) → AllByRecursion (λ g. part g.1 ≡ other g.1) gs → parted part gs ≡ parted other gs
    parted_same other [] a = refl
    parted_same other (g ∷ gs) a = let rest = parted_same other gs a.1 in λ i. cond (is_filled (g.0, a.0 i)) ((g.0, a.0 i) ∷ rest i) (rest i)

    -- the whole of each
    parted_whole : (gs : List (List ℕ × List X)) → AllByRecursion (λ g. (0 < length g.1) × (part g.1 ≡ g.1)) gs → parted part gs ≡ gs
    parted_whole [] a = refl
    parted_whole (g ∷ gs) a = parted_first g gs ∙ ap₂ (λ xs rest. unless_empty g.0 xs rest) a.0.1 (parted_whole gs a.1) ∙ filled g.0 g.1 gs a.0.0

    -- a part of the group of one name, which `f` leaves, and the whole of the others

    module _ (f : List X → List X) (text : List ℕ) where
      abbrev pub IsPart : List ℕ × List X → Type 0
      IsPart g = (0 < length g.1) × ((bytes_eq text g.0 ≡ true → f g.1 ≡ part g.1) × (bytes_eq text g.0 ≡ false → part g.1 ≡ g.1))

      others_whole : (gs : List (List ℕ × List X)) → list_any (bytes_eq text) (map (λ g. g.0) gs) ≡ false → AllByRecursion IsPart gs → AllByRecursion (λ g. (0 < length g.1) × (part g.1 ≡ g.1)) gs
      others_whole [] none a = tt
      others_whole (g ∷ gs) none a = let parts = or_parts _ _ none in ((a.0.0, a.0.1.1 parts.0), others_whole gs parts.1 a.1)

      pub lessened_parted : (gs : List (List ℕ × List X)) → differ bytes_eq (map (λ g. g.0) gs) ≡ true → AllByRecursion IsPart gs → lessened_at f text gs ≡ parted part gs
      lessened_parted [] apart a = refl
      lessened_parted (g ∷ gs) apart a = elim (cases_Bool (bytes_eq text g.0)) [
        | inl e ↦
            let others = parted_whole gs (others_whole gs (absent g.0 (map (λ g. g.0) gs) text e apart) a.1) in
            rw e (ap₂ (λ xs rest. unless_empty g.0 xs rest) (a.0.1.0 e) (sym others) ∙ sym (parted_first g gs))
        | inr e ↦
            rw e (sym (filled g.0 g.1 (lessened_at f text gs) a.0.0)
            ∙ ap₂ (λ xs rest. unless_empty g.0 xs rest) (sym (a.0.1.1 e)) (lessened_parted gs (and_parts _ _ apart).1 a.1) ∙ sym (parted_first g gs))
      ]

-- groups of rows

-- they remain as the test says
pub retains_filtered : (keep : Item → Bool) (gs : ItemGroups) → RetainsDomains (λ x b. b ≡ keep x) gs (filter_groups keep gs)
retains_filtered keep gs =
    retains_parted (filter_paths keep) (RetainsPaths (λ x b. b ≡ keep x)) (λ ps. retains_parted (filter keep) (RetainsItems (λ x b. b ≡ keep x)) of_items ps) gs
  where
    of_items : (xs : List Item) → RetainsItems (λ x b. b ≡ keep x) xs (filter keep xs)
    of_items [] = refl
    of_items (x ∷ xs) = (keep x, filter keep xs, refl, of_items xs, refl)

-- with their keys
pub keyed_filtered_in : (keep : Item → Bool) (d : List ℕ) (ps : ItemPaths) → keyed_paths d (filter_paths keep ps) ≡ filter (λ e. keep e.1) (keyed_paths d ps)
keyed_filtered_in keep d ps = listed_parted (filter keep) (keyed_names d) (λ p. refl) (λ e. keep e.1) (λ p xs. map-filter (λ (x : Item). (key_at d p x.row.raw.name, x)) (λ (e : Keyed). keep e.1) xs) ps

pub keyed_filtered : (keep : Item → Bool) (gs : ItemGroups) → keyed (filter_groups keep gs) ≡ filter (λ e. keep e.1) (keyed gs)
keyed_filtered keep gs = listed_parted (filter_paths keep) keyed_paths (λ d. refl) (λ e. keep e.1) (keyed_filtered_in keep) gs

-- the groups of a domain

abbrev pub ItemsOf : List ℕ → List ℕ × List Item → Type 0
ItemsOf d p = (0 < length p.1) × AllByRecursion (λ x. HasDomainAndPath d p.0 x.row) p.1

pub items_of : (d : List ℕ) (ps : ItemPaths) → Filled d (bare_paths ps) → AllByRecursion (ItemsOf d) ps
items_of d [] a = tt
items_of d (p ∷ ps) a = (
  (omega (arith, a.0.0, length-map p.1 (λ (x : Item). x.row)), all_from_map (λ (x : Item). x.row) (HasDomainAndPath d p.0) p.1 a.0.1),
  items_of d ps a.1,
)

-- where all items pass
pub whole_paths : (keep : Item → Bool) (d : List ℕ) (ps : ItemPaths) → ((x : Item) → domain_text x.row.domain ≡ d → keep x ≡ true) → Filled d (bare_paths ps) → filter_paths keep ps ≡ ps
whole_paths keep d ps pass a =
    parted_whole (filter keep) ps
    (all_map (ItemsOf d) (λ p. (0 < length p.1) × (filter keep p.1 ≡ p.1))
    (λ p of. (of.0, filter_all keep p.1 (all_map (λ x. HasDomainAndPath d p.0 x.row) (λ x. keep x ≡ true) (λ x is. pass x is.0) p.1 of.1))) ps (items_of d ps a))

-- what is known of the group of each domain
pub some_paths : (ps : ItemPaths) → 0 < length (bare_paths ps) → 0 < length ps
some_paths ps some = omega (arith, some, length-map {B = List ℕ × List Row} ps (λ p. (p.0, rows_of p.1)))

-- items of one domain that fail a test are removed: all others pass
pub evicted_filtered : (test : Item → Bool) (d : List ℕ) (gs : ItemGroups) → AreGroups (bare gs) → differ bytes_eq (map (λ g. g.0) gs) ≡ true
    → lessened_at (filter_paths test) d gs ≡ filter_groups (λ x. not (bytes_eq d (domain_text x.row.domain)) || test x) gs
evicted_filtered test d gs a apart =
    let keep : Item → Bool = λ x. not (bytes_eq d (domain_text x.row.domain)) || test x in
    lessened_parted (filter_paths keep) (filter_paths test) d gs apart
    (all_map (λ (g : List ℕ × ItemPaths). (0 < length (bare_paths g.1)) × ArePaths g.0 (bare_paths g.1)) (IsPart (filter_paths keep) (filter_paths test) d)
    (λ g of. (
      some_paths g.1 of.0,
      (
        λ e. parted_same (filter test) (filter keep) g.1
            (all_map (ItemsOf g.0) (λ p. filter test p.1 ≡ filter keep p.1)
            (λ p are. filter_same test keep p.1
            (all_map (λ x. HasDomainAndPath g.0 p.0 x.row) (λ x. test x ≡ keep x) (λ x is. ap (λ b. not b || test x) (sym (ap (bytes_eq d) is.0 ∙ e))) p.1 are.1)) g.1 (items_of g.0 g.1 of.1.1)),
        λ e. whole_paths keep g.0 g.1 (λ x is. ap (λ b. not b || test x) (ap (bytes_eq d) is ∙ e)) of.1.1,
      ),
    )) gs (all_from_map (λ (g : List ℕ × ItemPaths). (g.0, bare_paths g.1)) (λ g. (0 < length g.1) × ArePaths g.0 g.1) gs a.1))
