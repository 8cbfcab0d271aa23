-- Groups of which some items remain, and no empty group.
use Rattle.std.proofs.Common.{◌≡◌, ℕ, ◌<◌, ◌≤◌, Bool, true, false, List, [], ◌∷◌, ◌++◌, length, map, refl, sym, ◌∙◌, ap, subst, bytes_eq, arith}
use Rattle.std.specs.Prelude.{nat_eq}
use Rattle.std.specs.List.{AllByRecursion, flat_map}
use Rattle.std.proofs.lemmas.Bool.{and_from, and_parts}
use Rattle.std.proofs.lemmas.List.{length-map}
use Rattle.cookie_parts.specs.Cookie.{Row}
use Rattle.cookie_laws.specs.Rows.{Key, are_rows, differ, key_of, same_domain_equiv, same_group_equiv, same_key}
use Rattle.cookie_lookup.specs.Groups.{AreGroups, ArePaths, HasDomainAndPath, flat}
use Rattle.cookie_rows.specs.GroupChanges.{unless_empty}
use Rattle.cookie_rows.specs.Items.{AreItems, Item, ItemGroups, bare, bare_paths, numbered, rows_of}
use Rattle.cookie_rows.specs.Retained.{RetainsDomains, RetainsGroups, RetainsItems, RetainsPaths}
use Rattle.cookie_rows.proofs.Keyed.{Keyed, keyed, keyed_names, keyed_paths, numbers_keyed, rows_keyed}
use Rattle.cookie_rows.proofs.Leaves.{Leaves, all_leaves, differ_leaves, leaves_append, leaves_map, length_leaves, together_leaves}

-- rows of which some are left are in order
pub are_rows_leaves : (rows left : List Row) → Leaves rows left → are_rows rows ≡ true → are_rows left ≡ true
are_rows_leaves rows left h is =
    let keys = leaves_map key_of rows left h in
    let parts = and_parts _ _ is in
    let order = and_parts _ _ parts.1 in
    and_from _ _ (differ_leaves same_key (map key_of rows) (map key_of left) keys parts.0)
    (and_from _ _ (together_leaves same_domain_equiv (map key_of rows) (map key_of left) keys order.0) (together_leaves same_group_equiv (map key_of rows) (map key_of left) keys order.1))

-- a list of something of groups, of which one is dropped if it is empty
pub listed_unless : {X T : Type 0} (list : List ℕ → List X → List T) → ((text : List ℕ) → list text [] ≡ []) → (text : List ℕ) (xs : List X) (gs : List (List ℕ × List X))
    → flat_map (λ g. list g.0 g.1) (unless_empty text xs gs) ≡ list text xs ++ flat_map (λ g. list g.0 g.1) gs
listed_unless list nothing text [] gs = ap (λ ys. ys ++ flat_map (λ g. list g.0 g.1) gs) (sym (nothing text))
listed_unless list nothing text (x ∷ xs) gs = refl

-- the names of groups
abbrev names : {Y : Type 0} → List (List ℕ × List Y) → List (List ℕ)
names gs = map (λ g. g.0) gs

-- groups of any kind, and a view of their contents
module _ {X Y : Type 0} (see : List X → List Y) where
  abbrev pub viewed : List (List ℕ × List X) → List (List ℕ × List Y)
  viewed gs = map (λ g. (g.0, see g.1)) gs

  -- the names differ, and Q holds of each group
  abbrev pub AreViewed : (List ℕ × List Y → Type 0) → List (List ℕ × List X) → Type 0
  AreViewed Q gs = (differ bytes_eq (names (viewed gs)) ≡ true) × AllByRecursion Q (viewed gs)

-- groups of any kind, of which each remains as `Retains` says

module _ {X : Type 0} (Retains : List X → List X → Type 0) where
  module _ {T : Type 0} (list : List ℕ → List X → List T) (nothing : (text : List ℕ) → list text [] ≡ []) where
    -- some of it is left
    pub listed_retained : ((text : List ℕ) (xs ys : List X) → Retains xs ys → Leaves (list text xs) (list text ys)) → (gs hs : List (List ℕ × List X)) → RetainsGroups Retains gs hs
        → Leaves (flat_map (λ g. list g.0 g.1) gs) (flat_map (λ g. list g.0 g.1) hs)
    listed_retained each [] hs h = ap (flat_map (λ g. list g.0 g.1)) h
    listed_retained each (g ∷ gs) hs h =
        let more = leaves_append (list g.0 g.1) (list g.0 h.0) (flat_map (λ g. list g.0 g.1) gs) (flat_map (λ g. list g.0 g.1) h.1) (each g.0 g.1 h.0 h.2) (listed_retained each gs h.1 h.3) in
        subst (Leaves (flat_map (λ g. list g.0 g.1) (g ∷ gs))) (sym (ap (flat_map (λ g. list g.0 g.1)) h.4 ∙ listed_unless list nothing g.0 h.0 h.1)) more

  module _ {Y : Type 0} (see : List X → List Y) (Q : List ℕ × List Y → Type 0) where
    -- some names are left
    names_retained : (gs hs : List (List ℕ × List X)) → RetainsGroups Retains gs hs → Leaves (names (viewed see gs)) (names (viewed see hs))
    names_retained [] hs h = ap (λ ks. names (viewed see ks)) h
    names_retained (g ∷ gs) hs h =
        subst (λ ks. Leaves (names (viewed see (g ∷ gs))) (names (viewed see ks))) (sym h.4) (one_name g.0 (names (viewed see gs)) h.0 h.1 (names_retained gs h.1 h.3))
      where
        one_name : (text : List ℕ) (texts : List (List ℕ)) (xs : List X) (rest : List (List ℕ × List X)) → Leaves texts (names (viewed see rest))
            → Leaves (text ∷ texts) (names (viewed see (unless_empty text xs rest)))
        one_name text texts [] rest l = (false, names (viewed see rest), l, refl)
        one_name text texts (x ∷ xs) rest l = (true, names (viewed see rest), l, refl)

    module _ (each : (text : List ℕ) (xs ys : List X) → Retains xs ys → 0 < length ys → Q (text, see xs) → Q (text, see ys)) where
      -- Q still holds of each group
      all_retained : (gs hs : List (List ℕ × List X)) → RetainsGroups Retains gs hs → AllByRecursion Q (viewed see gs) → AllByRecursion Q (viewed see hs)
      all_retained [] hs h a = subst (λ ks. AllByRecursion Q (viewed see ks)) (sym h) tt
      all_retained (g ∷ gs) hs h a =
          subst (λ ks. AllByRecursion Q (viewed see ks)) (sym h.4) (one_group g.0 h.0 h.1 (λ some. each g.0 g.1 h.0 h.2 some a.0) (all_retained gs h.1 h.3 a.1))
        where
          one_group : (text : List ℕ) (xs : List X) (rest : List (List ℕ × List X)) → (0 < length xs → Q (text, see xs)) → AllByRecursion Q (viewed see rest)
              → AllByRecursion Q (viewed see (unless_empty text xs rest))
          one_group text [] rest q a = a
          one_group text (x ∷ xs) rest q a = (q (omega arith), a)

      pub viewed_retained : (gs hs : List (List ℕ × List X)) → RetainsGroups Retains gs hs → AreViewed see Q gs → AreViewed see Q hs
      viewed_retained gs hs h a = (differ_leaves bytes_eq (names (viewed see gs)) (names (viewed see hs)) (names_retained gs hs h) a.0, all_retained gs hs h a.1)

-- groups of rows

module _ (returns : Item → Bool → Type 0) where
  -- of a path
  pub some_items : (xs ys : List Item) → RetainsItems returns xs ys → Leaves xs ys
  some_items [] ys h = h
  some_items (x ∷ xs) ys h = (h.0, h.1, some_items xs h.1 h.3, h.4)

  -- with their keys
  some_keyed : (gs hs : ItemGroups) → RetainsDomains returns gs hs → Leaves (keyed gs) (keyed hs)
  some_keyed gs hs h =
      listed_retained (RetainsPaths returns) keyed_paths (λ d. refl)
      (λ d ps qs k. listed_retained (RetainsItems returns) (keyed_names d) (λ p. refl) (λ p xs ys l. leaves_map (λ x. (record { domain = d; path = p; name = x.row.raw.name }, x)) xs ys (some_items xs ys l)) ps qs k) gs hs h

  -- they are groups
  groups_retained : (gs hs : ItemGroups) → RetainsDomains returns gs hs → AreGroups (bare gs) → AreGroups (bare hs)
  groups_retained gs hs h a =
      viewed_retained (RetainsPaths returns) bare_paths (λ g. (0 < length g.1) × ArePaths g.0 g.1)
      (λ d ps qs k some are. (
        omega (arith, some, length-map {B = List ℕ × List Row} qs (λ p. (p.0, rows_of p.1))),
        viewed_retained (RetainsItems returns) rows_of (λ p. (0 < length p.1) × AllByRecursion (HasDomainAndPath d p.0) p.1)
            (λ p xs ys l more of. (
              omega (arith, more, length-map ys (λ (x : Item). x.row)),
              all_leaves (HasDomainAndPath d p) (rows_of xs) (rows_of ys) (leaves_map (λ (x : Item). x.row) xs ys (some_items xs ys l)) of.1,
            )) ps qs k are.1,
      )) gs hs h a

  module _ (n : ℕ) (gs hs : ItemGroups) (a : AreItems n gs) (h : RetainsDomains returns gs hs) where
    -- the rows that remain
    rows_remaining : Leaves (flat (bare gs)) (flat (bare hs))
    rows_remaining =
        subst (λ rows. Leaves rows (flat (bare hs))) (sym (rows_keyed gs))
        (subst (Leaves (map (λ (e : Keyed). e.1.row) (keyed gs))) (sym (rows_keyed hs)) (leaves_map (λ (e : Keyed). e.1.row) (keyed gs) (keyed hs) (some_keyed gs hs h)))

    -- and their numbers
    numbers_remaining : Leaves (numbered gs) (numbered hs)
    numbers_remaining =
        subst (λ ns. Leaves ns (numbered hs)) (sym (numbers_keyed gs))
        (subst (Leaves (map (λ (e : Keyed). (e.0, e.1.number)) (keyed gs))) (sym (numbers_keyed hs)) (leaves_map (λ (e : Keyed). (e.0, e.1.number)) (keyed gs) (keyed hs) (some_keyed gs hs h)))

    -- what remains are groups of rows
    pub items_retained : AreItems n hs
    items_retained = (
      groups_retained gs hs h a.0,
      are_rows_leaves (flat (bare gs)) (flat (bare hs)) rows_remaining a.1,
      all_leaves (λ x. x.1 < n) (numbered gs) (numbered hs) numbers_remaining a.2,
      differ_leaves nat_eq (map (λ x. x.1) (numbered gs)) (map (λ x. x.1) (numbered hs)) (leaves_map (λ (x : Key × ℕ). x.1) (numbered gs) (numbered hs) numbers_remaining) a.3,
    )

    -- no more than before
    pub fewer_retained : length (flat (bare hs)) ≤ length (flat (bare gs))
    fewer_retained = length_leaves (flat (bare gs)) (flat (bare hs)) rows_remaining
