-- What each change keeps of the groups.
use Rattle.std.proofs.Common.{◌≡◌, ℕ, suc, ◌<◌, true, false, List, [], ◌∷◌, ◌++◌, length, map, refl, sym, ◌∙◌, ap, subst, inl, inr, bytes_eq, arith}
use Rattle.std.specs.List.{AllByRecursion, list_any}
use Rattle.std.proofs.lemmas.Bool.{cases_Bool}
use Rattle.std.proofs.lemmas.Bool.Decides.{nat_tests}
use Rattle.std.proofs.lemmas.List.{length-map}
use Rattle.std.proofs.lemmas.List.Folds.{list_any-append}
use Rattle.std.proofs.lemmas.Simd.{map-map}
use Rattle.std.proofs.lemmas.Slice.Eq.{bytes_eq-Decides}
use Rattle.cookie_parts.specs.Cookie.{Row}
use Rattle.cookie_parts.specs.Domain.{domain_text}
use Rattle.cookie_laws.specs.Rows.{Key, differ}
use Rattle.cookie_lookup.specs.Groups.{PathGroups, HasDomainAndPath, ArePaths, AreGroups}
use Rattle.cookie_rows.specs.GroupChanges.{is_named, put_at, changed_at}
use Rattle.cookie_rows.specs.Items.{Item, ItemGroups, ItemPaths, bare, bare_paths, expire_item, expire_item_paths, expire_items, put_item, put_item_paths, put_items, rows_of}
use Rattle.cookie_rows.proofs.All.{all_from_map, all_to_map}
use Rattle.cookie_rows.proofs.FilteredGroups.{some_paths}
use Rattle.cookie_rows.proofs.RetainedGroups.{AreViewed}

-- a new name goes last, and the names differ
differ_push : (xs : List (List ℕ)) (y : List ℕ) → differ bytes_eq xs ≡ true → list_any (bytes_eq y) xs ≡ false → differ bytes_eq (xs ++ y ∷ []) ≡ true
differ_push [] y h k = refl
differ_push (x ∷ xs) y h k =
    let flip : bytes_eq x y ≡ bytes_eq y x = grind (arith, nat_tests, bytes_eq-Decides x y, bytes_eq-Decides y x) in
    grind (arith, nat_tests, h, k, flip, differ_push xs y, list_any-append (bytes_eq x) xs (y ∷ []))

module _ {X : Type 0} (f : List X → List X) (t : List ℕ) where
  -- put

  -- a name that is there
  keys_in : (gs : List (List ℕ × List X)) → list_any (bytes_eq t) (map (λ g. g.0) gs) ≡ true → map (λ g. g.0) (put_at f t gs) ≡ map (λ g. g.0) gs
  keys_in [] h = absurd (cc)
  keys_in (g ∷ gs) h = elim (cases_Bool (bytes_eq t g.0)) [
    | inl e ↦ rw e refl
    | inr e ↦ let h' : list_any (bytes_eq t) (map (λ g. g.0) gs) ≡ true = grind (arith, nat_tests, h, e) in rw e (ap (λ ks. g.0 ∷ ks) (keys_in gs h'))
  ]

  -- a new name goes last
  keys_out : (gs : List (List ℕ × List X)) → list_any (bytes_eq t) (map (λ g. g.0) gs) ≡ false → map (λ g. g.0) (put_at f t gs) ≡ map (λ g. g.0) gs ++ t ∷ []
  keys_out [] h = refl
  keys_out (g ∷ gs) h =
      let e : bytes_eq t g.0 ≡ false = grind (arith, nat_tests, h) in
      let h' : list_any (bytes_eq t) (map (λ g. g.0) gs) ≡ false = grind (arith, nat_tests, h) in
      rw e (ap (λ ks. g.0 ∷ ks) (keys_out gs h'))

  -- names differ after either
  differ_put : (gs : List (List ℕ × List X)) → differ bytes_eq (map (λ g. g.0) gs) ≡ true → differ bytes_eq (map (λ g. g.0) (put_at f t gs)) ≡ true
  differ_put gs d = elim (cases_Bool (list_any (bytes_eq t) (map (λ g. g.0) gs))) [
    | inl e ↦ ap (differ bytes_eq) (keys_in gs e) ∙ d
    | inr e ↦ ap (differ bytes_eq) (keys_out gs e) ∙ differ_push (map (λ g. g.0) gs) t d e
  ]

  -- what holds of each group holds after a change that keeps it
  all_put : (P : List ℕ × List X → Type 0) (gs : List (List ℕ × List X)) → P (t, f []) → ((v : List X) → P (t, v) → P (t, f v)) → AllByRecursion P gs → AllByRecursion P (put_at f t gs)
  all_put P [] z s a = (z, tt)
  all_put P (g ∷ gs) z s a = elim (cases_Bool (bytes_eq t g.0)) [
    | inl e ↦
        let same : t ≡ g.0 = (bytes_eq-Decides t g.0).0 e in
        rw e (subst (λ x. P (x, f g.1)) same (s g.1 (subst (λ x. P (x, g.1)) (sym same) a.0)), a.1)
    | inr e ↦ rw e (a.0, all_put P gs z s a.1)
  ]

  -- there is a group then
  some_put : (gs : List (List ℕ × List X)) → 0 < length (put_at f t gs)
  some_put [] = omega arith
  some_put (g ∷ gs) = elim (cases_Bool (bytes_eq t g.0)) [ inl e ↦ rw e (omega arith) | inr e ↦ rw e (omega arith) ]

  -- changed

  -- the names are unchanged
  keys_changed : (gs : List (List ℕ × List X)) → map (λ g. g.0) (changed_at f t gs) ≡ map (λ g. g.0) gs
  keys_changed [] = refl
  keys_changed (g ∷ gs) = elim (cases_Bool (bytes_eq t g.0)) [ inl e ↦ rw e refl | inr e ↦ rw e (ap (λ ks. g.0 ∷ ks) (keys_changed gs)) ]

  -- what holds of each group holds after a change that keeps it
  all_changed : (P : List ℕ × List X → Type 0) (gs : List (List ℕ × List X)) → ((k : List ℕ) (v : List X) → P (k, v) → P (k, f v)) → AllByRecursion P gs → AllByRecursion P (changed_at f t gs)
  all_changed P [] s a = tt
  all_changed P (g ∷ gs) s a = elim (cases_Bool (bytes_eq t g.0)) [
    | inl e ↦ rw e (s g.0 g.1 a.0, a.1)
    | inr e ↦ rw e (a.0, all_changed P gs s a.1)
  ]

  -- groups that are there remain
  some_changed : (gs : List (List ℕ × List X)) → 0 < length gs → 0 < length (changed_at f t gs)
  some_changed [] h = h
  some_changed (g ∷ gs) h = elim (cases_Bool (bytes_eq t g.0)) [ inl e ↦ rw e (omega arith) | inr e ↦ rw e (omega arith) ]

-- a view of groups

module _ {X Y : Type 0} (see : List X → List Y) (Q : List ℕ × List Y → Type 0) (f : List X → List X) (t : List ℕ) where
  -- with the names of the groups
  viewed_parts : (gs : List (List ℕ × List X)) → AreViewed see Q gs → (differ bytes_eq (map (λ g. g.0) gs) ≡ true) × AllByRecursion (λ g. Q (g.0, see g.1)) gs
  viewed_parts gs a = (ap (differ bytes_eq) (sym (map-map (λ (g : List ℕ × List Y). g.0) (λ (g : List ℕ × List X). (g.0, see g.1)) gs)) ∙ a.0, all_from_map (λ (g : List ℕ × List X). (g.0, see g.1)) Q gs a.1)

  -- and back
  viewed_from : (gs : List (List ℕ × List X)) → differ bytes_eq (map (λ g. g.0) gs) ≡ true → AllByRecursion (λ g. Q (g.0, see g.1)) gs → AreViewed see Q gs
  viewed_from gs d a = (ap (differ bytes_eq) (map-map (λ (g : List ℕ × List Y). g.0) (λ (g : List ℕ × List X). (g.0, see g.1)) gs) ∙ d, all_to_map (λ (g : List ℕ × List X). (g.0, see g.1)) Q gs a)

  viewed_put : (gs : List (List ℕ × List X)) → Q (t, see (f [])) → ((v : List X) → Q (t, see v) → Q (t, see (f v))) → AreViewed see Q gs → AreViewed see Q (put_at f t gs)
  viewed_put gs z s a = let parts = viewed_parts gs a in viewed_from (put_at f t gs) (differ_put f t gs parts.0) (all_put f t (λ g. Q (g.0, see g.1)) gs z s parts.1)

  viewed_changed : (gs : List (List ℕ × List X)) → ((k : List ℕ) (v : List X) → Q (k, see v) → Q (k, see (f v))) → AreViewed see Q gs → AreViewed see Q (changed_at f t gs)
  viewed_changed gs s a = let parts = viewed_parts gs a in viewed_from (changed_at f t gs) (ap (differ bytes_eq) (keys_changed f t gs) ∙ parts.0) (all_changed f t (λ g. Q (g.0, see g.1)) gs s parts.1)

-- a path has rows, all of its domain and path
abbrev IsPath : List ℕ → List ℕ × List Row → Type 0
IsPath d p = (0 < length p.1) × AllByRecursion (HasDomainAndPath d p.0) p.1

-- a domain has paths
abbrev IsDomain : List ℕ × PathGroups → Type 0
IsDomain g = (0 < length g.1) × ArePaths g.0 g.1

-- as many groups
some_bare : (ps : ItemPaths) → 0 < length ps → 0 < length (bare_paths ps)
some_bare ps some = omega (arith, some, length-map {B = List ℕ × List Row} ps (λ p. (p.0, rows_of p.1)))

-- a row is stored

module _ (row : Row) (n : ℕ) where
  -- rows of one domain and path are such after one more
  names_put : (d p : List ℕ) (xs : List Item) → HasDomainAndPath d p row → AllByRecursion (HasDomainAndPath d p) (rows_of xs) → IsPath d (p, rows_of (put_item row n xs))
  names_put d p [] is a = (omega arith, (is, tt))
  names_put d p (x ∷ xs) is a = elim (cases_Bool (is_named row.raw.name x.row)) [
    | inl e ↦ rw e (omega arith, (is, a.1))
    | inr e ↦ rw e (omega arith, (a.0, (names_put d p xs is a.1).1))
  ]

  -- groups of a domain
  paths_put : (d : List ℕ) (ps : ItemPaths) → domain_text row.domain ≡ d → ArePaths d (bare_paths ps) → IsDomain (d, bare_paths (put_item_paths row n ps))
  paths_put d ps is a = (
    some_bare (put_item_paths row n ps) (some_put (put_item row n) row.path.text ps),
    viewed_put rows_of (IsPath d) (put_item row n) row.path.text ps (names_put d row.path.text [] (is, refl) tt) (λ v h. names_put d row.path.text v (is, refl) h.1) a,
  )

  -- all groups
  pub groups_put : (gs : ItemGroups) → AreGroups (bare gs) → AreGroups (bare (put_items row n gs))
  groups_put gs a =
      viewed_put bare_paths IsDomain (put_item_paths row n) (domain_text row.domain) gs (paths_put (domain_text row.domain) [] refl (refl, tt)) (λ v h. paths_put (domain_text row.domain) v refl h.1) a

-- a row is expired

module _ (key : Key) where
  -- rows of one domain and path still are after one is expired
  names_expired : (d p : List ℕ) (xs : List Item) → IsPath d (p, rows_of xs) → IsPath d (p, rows_of (expire_item key.name xs))
  names_expired d p xs a = (
    omega (arith, a.0, length-map xs (λ (x : Item). x.row), length-map (expire_item key.name xs) (λ (x : Item). x.row), same_length xs),
    still xs a.1,
  )
    where
      same_length : (xs : List Item) → length (expire_item key.name xs) ≡ length xs
      same_length [] = refl
      same_length (x ∷ xs) = elim (cases_Bool (is_named key.name x.row)) [ inl e ↦ rw e refl | inr e ↦ rw e (ap suc (same_length xs)) ]

      still : (xs : List Item) → AllByRecursion (HasDomainAndPath d p) (rows_of xs) → AllByRecursion (HasDomainAndPath d p) (rows_of (expire_item key.name xs))
      still [] a = tt
      still (x ∷ xs) a = elim (cases_Bool (is_named key.name x.row)) [
        | inl e ↦ rw e (a.0, a.1)
        | inr e ↦ rw e (a.0, still xs a.1)
      ]

  -- all groups
  pub groups_expired : (gs : ItemGroups) → AreGroups (bare gs) → AreGroups (bare (expire_items key gs))
  groups_expired gs a =
      viewed_changed bare_paths IsDomain (expire_item_paths key.path key.name) key.domain gs
      (λ d ps h. (
        some_bare (expire_item_paths key.path key.name ps) (some_changed (expire_item key.name) key.path ps (some_paths ps h.0)),
        viewed_changed rows_of (IsPath d) (expire_item key.name) key.path ps (λ p xs of. names_expired d p xs of) h.1,
      )) a
