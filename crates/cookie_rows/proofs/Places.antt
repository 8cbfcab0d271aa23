-- The position of a name's group in a map.
use Rattle.std.proofs.Common.{◌≡◌, ℕ, zero, suc, ◌+◌, List, [], ◌∷◌, length, map, refl, sym, ◌∙◌, ap, inl, inr, bytes_eq, Option, Some, None, arith}
use Rattle.std.specs.Prelude.{string_bytes, String, option_map, position}
use Rattle.std.specs.List.{position_from}
use Rattle.std.specs.Map.{keys_of}
use Rattle.std.proofs.lemmas.Bool.{cases_Bool}
use Rattle.std.proofs.lemmas.Iterator.Adapters.{position_from-zero}
use Rattle.cookie_parts.specs.Cookie.{Row}
use Rattle.cookie_lookup.specs.SearchView.{group_position, under}
use Rattle.cookie_rows.specs.GroupChanges.{texts_of}
use Rattle.cookie_rows.specs.Items.{Item, ItemGroups, bare, rows_of}

shift_one : (n : ℕ) (o : Option ℕ) → option_map (λ p. n + 1 + p) o ≡ option_map (λ p. n + p) (option_map suc o)
shift_one n None = refl
shift_one n (Some p) = let e : n + 1 + p ≡ n + suc p = omega arith in ap Some e

shift_none : (o : Option ℕ) → option_map (λ p. 0 + p) o ≡ o
shift_none None = refl
shift_none (Some p) = let e : 0 + p ≡ p = omega arith in ap Some e

module _ {A X : Type 0} (q : List ℕ) where
  shifted : (n : ℕ) (es : List (String A × X)) → position_from (λ k. bytes_eq q (string_bytes k)) n (keys_of es) ≡ option_map (λ p. n + p) (group_position q (texts_of es))
  shifted n [] = refl
  shifted n (e ∷ es) = elim (cases_Bool (bytes_eq q (string_bytes e.0))) [
    | inl t ↦ let z : n ≡ n + 0 = omega arith in rw t (ap Some z)
    | inr t ↦ rw t (shifted (n + 1) es ∙ shift_one n (group_position q (texts_of es)))
  ]

  pub place_is : (es : List (String A × X)) → position (λ k. bytes_eq q (string_bytes k)) (keys_of es) ≡ group_position q (texts_of es)
  place_is es = position_from-zero (λ k. bytes_eq q (string_bytes k)) (keys_of es) ∙ shifted 0 es ∙ shift_none (group_position q (texts_of es))

-- groups of items, seen as groups of rows

-- the position of a name in the view of groups
pub viewed_place : {A B : Type 0} (see : A → B) (text : List ℕ) (gs : List (List ℕ × A)) → group_position text gs ≡ group_position text (map (λ g. (g.0, see g.1)) gs)
viewed_place see text [] = refl
viewed_place see text (g ∷ gs) = elim (cases_Bool (bytes_eq text g.0)) [
  | inl t ↦ rw t refl
  | inr t ↦ rw t (ap (option_map suc) (viewed_place see text gs))
]

-- the group at a position in it
viewed_under : {A B : Type 0} (see : A → B) (n : ℕ) (gs : List (List ℕ × List A)) → map see (under n gs) ≡ under n (map (λ g. (g.0, map see g.1)) gs)
viewed_under see n [] = refl
viewed_under see zero (g ∷ gs) = refl
viewed_under see (suc n) (g ∷ gs) = viewed_under see n gs

-- the place of a path in a domain
pub bare_place : (text : List ℕ) (d : ℕ) (gs : ItemGroups) → group_position text (under d gs) ≡ group_position text (under d (bare gs))
bare_place text d gs = viewed_place rows_of text (under d gs) ∙ ap (group_position text) (viewed_under (λ (p : List ℕ × List Item). (p.0, rows_of p.1)) d gs)

-- the rows under a path in a domain
pub bare_rows : (d p : ℕ) (gs : ItemGroups) → rows_of (under p (under d gs)) ≡ under p (under d (bare gs))
bare_rows d p gs = viewed_under (λ (item : Item). item.row) p (under d gs) ∙ ap (under p) (viewed_under (λ (p : List ℕ × List Item). (p.0, rows_of p.1)) d gs)

-- the paths of a domain
pub bare_texts : (d : ℕ) (gs : ItemGroups) → map (λ p. p.0) (under d gs) ≡ map (λ p. p.0) (under d (bare gs))
bare_texts d gs = firsts (under d gs) ∙ ap (map (λ p. p.0)) (viewed_under (λ (p : List ℕ × List Item). (p.0, rows_of p.1)) d gs)
  where
    firsts : (ps : List (List ℕ × List Item)) → map (λ p. p.0) ps ≡ map (λ (p : List ℕ × List Row). p.0) (map (λ (p : List ℕ × List Item). (p.0, rows_of p.1)) ps)
    firsts [] = refl
    firsts (p ∷ ps) = ap (λ ts. p.0 ∷ ts) (firsts ps)

pub bare_count : (d : ℕ) (gs : ItemGroups) → length (under d gs) ≡ length (under d (bare gs))
bare_count d gs = sym (texts_count (under d gs)) ∙ ap length (bare_texts d gs) ∙ texts_count (under d (bare gs))
  where
    texts_count : {X : Type 0} (ps : List (List ℕ × X)) → length (map (λ p. p.0) ps) ≡ length ps
    texts_count [] = refl
    texts_count (p ∷ ps) = ap suc (texts_count ps)

-- and the domains
pub bare_domains : (gs : ItemGroups) → map (λ g. g.0) gs ≡ map (λ g. g.0) (bare gs)
bare_domains [] = refl
bare_domains (g ∷ gs) = ap (λ ts. g.0 ∷ ts) (bare_domains gs)
