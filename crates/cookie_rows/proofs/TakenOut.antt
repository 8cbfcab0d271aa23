-- A row is taken out of a group, at its position.
use Rattle.std.proofs.Common.{◌≡◌, ◌==◌, ℕ, zero, suc, Bool, true, false, List, [], ◌∷◌, ◌++◌, length, map, slice_get, Option, Some, None, refl, sym, ap, ◌∙◌, subst, inl, inr, bytes_eq, arith}
use Rattle.std.specs.Prelude.{option_map, string_bytes, String}
use Rattle.std.specs.String.{string_eq}
use Rattle.std.specs.List.{AllByRecursion, IsDistinct, remove}
use Rattle.std.specs.Map.{lookup, remove_entry, set_value, values_of}
use Rattle.std.specs.Option.{unwrap_or}
use Rattle.std.proofs.lemmas.Bool.{cases_Bool}
use Rattle.std.proofs.lemmas.Bool.Decides.{nat_tests}
use Rattle.std.proofs.lemmas.Map.Keys.{IsDistinct-head, IsDistinct-tail}
use Rattle.std.proofs.lemmas.Slice.Eq.{bytes_eq-Decides}
use Rattle.ordered_map.specs.Entries.{HasDistinctKeys, Ordered, entries, in_order, text_at}
use Rattle.ordered_map.proofs.ByPlace.{lookup_in_order}
use Rattle.cookie_laws.specs.Rows.{removed}
use Rattle.cookie_rows.specs.GroupChanges.{is_empty_at, texts_by, unless_empty}
use Rattle.cookie_rows.specs.Items.{Item, ItemPaths}
use Rattle.cookie_rows.specs.Least.{RemovesAt, TakesAt, TakesOut, stored_at}
use Rattle.cookie_rows.specs.Stored.{StoredItems}
use Rattle.cookie_rows.proofs.Maps.{at_text, none_kept, some_kept}

-- of a list
pub taken_there : (xs : List Item) (at : ℕ) (item : Item) → slice_get xs at ≡ Some item → TakesOut item xs (remove xs at)
taken_there [] at item there = absurd (cc)
taken_there (x ∷ xs) zero item there = let same : x ≡ item = cc in ([], xs, ap (λ y. y ∷ xs) same, refl)
taken_there (x ∷ xs) (suc at) item there =
    let rest = taken_there xs at item there in
    (x ∷ rest.0, rest.1, ap (λ ys. x ∷ ys) rest.2, ap (λ ys. x ∷ ys) rest.3)

-- what an option has
pub some_other : {T A B : Type 0} (f : T → A) (g : T → B) (o : Option T) (a : A) → option_map f o ≡ Some a → (b : B) × (option_map g o ≡ Some b)
some_other f g None a is = absurd (cc)
some_other f g (Some x) a is = (g x, refl)

pub none_other : {T A B : Type 0} (f : T → A) (g : T → B) (o : Option T) (a : A) → None ≡ option_map g o → option_map f o ≡ Some a → ⊥
none_other f g None a none is = absurd (cc)
none_other f g (Some x) a none is = absurd (cc)

module _ {A V : Type 0} where
  -- the key of the entry at a position, or nothing
  abbrev key_there : List (ℕ × (String A × V)) → ℕ → List ℕ
  key_there ps at = unwrap_or (option_map (λ p. string_bytes p.1.0) (slice_get ps at)) []

  -- it differs from one from which all keys differ
  other_key : (k : String A) (ps : List (ℕ × (String A × V))) (at : ℕ) (v : V) → AllByRecursion (λ y. string_eq k y ≡ false) (map (λ p. p.1.0) ps)
      → Some v ≡ option_map (λ p. p.1.1) (slice_get ps at) → bytes_eq (string_bytes k) (key_there ps at) ≡ false
  other_key k [] at v a there = absurd (cc)
  other_key k (p ∷ ps) zero v a there = a.0
  other_key k (p ∷ ps) (suc at) v a there = other_key k ps at v a.1 there

  -- the value at a position is that of its key
  value_there : (ps : List (ℕ × (String A × V))) (at : ℕ) (v : V) → IsDistinct string_eq (map (λ p. p.1.0) ps)
      → Some v ≡ option_map (λ p. p.1.1) (slice_get ps at) → lookup (at_text (key_there ps at)) (map (λ p. p.1) ps) ≡ Some v
  value_there [] at v d there = absurd (cc)
  value_there (p ∷ ps) zero v d there =
      let here : bytes_eq (string_bytes p.1.0) (string_bytes p.1.0) ≡ true = (bytes_eq-Decides (string_bytes p.1.0) (string_bytes p.1.0)).1 refl in
      rw here (sym there)
  value_there (p ∷ ps) (suc at) v d there =
      let key = key_there ps at in
      let other = other_key p.1.0 ps at v (IsDistinct-head string_eq p.1.0 (map (λ q. q.1.0) ps) d) there in
      let flip : bytes_eq key (string_bytes p.1.0) ≡ false = grind (arith, nat_tests, other, bytes_eq-Decides (string_bytes p.1.0) key, bytes_eq-Decides key (string_bytes p.1.0)) in
      rw flip (value_there ps at v (IsDistinct-tail string_eq p.1.0 (map (λ q. q.1.0) ps) d) there)

  -- the keys by position
  keys_there : (ps : List (ℕ × (String A × V))) (at : ℕ) → option_map (λ p. string_bytes p.1.0) (slice_get ps at) ≡ slice_get (map (λ e. string_bytes e.0) (map (λ p. p.1) ps)) at
  keys_there [] at = refl
  keys_there (p ∷ ps) zero = refl
  keys_there (p ∷ ps) (suc at) = keys_there ps at

  -- a value that is written changes no key
  same_keys : (test : String A → Bool) (es : List (String A × V)) (w : V) → map (λ e. string_bytes e.0) (set_value test es w) ≡ map (λ e. string_bytes e.0) es
  same_keys test [] w = refl
  same_keys test (e ∷ es) w = elim (cases_Bool (test e.0)) [
    | inl t ↦ rw t refl
    | inr t ↦ rw t (ap (λ ks. string_bytes e.0 ∷ ks) (same_keys test es w))
  ]

  pub key_stays : (ps qs : List (ℕ × (String A × V))) (test : String A → Bool) (w : V) (at : ℕ) → map (λ p. p.1) qs ≡ set_value test (map (λ p. p.1) ps) w
      → option_map (λ p. string_bytes p.1.0) (slice_get qs at) ≡ option_map (λ p. string_bytes p.1.0) (slice_get ps at)
  key_stays ps qs test w at is =
      keys_there qs at ∙ ap (λ es. slice_get (map (λ e. string_bytes e.0) es) at) is ∙ ap (λ ks. slice_get ks at) (same_keys test (map (λ p. p.1) ps) w) ∙ sym (keys_there ps at)

-- in a map whose keys differ
pub found_there : {V S : Type 0} (m : Ordered V S) → HasDistinctKeys m → (at : ℕ) (v : V) → Some v ≡ option_map (λ p. p.1.1) (slice_get m.by_position at)
    → Some v ≡ lookup (at_text (text_at m at)) (entries m)
found_there m distinct at v there = sym (lookup_in_order m.by_position distinct.by_position (text_at m at) ∙ value_there m.by_position at v distinct.by_position there)

-- of a map of rows
pub taken_entry : {A : Type 0} (q : List ℕ) (es : List (String A × Item)) (item : Item) → Some item ≡ lookup (at_text q) es
    → TakesOut item (values_of es) (values_of (remove_entry (at_text q) es))
taken_entry q [] item l = absurd (cc)
taken_entry q (e ∷ es) item l = elim (cases_Bool (at_text q e.0)) [
  | inl t ↦ let l' = rw t at l in let same : e.1 ≡ item = cc in rw t ([], values_of es, ap (λ x. x ∷ values_of es) same, refl)
  | inr t ↦ let l' = rw t at l in let rest = taken_entry q es item l' in rw t (e.1 ∷ rest.0, rest.1, ap (λ ys. e.1 ∷ ys) rest.2, ap (λ ys. e.1 ∷ ys) rest.3)
]

-- of a group in a map, where `g` is what a value of the map has in order
pub taken_in : {A V : Type 0} (g : V → List Item) (q : List ℕ) (es : List (String A × V)) (v w : V) (item : Item) → Some v ≡ lookup (at_text q) es
    → TakesOut item (g v) (g w) → TakesAt q item (texts_by g es) (texts_by g (set_value (at_text q) es w))
taken_in g q [] v w item l takes = absurd (cc)
taken_in g q (e ∷ es) v w item l takes = elim (cases_Bool (at_text q e.0)) [
  | inl t ↦
      let l' = rw t at l in
      let same : e.1 ≡ v = cc in
      let text : string_bytes e.0 ≡ q = sym ((bytes_eq-Decides q (string_bytes e.0)).0 t) in
      rw t ([], texts_by g es, g v, g w, tt, takes, (λ i. (text i, g (same i)) ∷ texts_by g es), (λ i. (text i, g w) ∷ texts_by g es))
  | inr t ↦
      let l' = rw t at l in
      let rest = taken_in g q es v w item l' takes in
      let first : List ℕ × List Item = (string_bytes e.0, g e.1) in
      rw t (first ∷ rest.0, rest.1, rest.2, rest.3, (t, rest.4), rest.5, ap (λ gs. first ∷ gs) rest.6, ap (λ gs. first ∷ gs) rest.7)
]

module _ (q : List ℕ) (items : List Item) (back : ItemPaths) where
  -- after groups of other paths
  abbrev Others : ItemPaths → Type 0
  Others front = AllByRecursion (λ g. bytes_eq q g.0 ≡ false) front

  here : bytes_eq q q ≡ true
  here = (bytes_eq-Decides q q).1 refl

  empty_there : (front : ItemPaths) → Others front → is_empty_at q (front ++ (q, items) ∷ back) ≡ (length items == 0)
  empty_there [] a = rw here refl
  empty_there (g ∷ front) a = rw a.0 (empty_there front a.1)

  removed_there : (front : ItemPaths) → Others front → removed (λ g. bytes_eq q g.0) (front ++ (q, items) ∷ back) ≡ front ++ back
  removed_there [] a = rw here refl
  removed_there (g ∷ front) a = rw a.0 (ap (λ gs. g ∷ gs) (removed_there front a.1))

module _ (q : List ℕ) (item : Item) (old new : ItemPaths) (takes : TakesAt q item old new) where
  -- there are other rows in the group
  pub group_left : is_empty_at q new ≡ false → RemovesAt item old new
  group_left some =
      let left : (length takes.3 == 0) ≡ false = sym (empty_there q takes.3 takes.1 takes.0 takes.4) ∙ ap (is_empty_at q) (sym takes.7) ∙ some in
      (q, takes.0, takes.1, takes.2, takes.3, takes.5, takes.6, takes.7 ∙ ap (λ gs. takes.0 ++ gs) (some_kept q takes.3 takes.1 left))

  -- there are none, and the group is removed
  pub group_gone : is_empty_at q new ≡ true → RemovesAt item old (removed (λ g. bytes_eq q g.0) new)
  group_gone empty =
      let none : (length takes.3 == 0) ≡ true = sym (empty_there q takes.3 takes.1 takes.0 takes.4) ∙ ap (is_empty_at q) (sym takes.7) ∙ empty in (
        q,
        takes.0,
        takes.1,
        takes.2,
        takes.3,
        takes.5,
        takes.6,
        ap (removed (λ g. bytes_eq q g.0)) takes.7 ∙ removed_there q takes.3 takes.1 takes.0 takes.4 ∙ ap (λ gs. takes.0 ++ gs) (none_kept q takes.3 takes.1 none),
      )

-- by the path of a position, where the groups after that are known
pub takes_there : (item : Item) (old : ItemPaths) {q text : List ℕ} {mid new : ItemPaths} → q ≡ text → new ≡ mid → TakesAt q item old mid → TakesAt text item old new
takes_there item old {q} {text} {mid} {new} key same takes = subst (λ t. TakesAt t item old new) key (subst (TakesAt q item old) (sym same) takes)

-- the row at a position of a map

module _ (row : ℕ) (text : List ℕ) (item : Item) where
  -- the row in the group
  pub in_group : (own : List ℕ) (group : StoredItems) → option_map {U = List ℕ × Item} (λ i. (own, i)) (slice_get (map (λ i. i.1) group) row) ≡ Some (text, item)
      → (own ≡ text) × (slice_get (map (λ i. i.1) group) row ≡ Some item)
  in_group own group is = from (slice_get (map (λ i. i.1) group) row) is
    where
      from : (o : Option Item) → option_map {U = List ℕ × Item} (λ i. (own, i)) o ≡ Some (text, item) → (own ≡ text) × (o ≡ Some item)
      from None is = absurd (cc)
      from (Some i) is = let pair : ◌≡◌ {A = List ℕ × Item} (own, i) (text, item) = cc in (ap (λ p. p.0) pair, ap (λ p. Some p.1) pair)

  -- its path
  pub stored_path : {A : Type 0} (ps : List (ℕ × (String A × StoredItems))) (at : ℕ) → stored_at (map (λ e. (e.0, (string_bytes e.1.0, e.1.1))) ps) at row ≡ Some (text, item)
      → option_map (λ p. string_bytes p.1.0) (slice_get ps at) ≡ Some text
  stored_path [] at is = absurd (cc)
  stored_path (p ∷ ps) zero is = ap Some (in_group (string_bytes p.1.0) p.1.1 is).0
  stored_path (p ∷ ps) (suc at) is = stored_path ps at is

  -- the row in its group
  pub stored_row : {A : Type 0} (ps : List (ℕ × (String A × StoredItems))) (at : ℕ) (group : StoredItems) → stored_at (map (λ e. (e.0, (string_bytes e.1.0, e.1.1))) ps) at row ≡ Some (text, item)
      → Some group ≡ option_map (λ p. p.1.1) (slice_get ps at) → slice_get (map (λ i. i.1) group) row ≡ Some item
  stored_row [] at group is there = absurd (cc)
  stored_row (p ∷ ps) zero group is there = let same : group ≡ p.1.1 = cc in ap (λ (g : StoredItems). slice_get (map (λ i. i.1) g) row) same ∙ (in_group (string_bytes p.1.0) p.1.1 is).1
  stored_row (p ∷ ps) (suc at) group is there = stored_row ps at group is there

-- a row is taken out of a single group, which is dropped if it was the last row there
pub single_taken : (own : List ℕ) (old new : StoredItems) (path row : ℕ) (text : List ℕ) (item : Item) → path ≡ 0 → stored_at ((0, (own, old)) ∷ []) path row ≡ Some (text, item)
    → ((x : Item) → slice_get (map (λ i. i.1) old) row ≡ Some x → TakesOut x (in_order old) (in_order new))
    → RemovesAt item ((own, in_order old) ∷ []) (unless_empty own (in_order new) [])
single_taken own old new path row text item first there takes =
    let found = in_group row text item own old (subst (λ p. stored_at ((0, (own, old)) ∷ []) p row ≡ Some (text, item)) first there) in
    (own, [], [], in_order old, in_order new, takes item found.1, refl, refl)
