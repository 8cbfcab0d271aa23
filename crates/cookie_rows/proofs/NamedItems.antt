-- A list of items, one for each name.
use Rattle.std.proofs.Common.{◌≡◌, ℕ, true, false, List, [], ◌∷◌, ◌++◌, get_or, set, Some, None, refl, sym, ap, subst, ◌∙◌, inl, inr, bytes_eq, append_assoc, arith}
use Rattle.std.specs.Prelude.{option_map, string_bytes, String}
use Rattle.std.specs.List.{list_any, find, position}
use Rattle.std.specs.Map.{lookup, values_of}
use Rattle.std.proofs.lemmas.Bool.{cases_Bool}
use Rattle.std.proofs.lemmas.Bool.Decides.{nat_tests}
use Rattle.std.proofs.lemmas.List.{map-append}
use Rattle.std.proofs.lemmas.Slice.Eq.{bytes_eq-Decides}
use Rattle.cookie_parts.specs.Cookie.{Row}
use Rattle.cookie_laws.specs.Rows.{changed}
use Rattle.cookie_rows.specs.GroupChanges.{row_named}
use Rattle.cookie_rows.specs.Items.{AreNamed, Item, expire_item, is_item_named, put_item, remove_item, rows_of}
use Rattle.cookie_rows.specs.NameMaps.{names_differ, names_in}
use Rattle.cookie_rows.proofs.Named.{at_text, none_named}
use Rattle.cookie_rows.proofs.Positions.{changed_there, found_at, none_found, passes}
use Rattle.cookie_rows.proofs.StoredThenEvicted.{put_last}

-- the row of a name is that of the item of the name
row_found : (q : List ℕ) (items : List Item) → option_map (λ (x : Item). x.row) (find (is_item_named q) items) ≡ row_named q (rows_of items)
row_found q [] = refl
row_found q (x ∷ xs) = elim (cases_Bool (is_item_named q x)) [
  | inl t ↦ rw t refl
  | inr f ↦ rw f (row_found q xs)
]

-- which is at the position of the name
pub row_at : (q : List ℕ) (items : List Item) (at : ℕ) (d : Item) → position (is_item_named q) items ≡ Some at → row_named q (rows_of items) ≡ Some (get_or items at d).row
row_at q items at d is = sym (row_found q items) ∙ ap (option_map (λ (x : Item). x.row)) (found_at (is_item_named q) items at d is)

-- without a position there is none
pub no_row : (q : List ℕ) (items : List Item) → position (is_item_named q) items ≡ None → row_named q (rows_of items) ≡ None
no_row q items is = sym (row_found q items) ∙ ap (option_map (λ (x : Item). x.row)) (none_found (is_item_named q) items is)

-- a row of a stored name replaces that row
put_changed : (w : Row) (n : ℕ) (items : List Item) → list_any (is_item_named w.raw.name) items ≡ true
    → changed (is_item_named w.raw.name) (λ item. record item { row = w }) items ≡ put_item w n items
put_changed w n [] some = absurd (cc)
put_changed w n (x ∷ xs) some = elim (cases_Bool (is_item_named w.raw.name x)) [
  | inl t ↦ rw t refl
  | inr f ↦ let some' = rw f at some in rw f (ap (λ rest. x ∷ rest) (put_changed w n xs some'))
]

-- at the position of its name
pub put_there : (w : Row) (n : ℕ) (items : List Item) (at : ℕ) (d : Item) → position (is_item_named w.raw.name) items ≡ Some at
    → set items at (record (get_or items at d) { row = w }) ≡ put_item w n items
put_there w n items at d is =
    changed_there (is_item_named w.raw.name) (λ item. record item { row = w }) items at d is
    ∙ put_changed w n items (passes (is_item_named w.raw.name) items at is)

-- a replacement changes no name
pub names_put : (w : Row) (n : ℕ) (items : List Item) → list_any (is_item_named w.raw.name) items ≡ true → names_in (put_item w n items) ≡ names_in items
names_put w n [] some = absurd (cc)
names_put w n (x ∷ xs) some = elim (cases_Bool (is_item_named w.raw.name x)) [
  | inl t ↦ rw t (ap (λ q. q ∷ names_in xs) ((bytes_eq-Decides w.raw.name x.row.raw.name).0 t))
  | inr f ↦ let some' = rw f at some in rw f (ap (λ rest. x.row.raw.name ∷ rest) (names_put w n xs some'))
]

-- a row expired has its name
pub names_expired : (q : List ℕ) (items : List Item) → names_in (expire_item q items) ≡ names_in items
names_expired q [] = refl
names_expired q (x ∷ xs) = elim (cases_Bool (is_item_named q x)) [
  | inl t ↦ rw t refl
  | inr f ↦ rw f (ap (λ rest. x.row.raw.name ∷ rest) (names_expired q xs))
]

-- a name that differs from all differs from those that are left
absent_removed : (t q : List ℕ) (items : List Item) → list_any (bytes_eq t) (names_in items) ≡ false → list_any (bytes_eq t) (names_in (remove_item q items)) ≡ false
absent_removed t q [] none = refl
absent_removed t q (x ∷ xs) none = grind (arith, nat_tests, none, absent_removed t q xs)

-- so names still differ
pub differ_removed : (q : List ℕ) (items : List Item) → names_differ items ≡ true → names_differ (remove_item q items) ≡ true
differ_removed q [] d = refl
differ_removed q (x ∷ xs) d = grind (arith, nat_tests, d, absent_removed x.row.raw.name q xs, differ_removed q xs)

-- and with a new one at the end
absent_before : (t : List ℕ) (items : List Item) (y : Item) → bytes_eq t y.row.raw.name ≡ false → list_any (bytes_eq t) (names_in items) ≡ false
    → list_any (bytes_eq t) (names_in (items ++ y ∷ [])) ≡ false
absent_before t [] y other none = grind (arith, nat_tests, other)
absent_before t (x ∷ xs) y other none = grind (arith, nat_tests, other, none, absent_before t xs y other)

pub differ_last : (items : List Item) (y : Item) → row_named y.row.raw.name (rows_of items) ≡ None → names_differ items ≡ true → names_differ (items ++ y ∷ []) ≡ true
differ_last [] y new d = grind (arith, nat_tests)
differ_last (x ∷ xs) y new d = elim (cases_Bool (is_item_named y.row.raw.name x)) [
  | inl t ↦ let new' = rw t at new in absurd (cc)
  | inr f ↦ let new' = rw f at new in
      let flip : bytes_eq x.row.raw.name y.row.raw.name ≡ false = grind (arith, nat_tests, f, bytes_eq-Decides x.row.raw.name y.row.raw.name, bytes_eq-Decides y.row.raw.name x.row.raw.name) in
      grind (arith, nat_tests, d, flip, absent_before x.row.raw.name xs y flip, differ_last xs y new')
]

-- a name that differs from all differs from one of them
not_there : (t : List ℕ) (xs ys : List Item) (y : Item) → list_any (bytes_eq t) (names_in (xs ++ y ∷ ys)) ≡ false → bytes_eq t y.row.raw.name ≡ false
not_there t [] ys y none = grind (arith, nat_tests, none)
not_there t (x ∷ xs) ys y none =
    let rest : list_any (bytes_eq t) (names_in (xs ++ y ∷ ys)) ≡ false = grind (arith, nat_tests, none) in
    not_there t xs ys y rest

-- so no row before a row has its name
absent_ahead : (xs ys : List Item) (y : Item) → names_differ (xs ++ y ∷ ys) ≡ true → row_named y.row.raw.name (rows_of xs) ≡ None
absent_ahead [] ys y d = refl
absent_ahead (x ∷ xs) ys y d =
    let none : list_any (bytes_eq x.row.raw.name) (names_in (xs ++ y ∷ ys)) ≡ false = grind (arith, nat_tests, d) in
    let rest : names_differ (xs ++ y ∷ ys) ≡ true = grind (arith, nat_tests, d) in
    let other : bytes_eq x.row.raw.name y.row.raw.name ≡ false = not_there x.row.raw.name xs ys y none in
    let flip : bytes_eq y.row.raw.name x.row.raw.name ≡ false =
    grind (arith, nat_tests, other, bytes_eq-Decides x.row.raw.name y.row.raw.name, bytes_eq-Decides y.row.raw.name x.row.raw.name) in
    rw flip (absent_ahead xs ys y rest)

-- a new row is put last in a map under its name
pub put_push : {A : Type 0} (k : String A) (x : Item) (es : List (String A × Item)) → row_named x.row.raw.name (rows_of (values_of es)) ≡ None
    → values_of (es ++ (k, x) ∷ []) ≡ put_item x.row x.number (values_of es)
put_push k x es none = map-append (λ e. e.1) es ((k, x) ∷ []) ∙ sym (put_last x.row x.number (values_of es) none)

-- the next row

module _ {A : Type 0} (es : List (String A × Item)) (left all : List Item) (x : Item) (k : String A) (named : AreNamed es)
    (key : string_bytes k ≡ x.row.raw.name) (whole : values_of es ++ x ∷ left ≡ all) (d : names_differ all ≡ true) where
  -- no row before it has its name
  pub next_new : lookup (at_text (string_bytes k)) es ≡ None
  next_new =
      let none = absent_ahead (values_of es) left x (subst (λ items. names_differ items ≡ true) (sym whole) d) in
      sym (none_named (string_bytes k) es named (ap (λ t. row_named t (rows_of (values_of es))) key ∙ none))

  -- it and the rows after it are those that were left
  pub next_rows : values_of (es ++ (k, x) ∷ []) ++ left ≡ all
  next_rows = ap (λ items. items ++ left) (map-append (λ e. e.1) es ((k, x) ∷ [])) ∙ append_assoc (values_of es) (x ∷ []) left ∙ whole
