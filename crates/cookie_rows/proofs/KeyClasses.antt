-- The classes of keys: keys in eviction order are in the order of their classes.
use Rattle.std.proofs.Common.{◌≡◌, ℕ, ◌+◌, ◌-◌, ◌<◌, ◌≤◌, Bool, true, false, not, ◌&&◌, List, [], ◌++◌, filter, length, map, take, max, refl, sym, ◌∙◌, ap, inl, inr, append-nil, arith, Option, Some, None}
use Rattle.std.specs.Prelude.{nat_eq, if◌then◌else◌}
use Rattle.std.proofs.lemmas.Bool.{cases_Bool, leb-false, lt-leb}
use Rattle.std.proofs.lemmas.List.{length-map, map-append}
use Rattle.std.proofs.lemmas.List.Sorted.{length_permutation}
use Rattle.cookie_words.specs.Moments.{Moment}
use Rattle.cookie_parts.specs.Cookie.{Row, is_expired, is_secure_only}
use Rattle.cookie_parts.specs.Hosts.{passes}
use Rattle.cookie_laws.specs.Contents.{contents_of, eviction_order}
use Rattle.cookie_laws.specs.Rows.{Key, RowsInOrder, is_unexpired, key_of, row_of, same_domain}
use Rattle.cookie_laws.specs.SecureLast.{is_secure_key, secure_last_order}
use Rattle.cookie_rows.specs.Eviction.{HasRoom, class_of, evicted_in}
use Rattle.cookie_rows.specs.Items.{by_number}
use Rattle.cookie_rows.specs.declared.eviction_order.EvictionOrder.{EvictionOrder}
use Rattle.cookie_rows.specs.declared.eviction_order.EvictionOrder.TheVariants.{ExpiredFirst, SecureLast}
use Rattle.cookie_rows.proofs.All.{all_any}
use Rattle.cookie_rows.proofs.Eviction.{SplitsAround, all_in_front, by_class, classes_moved, in_class, last_class_behind}
use Rattle.cookie_rows.proofs.FilteredGroups.{map-filter}
use Rattle.cookie_rows.proofs.Keyed.{filter_none}

-- the class of a row, if there is one

-- a key without a row has class 1
abbrev pub class_in : EvictionOrder → Moment → Option Row → ℕ
class_in order now None = 1
class_in order now (Some row) = class_of order now row

-- what holds in each case of two tests
by_tests : (P : Bool → Bool → Type 0) → P true true → P true false → P false true → P false false → (a b : Bool) → P a b
by_tests P tt tf ft ff true true = tt
by_tests P tt tf ft ff true false = tf
by_tests P tt tf ft ff false true = ft
by_tests P tt tf ft ff false false = ff

-- it is 0 if there is one that has expired
class_0 : (order : EvictionOrder) (now : Moment) (row : Option Row) → passes (is_expired now) row ≡ nat_eq (class_in order now row) 0
class_0 order now None = refl
class_0 ExpiredFirst now (Some row) = by_tests (λ past secure. past ≡ nat_eq (if past then 0 else 1) 0) refl refl refl refl (is_expired now row) true
class_0 SecureLast now (Some row) = by_tests (λ past secure. past ≡ nat_eq (if past then 0 else (if secure then 2 else 1)) 0) refl refl refl refl (is_expired now row) (is_secure_only row.raw)

-- else it is 1
class_1 : (now : Moment) (row : Option Row) → not (passes (is_expired now) row) ≡ nat_eq (class_in ExpiredFirst now row) 1
class_1 now None = refl
class_1 now (Some row) = by_tests (λ past secure. not past ≡ nat_eq (if past then 0 else 1) 1) refl refl refl refl (is_expired now row) true

-- and never 2
not_class_2 : (now : Moment) (row : Option Row) → nat_eq (class_in ExpiredFirst now row) 2 ≡ false
not_class_2 now None = refl
not_class_2 now (Some row) = by_tests (λ past secure. nat_eq (if past then 0 else 1) 2 ≡ false) refl refl refl refl (is_expired now row) true

-- if Secure rows are last, theirs is 2
class_2 : (now : Moment) (row : Option Row) → passes (λ r. is_unexpired now r && is_secure_only r.raw) row ≡ nat_eq (class_in SecureLast now row) 2
class_2 now None = refl
class_2 now (Some row) =
    by_tests (λ past secure. (not past && secure) ≡ nat_eq (if past then 0 else (if secure then 2 else 1)) 2) refl refl refl refl (is_expired now row) (is_secure_only row.raw)

-- and that of the others 1
plain_class_1 : (now : Moment) (row : Option Row) → (not (passes (is_expired now) row) && not (passes (λ r. is_unexpired now r && is_secure_only r.raw) row)) ≡ nat_eq (class_in SecureLast now row) 1
plain_class_1 now None = refl
plain_class_1 now (Some row) =
    by_tests (λ past secure. (not past && not (not past && secure)) ≡ nat_eq (if past then 0 else (if secure then 2 else 1)) 1) refl refl refl refl (is_expired now row) (is_secure_only row.raw)

-- there is no class above 1
at_most_1 : (now : Moment) (row : Option Row) → class_in ExpiredFirst now row ≤ 1
at_most_1 now None = omega arith
at_most_1 now (Some row) = by_tests (λ past secure. (if past then 0 else 1) ≤ 1) (omega arith) (omega arith) (omega arith) (omega arith) (is_expired now row) true

-- nor above 2
pub at_most_2 : (order : EvictionOrder) (now : Moment) (row : Option Row) → class_in order now row ≤ 2
at_most_2 order now None = omega arith
at_most_2 ExpiredFirst now (Some row) = omega (arith, at_most_1 now (Some row))
at_most_2 SecureLast now (Some row) =
    by_tests (λ past secure. (if past then 0 else (if secure then 2 else 1)) ≤ 2) (omega arith) (omega arith) (omega arith) (omega arith) (is_expired now row) (is_secure_only row.raw)

-- keys by the classes of their rows

-- the class of the key's row
abbrev pub key_class : EvictionOrder → Moment → List Row → Key → ℕ
key_class order now rows key = class_in order now (row_of key rows)

-- keys in eviction order
abbrev pub in_order : EvictionOrder → Moment → List Row → List Key → List Key
in_order ExpiredFirst now rows keys = eviction_order now rows keys
in_order SecureLast now rows keys = secure_last_order now rows keys

-- that is the order of their classes
pub in_order_is : (order : EvictionOrder) (now : Moment) (rows : List Row) (keys : List Key) → in_order order now rows keys ≡ by_class (key_class order now rows) keys
in_order_is ExpiredFirst now rows keys =
    let low : List Key = eviction_order now rows keys in
    let none = filter_none (λ key. nat_eq (key_class ExpiredFirst now rows key) 2) keys (all_any (λ key. nat_eq (key_class ExpiredFirst now rows key) 2 ≡ false) (λ key. not_class_2 now (row_of key rows)) keys) in
    let same : low ≡ in_class (key_class ExpiredFirst now rows) 0 keys ++ in_class (key_class ExpiredFirst now rows) 1 keys
    = λ i. filter (λ key. class_0 ExpiredFirst now (row_of key rows) i) keys ++ filter (λ key. class_1 now (row_of key rows) i) keys in
    sym (append-nil low) ∙ ap (λ ks. ks ++ []) same
    ∙ ap (λ ks. (in_class (key_class ExpiredFirst now rows) 0 keys ++ in_class (key_class ExpiredFirst now rows) 1 keys) ++ ks) (sym none)
in_order_is SecureLast now rows keys =
    λ i. filter (λ key. class_0 SecureLast now (row_of key rows) i) keys ++ filter (λ key. plain_class_1 now (row_of key rows) i) keys ++ filter (λ key. class_2 now (row_of key rows) i) keys

-- there are as many
pub length_in_order : (order : EvictionOrder) (now : Moment) (rows : List Row) (keys : List Key) → length (in_order order now rows keys) ≡ length keys
length_in_order order now rows keys =
    let cls = key_class order now rows in
    ap length (in_order_is order now rows keys) ∙ length_permutation keys (by_class cls keys) (classes_moved cls (λ key. at_most_2 order now (row_of key rows)) keys)

-- numbered keys are in the same order
pub by_class_numbered : (cls : Key → ℕ) (xs : List (Key × ℕ)) → by_class cls (map (λ x. x.0) xs) ≡ map (λ x. x.0) (by_class (λ x. cls x.0) xs)
by_class_numbered cls xs =
    let key : Key × ℕ → Key = λ x. x.0 in
    let of = λ (k : ℕ). in_class (λ (x : Key × ℕ). cls x.0) k xs in
    let each = λ (k : ℕ). map-filter key (λ y. nat_eq (cls y) k) xs in
    sym (map-append key (of 0 ++ of 1) (of 2) ∙ ap (λ ks. ks ++ map key (of 2)) (map-append key (of 0) (of 1)) ∙ (λ i. each 0 i ++ each 1 i ++ each 2 i))

-- the keys that are evicted from a domain are the first in that order
pub evicted_is : (order : EvictionOrder) (kept : RowsInOrder) (limit : ℕ) (now : Moment) (key : Key) → evicted_in order (contents_of kept None (Some limit)) now key
    ≡ take (length (filter (same_domain key) kept.created) + 1 - limit) (in_order order now kept.rows (filter (same_domain key) kept.created))
evicted_is ExpiredFirst kept limit now key = refl
evicted_is SecureLast kept limit now key = refl

-- none are evicted without a limit
pub none_evicted : (order : EvictionOrder) (kept : RowsInOrder) (now : Moment) (key : Key) → evicted_in order (contents_of kept None None) now key ≡ []
none_evicted ExpiredFirst kept now key = refl
none_evicted SecureLast kept now key = refl

-- room for a new row

-- with room under a limit there is room under that or 1
pub room_at_least_one : (order : EvictionOrder) (kept : RowsInOrder) (limit : ℕ) (row : Row) (now : Moment)
    → HasRoom order (contents_of kept None (Some limit)) row now → HasRoom order (contents_of kept None (Some (max limit 1))) row now
room_at_least_one ExpiredFirst kept limit row now room = tt
room_at_least_one SecureLast kept limit row now room = λ plain.
    let secure = length (filter (is_secure_key now kept.rows) (filter (same_domain (key_of row)) kept.created)) in
    let fewer : secure < max limit 1 = omega (arith, leb-false limit secure (room plain)) in
    lt-leb (max limit 1) secure fewer

module _ (kept : RowsInOrder) (row : Row) (now : Moment) (xs : List (Key × ℕ)) (mine : filter (same_domain (key_of row)) kept.created ≡ map (λ x. x.0) (by_number xs)) where
  -- the class of an entry
  abbrev entry_class : EvictionOrder → Key × ℕ → ℕ
  entry_class order e = key_class order now kept.rows e.0

  -- is 0, 1 or 2
  few : (order : EvictionOrder) (e : Key × ℕ) → entry_class order e ≤ 2
  few order e = at_most_2 order now (row_of e.0 kept.rows)

  -- the Secure rows of its domain are those of class 2
  pub secure_entries : length (filter (is_secure_key now kept.rows) (filter (same_domain (key_of row)) kept.created)) ≡ length (in_class (entry_class SecureLast) 2 (by_number xs))
  secure_entries =
      let key : Key × ℕ → Key = λ x. x.0 in
      let same : filter (is_secure_key now kept.rows) (map key (by_number xs)) ≡ in_class (key_class SecureLast now kept.rows) 2 (map key (by_number xs))
      = λ i. filter (λ k. class_2 now (row_of k kept.rows) i) (map key (by_number xs)) in
      ap (λ ks. length (filter (is_secure_key now kept.rows) ks)) mine
      ∙ ap length same
      ∙ ap length (sym (map-filter key (λ k. nat_eq (key_class SecureLast now kept.rows k) 2) (by_number xs)))
      ∙ length-map (in_class (entry_class SecureLast) 2 (by_number xs)) key

  -- with room, enough entries of its domain come before a new row
  pub splits : (order : EvictionOrder) (limit : ℕ) → is_expired now row ≡ false → 0 < limit → HasRoom order (contents_of kept None (Some limit)) row now
      → SplitsAround (entry_class order) xs (class_of order now row) (length xs + 1 - limit)
  splits ExpiredFirst limit live some room = rw live (all_in_front (entry_class ExpiredFirst) (few ExpiredFirst) xs 1 limit (λ e. at_most_1 now (row_of e.0 kept.rows)) some)
  splits SecureLast limit live some room = elim (cases_Bool (is_secure_only row.raw)) [
    | inl e ↦ rw (live, e) (all_in_front (entry_class SecureLast) (few SecureLast) xs 2 limit (few SecureLast) some)
    | inr e ↦
        let fewer = leb-false limit (length (filter (is_secure_key now kept.rows) (filter (same_domain (key_of row)) kept.created))) (room e) in
        rw (live, e) (last_class_behind (entry_class SecureLast) (few SecureLast) xs limit (omega (arith, fewer, secure_entries)))
  ]
