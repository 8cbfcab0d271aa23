-- What `put` keeps of the order of the rows.
use Rattle.std.proofs.Common.{◌≡◌, Bool, true, false, ◌&&◌, List, map, ◌∙◌, refl, sym, subst}
use Rattle.std.specs.List.{list_any}
use Rattle.std.proofs.lemmas.Bool.{cond_both, and_parts, and_from}
use Rattle.cookie_parts.specs.Cookie.{Row, expired_row}
use Rattle.cookie_laws.specs.Rows.{Key, key_of, same_domain_equiv, same_group_equiv, same_key_equiv, same_key-true, same_domain, same_group, same_key, in_domain, in_group, has_key, after_last, changed, replaced, placed, put, differ, are_adjacent, are_rows}
use Rattle.cookie_rows.proofs.AfterLast.{list_any-map, map-after_last, map-changed, map-replaced}
use Rattle.cookie_rows.proofs.Adjacent.{differ-after_last, together-after_like, together-after_any, together-after_unlike}

-- keys differ, those of one domain are adjacent, and in them those of one path
abbrev pub are_keys : List Key → Bool
are_keys keys = differ same_key keys && (are_adjacent same_domain keys && are_adjacent same_group keys)

-- the same in three parts
record AreKeys (keys : List Key) : Type 0 where
  differ : differ same_key keys ≡ true
  domains : are_adjacent same_domain keys ≡ true
  groups : are_adjacent same_group keys ≡ true

-- from the test to the parts
AreKeys-from_test : (keys : List Key) → are_keys keys ≡ true → AreKeys keys
AreKeys-from_test keys h =
    let order = (and_parts _ _ h).1 in
    record { differ = (and_parts _ _ h).0; domains = (and_parts _ _ order).0; groups = (and_parts _ _ order).1 }

-- and back
AreKeys-test : (keys : List Key) → AreKeys keys → are_keys keys ≡ true
AreKeys-test keys h = and_from _ _ h.differ (and_from _ _ h.domains h.groups)

-- keys of one domain and path are of one domain
group_in_domain : (a b : Key) → same_group a b ≡ true → same_domain a b ≡ true
group_in_domain a b h = (and_parts _ _ h).0

-- a new key goes after the last one of its domain and path
pub are_keys-in_group : (keys : List Key) (key : Key) → list_any (same_key key) keys ≡ false → list_any (same_group key) keys ≡ true → are_keys keys ≡ true → are_keys (after_last (same_group key) keys key) ≡ true
are_keys-in_group keys key new some h =
    let parts = AreKeys-from_test keys h in
    AreKeys-test (after_last (same_group key) keys key) (record {
      differ = differ-after_last same_key (same_group key) same_key_equiv keys key new parts.differ;
      domains = together-after_like same_group_equiv same_domain_equiv group_in_domain keys key some parts.domains;
      groups = together-after_like same_group_equiv same_group_equiv (λ a b e. e) keys key some parts.groups;
    })

-- a new key of a new domain and path goes after the last one of its domain, or last
pub are_keys-in_domain : (keys : List Key) (key : Key) → list_any (same_key key) keys ≡ false → list_any (same_group key) keys ≡ false → are_keys keys ≡ true → are_keys (after_last (same_domain key) keys key) ≡ true
are_keys-in_domain keys key new none h =
    let parts = AreKeys-from_test keys h in
    AreKeys-test (after_last (same_domain key) keys key) (record {
      differ = differ-after_last same_key (same_domain key) same_key_equiv keys key new parts.differ;
      domains = together-after_any same_domain_equiv keys key parts.domains;
      groups = together-after_unlike same_group_equiv same_domain_equiv group_in_domain keys key none parts.groups;
    })

-- replacing a row of the same key does not change the keys
pub are_keys-replaced : {R : Type 0} (key : R → Key) (rows : List R) (row : R) → are_keys (map key rows) ≡ true → are_keys (map key (replaced (λ r. same_key (key row) (key r)) rows row)) ≡ true
are_keys-replaced {R} key rows row h =
    let same = λ (r : R) (e : same_key (key row) (key r) ≡ true). sym (same_key-true (key row) (key r) e) in
    subst (λ keys. are_keys keys ≡ true) (sym (map-replaced key (λ r. same_key (key row) (key r)) rows row same)) h

-- a row of a new key is placed by its key
pub are_keys-after_last : {R : Type 0} (key : R → Key) (test : Key → Bool) (rows : List R) (row : R) → are_keys (after_last test (map key rows) (key row)) ≡ true → are_keys (map key (after_last (λ r. test (key r)) rows row)) ≡ true
are_keys-after_last key test rows row h = subst (λ keys. are_keys keys ≡ true) (sym (map-after_last key test rows row)) h

-- whether some row passes is whether some key does
any_key : {R : Type 0} (key : R → Key) (test : Key → Bool) (rows : List R) (b : Bool) → list_any (λ r. test (key r)) rows ≡ b → list_any test (map key rows) ≡ b
any_key key test rows b h = list_any-map key test rows ∙ h

-- a new row keeps the order
pub are_rows-placed : (rows : List Row) (cookie : Row) → list_any (has_key (key_of cookie)) rows ≡ false → are_rows rows ≡ true → are_rows (placed rows cookie) ≡ true
are_rows-placed rows cookie new h =
    let key = key_of cookie in
    let keys = map key_of rows in
    let new_key : list_any (same_key key) keys ≡ false = any_key key_of (same_key key) rows false new in
    let in_the_group = λ (some : list_any (in_group key) rows ≡ true). are_keys-in_group keys key new_key (any_key key_of (same_group key) rows true some) h in
    let in_the_domain = λ (none : list_any (in_group key) rows ≡ false). are_keys-in_domain keys key new_key (any_key key_of (same_group key) rows false none) h in
    cond_both (list_any (in_group key) rows) (after_last (in_group key) rows cookie) (after_last (in_domain key) rows cookie) (λ zs. are_rows zs ≡ true)
    (λ some. are_keys-after_last key_of (same_group key) rows cookie (in_the_group some))
    (λ none. are_keys-after_last key_of (same_domain key) rows cookie (in_the_domain none))

-- a cookie that is stored keeps the order
pub are_rows-put : (rows : List Row) (cookie : Row) → are_rows rows ≡ true → are_rows (put rows cookie) ≡ true
are_rows-put rows cookie h =
    let key = key_of cookie in
    cond_both (list_any (has_key key) rows) (replaced (has_key key) rows cookie) (placed rows cookie) (λ zs. are_rows zs ≡ true)
    (λ some. are_keys-replaced key_of rows cookie h)
    (λ new. are_rows-placed rows cookie new h)

-- expiring a row keeps the order
pub are_rows-expired_row : (test : Row → Bool) (rows : List Row) → are_rows rows ≡ true → are_rows (changed test expired_row rows) ≡ true
are_rows-expired_row test rows h = subst (λ keys. are_keys keys ≡ true) (sym (map-changed key_of test expired_row rows (λ row. refl))) h
