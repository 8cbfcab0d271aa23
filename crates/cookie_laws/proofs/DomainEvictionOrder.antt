-- The order in which rows of a domain are evicted with a limit.
use Rattle.std.proofs.Common.{◌≡◌, ℕ, zero, suc, ◌+◌, ◌-◌, Bool, true, false, not, ◌&&◌, ◌||◌, List, [], ◌∷◌, ◌++◌, length, take, Option, Some, None, ◌∙◌, refl, sym, ap, ⊎_elim, append_assoc, arith}
use Rattle.std.specs.Prelude.{is_some}
use Rattle.std.specs.List.{filter, list_any}
use Rattle.std.proofs.lemmas.Bool.{both_ways, cases_Bool}
use Rattle.std.proofs.lemmas.List.Folds.{list_any-append}
use Rattle.cookie_words.specs.Moments.{Moment}
use Rattle.cookie_parts.specs.Cookie.{Row, is_expired}
use Rattle.cookie_parts.specs.Hosts.{passes}
use Rattle.cookie_laws.specs.Contents.{Contents, HasCreationOrder, over_limit, eviction_order, has_expired, evicted}
use Rattle.cookie_laws.specs.Rows.{Key, differ, row_of, same_domain, same_domain_equiv, same_key, same_key_equiv}
use Rattle.cookie_laws.proofs.Filtered.{list_any-kept, none-apart}
use Rattle.cookie_laws.proofs.LimitedRows.{row-created}
use Rattle.cookie_laws.proofs.CreationKeys.{once_from_made}
use Rattle.cookie_laws.proofs.StoresOfKeys.{over_limit-apart, same_key-passes}

-- which of two items comes first
module _ {T : Type 0} where
  -- an item passes one test, and none before it the other
  comes_first : (T → Bool) → (T → Bool) → List T → Bool
  comes_first p q [] = false
  comes_first p q (x ∷ xs) = p x || (not (q x) && comes_first p q xs)

  -- an item comes first that passes a test, before those that pass another
  module _ (p q : T → Bool) where
    -- if one of the first n passes the second test, one of them passes the first
    first-taken : (n : ℕ) (xs : List T) → comes_first p q xs ≡ true → list_any q (take n xs) ≡ true → list_any p (take n xs) ≡ true
    unfolding comes_first
    first-taken zero xs comes some = absurd (cc)
    first-taken (suc n) [] comes some = absurd (cc)
    first-taken (suc n) (x ∷ xs) comes some = grind (arith, first-taken n xs)

    -- it does so if one passes the first, and none the second
    first-alone : (xs : List T) → list_any p xs ≡ true → list_any q xs ≡ false → comes_first p q xs ≡ true
    unfolding comes_first
    first-alone [] some none = absurd (cc)
    first-alone (x ∷ xs) some none = grind (arith, first-alone xs)

    -- without items that do not pass it
    first-filtered : (test : T → Bool) → ((x : T) → p x ≡ true → test x ≡ true) → (xs : List T) → comes_first p q xs ≡ true
        → comes_first p q (filter test xs) ≡ true
    unfolding comes_first
    first-filtered test kept [] comes = comes
    first-filtered test kept (x ∷ xs) comes = grind (arith, kept x, first-filtered test kept xs)

    -- with more behind
    first-before : (xs ys : List T) → comes_first p q xs ≡ true → comes_first p q (xs ++ ys) ≡ true
    unfolding comes_first
    first-before [] ys comes = absurd (cc)
    first-before (x ∷ xs) ys comes = grind (arith, first-before xs ys)

    -- and with others in front
    first-behind : (xs ys : List T) → list_any q xs ≡ false → comes_first p q ys ≡ true → comes_first p q (xs ++ ys) ≡ true
    unfolding comes_first
    first-behind [] ys none comes = comes
    first-behind (x ∷ xs) ys none comes = grind (arith, first-behind xs ys)

-- of keys that differ, one further back is not in front
none-in_front : (key : Key) (prefix back : List Key) → differ same_key (prefix ++ key ∷ back) ≡ true → list_any (same_key key) prefix ≡ false
none-in_front key [] back d = refl
none-in_front key (k ∷ ks) back d =
    let behind : list_any (same_key k) (ks ++ key ∷ back) ≡ false = grind (arith, d) in
    let rest : differ same_key (ks ++ key ∷ back) ≡ true = grind (arith, d) in
    let apart : same_key k key ≡ false = grind (arith, list_any-append (same_key k) ks (key ∷ back), behind) in
    grind (arith, same_key_equiv.symm key k, apart, none-in_front key ks back rest)

-- so of two of them the one in front comes first
made_before : (first later : Key) (prefix between back created : List Key) → created ≡ prefix ++ first ∷ (between ++ later ∷ back)
    → differ same_key created ≡ true → comes_first (same_key first) (same_key later) created ≡ true
unfolding comes_first
made_before first later prefix between back created is d =
    let all : (prefix ++ first ∷ between) ++ later ∷ back ≡ prefix ++ first ∷ (between ++ later ∷ back) =
    append_assoc prefix (first ∷ between) (later ∷ back) in
    let none : list_any (same_key later) (prefix ++ first ∷ between) ≡ false =
    none-in_front later (prefix ++ first ∷ between) back (ap (differ same_key) (all ∙ sym is) ∙ d) in
    let before : list_any (same_key later) prefix ≡ false =
    grind (arith, list_any-append (same_key later) prefix (first ∷ between), none) in
    let here : comes_first (same_key first) (same_key later) (first ∷ (between ++ later ∷ back)) ≡ true =
    grind (arith, same_key_equiv.refl first) in
    ap (comes_first (same_key first) (same_key later)) is
    ∙ first-behind (same_key first) (same_key later) prefix (first ∷ (between ++ later ∷ back)) before here

-- what passes is there
passes-some : {T : Type 0} (test : T → Bool) (found : Option T) → passes test found ≡ true → is_some found ≡ true
passes-some test None passed = absurd (cc)
passes-some test (Some x) passed = refl

-- if the later key is evicted, so is the one that comes first in eviction order
over_limit-first : (limit : Option ℕ) (now : Moment) (rows : List Row) (keys : List Key) (first later : Key)
    → comes_first (same_key first) (same_key later) (eviction_order now rows keys) ≡ true
    → list_any (same_key later) (over_limit limit now rows keys) ≡ true → list_any (same_key first) (over_limit limit now rows keys) ≡ true
over_limit-first None now rows keys first later comes leaves = absurd (cc)
over_limit-first (Some limit) now rows keys first later comes leaves =
    first-taken (same_key first) (same_key later) (length keys + 1 - limit) (eviction_order now rows keys) comes leaves

-- a key of which a test is false is not among keys that pass it
pub none-passing : (test : Key → Bool) (key : Key) (keys : List Key) → test key ≡ false → list_any (same_key key) (filter test keys) ≡ false
none-passing test key keys away =
    let apart : (k : Key) → test k ≡ true → same_key key k ≡ false = λ k passed.
    ⊎_elim (λ same. absurd (both_ways (test k) (same_key-passes test key false away k same) passed))
    (λ other. other)
    (cases_Bool (same_key key k)) in
    none-apart (same_key key) test apart keys

-- an evicted key has the domain of the new one
leaves-near : (store : Contents) (now : Moment) (new key : Key) → list_any (same_key key) (evicted store now new) ≡ true
    → same_domain new key ≡ true
leaves-near store now new key leaves =
    let keys = filter (same_domain new) store.created in
    ⊎_elim (λ near. near)
    (λ away.
    let none = none-passing (same_domain new) key store.created away in
    let stays = over_limit-apart store.limit now store.rows keys (same_key key) none in
    absurd (both_ways (list_any (same_key key) (evicted store now new)) stays leaves))
    (cases_Bool (same_domain new key))

-- the later key is evicted, and has the domain of the first
module _ (store : Contents) (now : Moment) (new first later : Key) (has : HasCreationOrder store) (near : same_domain first later ≡ true)
    (leaves : list_any (same_key later) (evicted store now new) ≡ true) where
  -- the first is of that domain too
  first-near : same_domain new first ≡ true
  first-near =
      same_domain_equiv.symm new first ∙ same_domain_equiv.congr first later new near ∙ same_domain_equiv.symm later new
      ∙ leaves-near store now new later leaves

  -- if its row has expired, and that of the other has not, it is evicted
  pub expired_evicted_first : has_expired now store.rows first ≡ true → has_expired now store.rows later ≡ false
      → list_any (same_key first) (evicted store now new) ≡ true
  expired_evicted_first over live =
      let expired_row = has_expired now store.rows in
      let keys = filter (same_domain new) store.created in
      let row : is_some (row_of first store.rows) ≡ true = passes-some (is_expired now) (row_of first store.rows) over in
      let created : list_any (same_key first) store.created ≡ true = sym (row-created first store (once_from_made store has)) ∙ row in
      let own : list_any (same_key first) keys ≡ true =
      list_any-kept (same_domain new) (same_key first) (same_key-passes (same_domain new) first true first-near) store.created ∙ created in
      let some : list_any (same_key first) (filter expired_row keys) ≡ true =
      list_any-kept expired_row (same_key first) (same_key-passes expired_row first true over) keys ∙ own in
      let comes = first-alone (same_key first) (same_key later) (filter expired_row keys) some (none-passing expired_row later keys live) in
      over_limit-first store.limit now store.rows keys first later
      (first-before (same_key first) (same_key later) (filter expired_row keys) (filter (λ key. not (expired_row key)) keys) comes)
      leaves

  -- if both have expired, or neither has, and it was created first, it is evicted
  pub made_first : has_expired now store.rows first ≡ has_expired now store.rows later
      → (prefix between back : List Key) → store.created ≡ prefix ++ first ∷ (between ++ later ∷ back)
      → list_any (same_key first) (evicted store now new) ≡ true
  made_first alike prefix between back is =
      let p = same_key first in
      let q = same_key later in
      let expired_row = has_expired now store.rows in
      let keys = filter (same_domain new) store.created in
      let comes : comes_first p q keys ≡ true =
      first-filtered p q (same_domain new) (same_key-passes (same_domain new) first true first-near) store.created
      (made_before first later prefix between back store.created is has.1) in
      let first_comes : comes_first p q (eviction_order now store.rows keys) ≡ true =
      ⊎_elim (λ over.
      first-before p q (filter expired_row keys) (filter (λ key. not (expired_row key)) keys)
      (first-filtered p q expired_row (same_key-passes expired_row first true over) keys comes))
      (λ live.
      first-behind p q (filter expired_row keys) (filter (λ key. not (expired_row key)) keys)
      (none-passing expired_row later keys (sym alike ∙ live))
      (first-filtered p q (λ key. not (expired_row key))
      (same_key-passes (λ key. not (expired_row key)) first true (ap not live)) keys comes))
      (cases_Bool (expired_row first)) in
      over_limit-first store.limit now store.rows keys first later first_comes leaves
