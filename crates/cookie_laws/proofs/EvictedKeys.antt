-- How many keys of a domain are evicted for a new one, and how many survive.
use Rattle.std.proofs.Common.{◌≡◌, ℕ, zero, suc, ◌+◌, ◌-◌, ◌≤◌, Bool, true, false, not, List, [], ◌∷◌, length, take, drop, Some, ◌∙◌, refl, sym, ap, arith, IsPermutation}
use Rattle.std.specs.List.{filter, list_any}
use Rattle.std.proofs.lemmas.Bool.{and_parts, not-true}
use Rattle.std.proofs.lemmas.List.{length-drop}
use Rattle.std.proofs.lemmas.List.Sorted.{IsPermutation-filter_both, length_permutation}
use Rattle.cookie_words.specs.Moments.{Moment}
use Rattle.cookie_parts.specs.Cookie.{Row}
use Rattle.cookie_laws.specs.Contents.{Contents, over_limit, eviction_order, has_expired, is_none_of, evicted, without}
use Rattle.cookie_laws.specs.Rows.{Key, differ, removed, same_domain, same_key, same_key_equiv}
use Rattle.cookie_laws.proofs.DifferentKeys.{differ-filter, differ-permutation}
use Rattle.cookie_laws.proofs.Filtered.{filter-all, filter-swap}
use Rattle.cookie_laws.proofs.SameCounts.{permuted-count}

-- a filter does not increase how many pass
pub filter-fewer : {T : Type 0} (p test : T → Bool) (xs : List T) → length (filter p (filter test xs)) ≤ length (filter p xs)
filter-fewer p test [] = omega arith
filter-fewer p test (x ∷ xs) = grind (arith, filter-fewer p test xs)

-- nor does an item that is removed
pub removed-fewer : {T : Type 0} (p test : T → Bool) (xs : List T) → length (filter p (removed test xs)) ≤ length (filter p xs)
removed-fewer p test [] = omega arith
removed-fewer p test (x ∷ xs) = grind (arith, removed-fewer p test xs)

-- keys among which this one is not are none of it
none_of_other : (key : Key) (others keys : List Key) → list_any (same_key key) keys ≡ false
    → filter (is_none_of (key ∷ others)) keys ≡ filter (is_none_of others) keys
none_of_other key others [] none = refl
none_of_other key others (k ∷ ks) none = grind (arith, same_key_equiv.symm key k, none_of_other key others ks)

-- of keys that differ, those that are none of the first n are those after them
none_of_front : (n : ℕ) (keys : List Key) → differ same_key keys ≡ true → filter (is_none_of (take n keys)) keys ≡ drop n keys
none_of_front zero keys d = filter-all keys
none_of_front (suc n) [] d = refl
none_of_front (suc n) (key ∷ keys) d =
    let parts = and_parts (not (list_any (same_key key) keys)) (differ same_key keys) d in
    first_goes key (take n keys) keys ∙ none_of_other key (take n keys) keys (not-true _ parts.0) ∙ none_of_front n keys parts.1
  where
    -- a key is one of those that it is the first of
    first_goes : (key : Key) (others keys : List Key)
        → filter (is_none_of (key ∷ others)) (key ∷ keys) ≡ filter (is_none_of (key ∷ others)) keys
    first_goes key others keys = rw (same_key_equiv.refl key) refl

-- in eviction order, at this time
module _ (now : Moment) (rows : List Row) where
  -- the keys are the same
  turned : (keys : List Key) → IsPermutation keys (eviction_order now rows keys)
  turned keys = IsPermutation-filter_both (has_expired now rows) (λ key. not (has_expired now rows key)) (λ _. refl) keys

  -- of distinct keys, all but the first n in eviction order survive
  stay-count : (n : ℕ) (keys : List Key) → differ same_key keys ≡ true
      → length (filter (is_none_of (take n (eviction_order now rows keys))) keys) ≡ length keys - n
  stay-count n keys d =
      let turns = eviction_order now rows keys in
      let differ_too = differ-permutation same_key same_key_equiv.symm keys turns (turned keys) d in
      sym (permuted-count (is_none_of (take n turns)) keys turns (turned keys))
      ∙ ap length (none_of_front n turns differ_too)
      ∙ length-drop n turns
      ∙ ap (λ many. many - n) (length_permutation keys turns (turned keys))

-- how many keys of a domain survive the eviction for a new one
pub own-count : (limit : ℕ) (store : Contents) (now : Moment) (key : Key) → store.limit ≡ Some limit → differ same_key store.created ≡ true
    → length (filter (same_domain key) (without (evicted store now key) store).created)
    ≡ length (filter (same_domain key) store.created) - (length (filter (same_domain key) store.created) + 1 - limit)
own-count limit store now key under d =
    let keys = filter (same_domain key) store.created in
    ap length (filter-swap (same_domain key) (is_none_of (evicted store now key)) store.created)
    ∙ ap (λ most. length (filter (is_none_of (over_limit most now store.rows keys)) keys)) under
    ∙ stay-count now store.rows (length keys + 1 - limit) keys (differ-filter same_key (same_domain key) store.created d)
