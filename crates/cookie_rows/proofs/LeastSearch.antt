-- The row that is evicted first, among rows that are searched one after the other.
use Rattle.std.proofs.Common.{◌≡◌, ℕ, zero, suc, ◌+◌, ◌≤◌, true, false, List, [], ◌∷◌, ◌++◌, length, map, take, slice_get, Option, Some, None, refl, sym, ◌∙◌, ap, subst, inl, inr, arith, append-nil, append_assoc}
use Rattle.std.specs.Prelude.{option_map}
use Rattle.std.proofs.lemmas.Bool.{cases_Bool}
use Rattle.std.proofs.lemmas.List.{take_more, length-take-le}
use Rattle.std.proofs.lemmas.Option.{get_or_from_slice_get, slice_get_within}
use Rattle.cookie_words.specs.Moments.{Moment}
use Rattle.cookie_rows.specs.declared.eviction_order.EvictionOrder.{EvictionOrder}
use Rattle.cookie_rows.specs.declared.least.Least.{Least}
use Rattle.cookie_rows.specs.Eviction.{EvictionRank, comes_before, rank_of}
use Rattle.cookie_rows.specs.HeaderItems.{items_in}
use Rattle.cookie_rows.specs.Items.{Item, joined}
use Rattle.cookie_rows.specs.Least.{IsLeastOfGroup, IsLeastOfGroups, NoneBefore, lesser, stored_items}
use Rattle.cookie_rows.specs.Stored.{StoredItems, StoredPaths}
use Rattle.cookie_rows.proofs.All.{all_append, all_map}
use Rattle.cookie_rows.proofs.RankOrder.{not_before_itself, ranks_order}

-- the last of a list is at the end
at_end : {T : Type 0} (xs : List T) (x : T) → slice_get (xs ++ x ∷ []) (length xs) ≡ Some x
at_end [] x = refl
at_end (y ∷ ys) x = at_end ys x

-- what is in a list is at the same position of a longer one
in_front : {T R : Type 0} (f : T → R) (xs ys : List T) (n : ℕ) (r : R) → option_map f (slice_get xs n) ≡ Some r → option_map f (slice_get (xs ++ ys) n) ≡ Some r
in_front f [] ys n r is = absurd (cc)
in_front f (x ∷ xs) ys zero r is = is
in_front f (x ∷ xs) ys (suc n) r is = in_front f xs ys n r is

module _ (order : EvictionOrder) (now : Moment) where
  -- if no row comes before a rank, none comes before another that it does not come before
  none_before : (rank other : EvictionRank) (items : List Item) → comes_before rank other ≡ false → NoneBefore order now rank items → NoneBefore order now other items
  none_before rank other items e none =
      all_map (λ item. comes_before (rank_of order now item) rank ≡ false) (λ item. comes_before (rank_of order now item) other ≡ false)
      (λ item h. ranks_order.chain (rank_of order now item) rank other h e) items none

  -- nor before an earlier one
  none_earlier : (rank earlier : EvictionRank) (items : List Item) → comes_before earlier rank ≡ true → NoneBefore order now rank items → NoneBefore order now earlier items
  none_earlier rank earlier items first none = none_before rank earlier items (ranks_order.one_way earlier rank first) none

  -- a search with one more row of a group
  group_more : (place : ℕ) (xs : List Item) (x : Item) (least : Option Least) → IsLeastOfGroup order now place xs least
      → IsLeastOfGroup order now place (xs ++ x ∷ []) (lesser least (Some (record { path = place; row = length xs; rank = rank_of order now x })))
  group_more place xs x None is =
      let none : NoneBefore order now (rank_of order now x) xs = subst (NoneBefore order now (rank_of order now x)) (sym is) tt in (
        refl,
        ap (option_map (rank_of order now)) (at_end xs x),
        all_append (λ item. comes_before (rank_of order now item) (rank_of order now x) ≡ false) xs (x ∷ []) none (not_before_itself (rank_of order now x), tt),
      )
  group_more place xs x (Some least) is =
      let rank = rank_of order now x in
      elim (cases_Bool (comes_before rank least.rank)) [
        | inl e ↦
            rw e (
              refl,
              ap (option_map (rank_of order now)) (at_end xs x),
              all_append (λ item. comes_before (rank_of order now item) rank ≡ false) xs (x ∷ []) (none_earlier least.rank rank xs e is.2) (not_before_itself rank, tt),
            )
        | inr e ↦
            rw e (
              is.0,
              in_front (rank_of order now) xs (x ∷ []) least.row least.rank is.1,
              all_append (λ item. comes_before (rank_of order now item) least.rank ≡ false) xs (x ∷ []) is.2 (e, tt),
            )
      ]

  -- the rows of one group more
  joined_more : (groups : List (List Item)) (items : List Item) → joined (groups ++ items ∷ []) ≡ joined groups ++ items
  joined_more [] items = append-nil items
  joined_more (g ∷ groups) items = ap (λ xs. g ++ xs) (joined_more groups items) ∙ sym (append_assoc g (joined groups) items)

  -- a position in another group than the last
  group_front : (groups : List (List Item)) (items : List Item) (place index : ℕ) (rank : EvictionRank)
      → option_map (rank_of order now) (slice_get (items_in (slice_get groups place)) index) ≡ Some rank
      → option_map (rank_of order now) (slice_get (items_in (slice_get (groups ++ items ∷ []) place)) index) ≡ Some rank
  group_front [] items place index rank is = absurd (cc)
  group_front (g ∷ groups) items zero index rank is = is
  group_front (g ∷ groups) items (suc place) index rank is = group_front groups items place index rank is

  -- a position in the last group
  group_last : (groups : List (List Item)) (items : List Item) (least : Least) → least.path ≡ length groups → option_map (rank_of order now) (slice_get items least.row) ≡ Some least.rank
      → option_map (rank_of order now) (slice_get (items_in (slice_get (groups ++ items ∷ []) least.path)) least.row) ≡ Some least.rank
  group_last groups items least place is =
      ap (λ n. option_map (rank_of order now) (slice_get (items_in (slice_get (groups ++ items ∷ []) n)) least.row)) place
      ∙ ap (λ g. option_map (rank_of order now) (slice_get (items_in g) least.row)) (at_end groups items) ∙ is

  -- a search with one more group
  groups_more : (groups : List (List Item)) (items : List Item) (least other : Option Least) → IsLeastOfGroups order now groups least → IsLeastOfGroup order now (length groups) items other
      → IsLeastOfGroups order now (groups ++ items ∷ []) (lesser least other)
  groups_more groups items None None is found = joined_more groups items ∙ ap (λ xs. xs ++ items) is ∙ found
  groups_more groups items (Some least) None is found = (
    group_front groups items least.path least.row least.rank is.0,
    subst (NoneBefore order now least.rank) (sym (append-nil (joined groups)) ∙ ap (λ xs. joined groups ++ xs) (sym found) ∙ sym (joined_more groups items)) is.1,
  )
  groups_more groups items None (Some other) is found =
      let all : joined (groups ++ items ∷ []) ≡ items = joined_more groups items ∙ ap (λ xs. xs ++ items) is in (
        group_last groups items other found.0 found.1,
        subst (NoneBefore order now other.rank) (sym all) found.2,
      )
  groups_more groups items (Some least) (Some other) is found =
      elim (cases_Bool (comes_before other.rank least.rank)) [
        | inl e ↦
            rw e (
              group_last groups items other found.0 found.1,
              subst (NoneBefore order now other.rank) (sym (joined_more groups items))
                  (all_append (λ item. comes_before (rank_of order now item) other.rank ≡ false) (joined groups) items (none_earlier least.rank other.rank (joined groups) e is.1) found.2),
            )
        | inr e ↦
            rw e (
              group_front groups items least.path least.row least.rank is.0,
              subst (NoneBefore order now least.rank) (sym (joined_more groups items))
                  (all_append (λ item. comes_before (rank_of order now item) least.rank ≡ false) (joined groups) items is.1 (none_before other.rank least.rank items e found.2)),
            )
      ]

-- a list up to one item more
take_one : {T : Type 0} (xs : List T) (n : ℕ) (x : T) → slice_get xs n ≡ Some x → take (n + 1) xs ≡ take n xs ++ x ∷ []
take_one xs n x there = take_more xs n x (slice_get_within xs n x there) ∙ ap (λ y. take n xs ++ y ∷ []) (get_or_from_slice_get xs n x x there)

-- has as many items before it as its position says
length_before : {T : Type 0} (xs : List T) (n : ℕ) (x : T) → slice_get xs n ≡ Some x → length (take n xs) ≡ n
length_before xs n x there = length-take-le n xs (omega (arith, slice_get_within xs n x there))

module _ (order : EvictionOrder) (now : Moment) where
  -- the search of a group goes on
  pub group_step : (place : ℕ) (rows : List Item) (n : ℕ) (x : Item) (least : Option Least) → slice_get rows n ≡ Some x → IsLeastOfGroup order now place (take n rows) least
      → IsLeastOfGroup order now place (take (n + 1) rows) (lesser least (Some (record { path = place; row = n; rank = rank_of order now x })))
  group_step place rows n x least there is =
      subst (λ xs. IsLeastOfGroup order now place xs (lesser least (Some (record { path = place; row = n; rank = rank_of order now x })))) (sym (take_one rows n x there))
      (subst (λ m. IsLeastOfGroup order now place (take n rows ++ x ∷ []) (lesser least (Some (record { path = place; row = m; rank = rank_of order now x })))) (length_before rows n x there)
      (group_more order now place (take n rows) x least is))

  -- the search of all groups goes on
  pub groups_step : (groups : List (List Item)) (n : ℕ) (items : List Item) (least other : Option Least) → slice_get groups n ≡ Some items → IsLeastOfGroups order now (take n groups) least → IsLeastOfGroup order now n items other
      → IsLeastOfGroups order now (take (n + 1) groups) (lesser least other)
  groups_step groups n items least other there is found =
      subst (λ gs. IsLeastOfGroups order now gs (lesser least other)) (sym (take_one groups n items there))
      (groups_more order now (take n groups) items least other is (subst (λ m. IsLeastOfGroup order now m items other) (sym (length_before groups n items there)) found))

-- the rows of a domain at a position
pub names_there : (paths : StoredPaths) (n : ℕ) (names : StoredItems) → Some names ≡ slice_get (map (λ p. p.1.1) paths) n
    → slice_get (map (λ p. stored_items p.1.1) paths) n ≡ Some (stored_items names)
names_there [] n names there = absurd (cc)
names_there (p ∷ paths) zero names there = let same : p.1.1 ≡ names = cc in ap (λ (xs : StoredItems). Some (stored_items xs)) same
names_there (p ∷ paths) (suc n) names there = names_there paths n names there

-- a position at which there is nothing is past the end
pub none_past : {T : Type 0} (xs : List T) (n : ℕ) → None ≡ slice_get xs n → length xs ≤ n
none_past [] n none = omega arith
none_past (x ∷ xs) zero none = absurd (cc)
none_past (x ∷ xs) (suc n) none = omega (arith, none_past xs n none)
