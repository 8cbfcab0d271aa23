-- The rows that are evicted from a domain for a new one.
use Rattle.std.specs.Prelude.{◌≡◌, ◌<◌, ◌≤◌, ◌==◌, ◌-◌, ◌⊎◌, ℕ, Bool, true, false, not, ◌&&◌, List, [], ◌∷◌, ◌++◌, filter, flat_map, length, map, bytes_eq, slice_get, Some, ⊤, if◌then◌else◌}
use Rattle.std.specs.List.Sorted.{IsPermutation, IsSorted}
use Rattle.std.specs.Ordering.{is_lt, nat_cmp, ordering_then}
use Rattle.std.specs.declared.cmp.Ordering.{Ordering}
use Rattle.cookie_words.specs.Moments.{Moment}
use Rattle.cookie_parts.specs.Cookie.{Row, is_expired, is_secure_only}
use Rattle.cookie_parts.specs.Domain.{domain_text}
use Rattle.cookie_laws.specs.Contents.{Contents, evicted, with_cookie, without}
use Rattle.cookie_laws.specs.Rows.{Key, is_unexpired, key_of}
use Rattle.cookie_laws.specs.SecureLast.{evicted_secure_last, is_full_of_secure}
use Rattle.cookie_rows.specs.declared.eviction_order.EvictionOrder.{EvictionOrder}
use Rattle.cookie_rows.specs.declared.eviction_order.EvictionOrder.TheVariants.{ExpiredFirst, SecureLast}
use Rattle.cookie_rows.specs.GroupChanges.{put_at}
use Rattle.cookie_rows.specs.Items.{Item, ItemGroups, ItemPaths, put_item_paths, put_items}

-- the keys whose rows are evicted for a new row of this key
abbrev pub evicted_in : EvictionOrder → Contents → Moment → Key → List Key
evicted_in ExpiredFirst store now key = evicted store now key
evicted_in SecureLast store now key = evicted_secure_last store now key

-- the store with a new cookie: rows over the limit are evicted, then the cookie is added
abbrev pub with_inserted : EvictionOrder → Contents → Row → Moment → Contents
with_inserted order store cookie now = with_cookie (without (evicted_in order store now (key_of cookie)) store) cookie

-- rows can be evicted for a new cookie: under `SecureLast` it is Secure, or its domain has fewer unexpired Secure rows than the limit
abbrev pub HasRoom : EvictionOrder → Contents → Row → Moment → Type 0
HasRoom ExpiredFirst store cookie now = ⊤
HasRoom SecureLast store cookie now = is_secure_only cookie.raw ≡ false → is_full_of_secure store now (key_of cookie) ≡ false

-- the class of an unexpired row
abbrev pub unexpired_class : EvictionOrder → Row → ℕ
unexpired_class ExpiredFirst row = 1
unexpired_class SecureLast row = if is_secure_only row.raw then 2 else 1

-- the class of a row: rows of lower classes are evicted first, expired ones (0) before all others
abbrev pub class_of : EvictionOrder → Moment → Row → ℕ
class_of order now row = if is_expired now row then 0 else unexpired_class order row

-- a rank in eviction order: by class, then by creation
abbrev pub EvictionRank : Type 0
EvictionRank = ℕ × ℕ

-- the rank of a row at this time
abbrev pub rank_of : EvictionOrder → Moment → Item → EvictionRank
rank_of order now item = (class_of order now item.row, item.number)

-- the comparison of two ranks
abbrev pub rank_cmp : EvictionRank → EvictionRank → Ordering
rank_cmp a b = ordering_then (nat_cmp a.0 b.0) (nat_cmp a.1 b.1)

-- one rank comes before another
abbrev pub comes_before : EvictionRank → EvictionRank → Bool
comes_before a b = is_lt (rank_cmp a b)

-- the ranks of the rows of a domain
abbrev pub ranks_of : EvictionOrder → Moment → ItemPaths → List EvictionRank
ranks_of order now paths = flat_map (λ p. map (rank_of order now) p.1) paths

-- the row has not expired and is Secure
abbrev pub is_secure_item : Moment → Item → Bool
is_secure_item now item = is_unexpired now item.row && is_secure_only item.row.raw

-- how many rows of a domain have not expired and are Secure
abbrev pub count_secure : Moment → ItemPaths → ℕ
count_secure now paths = length (filter (is_secure_item now) (flat_map (λ p. p.1) paths))

-- the row survives if the rows that come before `first` are evicted
abbrev pub survives : EvictionOrder → Moment → EvictionRank → Item → Bool
survives order now first item = not (comes_before (rank_of order now item) first)

-- the group is not empty
abbrev pub is_filled : {X : Type 0} → List ℕ × List X → Bool
is_filled (text, []) = false
is_filled (text, x ∷ xs) = true

-- the rows of a domain that pass the test, without empty groups
abbrev pub filter_paths : (Item → Bool) → ItemPaths → ItemPaths
filter_paths test paths = filter is_filled (map (λ p. (p.0, filter test p.1)) paths)

-- the rows of all domains that pass the test, without empty groups
abbrev pub filter_groups : (Item → Bool) → ItemGroups → ItemGroups
filter_groups test groups = filter is_filled (map (λ g. (g.0, filter_paths test g.1)) groups)

-- the groups of a domain
abbrev pub paths_of : List ℕ → ItemGroups → ItemPaths
paths_of domain [] = []
paths_of domain (g ∷ gs) = if bytes_eq domain g.0 then g.1 else paths_of domain gs

-- `first` is the first rank that survives: the domain's ranks and that of a new row, `rank`, are
-- sorted, and the last `limit` of them survive
pub record IsFirstSurvivor (limit : ℕ) (order : EvictionOrder) (now : Moment) (rank : EvictionRank) (paths : ItemPaths) (first : EvictionRank) : Type 0 where
  pub ranks : List EvictionRank
  pub moved : IsPermutation (ranks_of order now paths ++ rank ∷ []) ranks
  pub sorted : IsSorted rank_cmp ranks
  pub is : slice_get ranks (length ranks - limit) ≡ Some first

-- the groups, with that of this text moved to the end if the test `alone` holds for it
abbrev pub moved_to_end_if : {X : Type 0} → (List X → Bool) → List ℕ → List (List ℕ × List X) → List (List ℕ × List X)
moved_to_end_if alone text [] = []
moved_to_end_if alone text (g ∷ gs) =
    if bytes_eq text g.0 then (if alone g.1 then gs ++ g ∷ [] else g ∷ gs) else g ∷ moved_to_end_if alone text gs

-- the group has exactly one row
abbrev pub is_single : List Item → Bool
is_single items = length items == 1

-- the domain has one group, and that has exactly one row
abbrev pub is_single_paths : ItemPaths → Bool
is_single_paths [] = false
is_single_paths (p ∷ []) = is_single p.1
is_single_paths (p ∷ q ∷ paths) = false

-- the groups of a domain with a new row stored, cut to the rows that pass the test; the group of
-- the new row's path moves to the end if exactly one row is left in it
abbrev pub insert_in_paths : (Item → Bool) → Row → ℕ → ItemPaths → ItemPaths
insert_in_paths test row number paths = moved_to_end_if is_single row.path.text (filter_paths test (put_item_paths row number paths))

-- all groups with a new row stored, its domain cut to the rows that pass the test; the domain moves
-- to the end if exactly one row is left in it
abbrev pub insert_in_domains : (Item → Bool) → Row → ℕ → ItemGroups → ItemGroups
insert_in_domains test row number groups =
    moved_to_end_if is_single_paths (domain_text row.domain) (put_at (insert_in_paths test row number) (domain_text row.domain) groups)

-- the groups of a domain after rows were evicted for a new one
abbrev pub EvictsInPaths : ℕ → EvictionOrder → Moment → Row → ℕ → ItemPaths → ItemPaths → Type 0
EvictsInPaths limit order now row number old new =
    (first : EvictionRank) × IsFirstSurvivor limit order now (class_of order now row, number) old first
    × (limit ≤ length (ranks_of order now old)) × (new ≡ insert_in_paths (survives order now first) row number old)

-- all groups after a new row is inserted: either its domain had room, or rows of the domain were
-- evicted
abbrev pub InsertsInDomains : ℕ → EvictionOrder → Moment → Row → ℕ → ItemGroups → ItemGroups → Type 0
InsertsInDomains limit order now row number old new =
    ((length (ranks_of order now (paths_of (domain_text row.domain) old)) < limit) × (new ≡ put_items row number old))
    ⊎ ((first : EvictionRank) × IsFirstSurvivor limit order now (class_of order now row, number) (paths_of (domain_text row.domain) old) first
    × (limit ≤ length (ranks_of order now (paths_of (domain_text row.domain) old)))
    × (new ≡ insert_in_domains (survives order now first) row number old))
