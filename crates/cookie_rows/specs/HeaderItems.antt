-- Numbered rows in the order of the Cookie header.
use Rattle.std.specs.Prelude.{List, [], length, Option, Some, None, slice_get}
use Rattle.std.specs.Ordering.{nat_cmp, ordering_then}
use Rattle.std.specs.declared.cmp.Ordering.{Ordering}
use Rattle.cookie_lookup.specs.SearchView.{RowPosition, list_of, under}
use Rattle.cookie_rows.specs.Items.{Item, ItemGroups}

-- the row at a position, if there is one
abbrev pub items_at : ItemGroups → RowPosition → List Item
items_at groups s = list_of (slice_get (under s.1 (under s.0 groups)) s.2)

-- the rows of a group, empty without a group
abbrev pub items_in : Option (List Item) → List Item
items_in None = []
items_in (Some items) = items

-- RFC 6265 5.4 step 2: longer paths first, and of equally long ones the row that was created first
abbrev pub item_order : Item → Item → Ordering
item_order a b = ordering_then (nat_cmp (length b.row.path.text) (length a.row.path.text)) (nat_cmp a.number b.number)
