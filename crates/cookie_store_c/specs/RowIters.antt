-- The rows that a call lists.
use Rattle.std.specs.Prelude.{Bool, List, if◌then◌else◌, map}
use Rattle.std.specs.Slice.Iter.{iter_rest}
use Rattle.cookie_laws.specs.Contents.{Contents}
use Rattle.cookie_parts.specs.Cookie.{Row}
use Rattle.cookie_store_c.specs.declared.row_iter.RowIter.{RowIter}
use Rattle.cookie_store_c.specs.declared.row_iter.RowIter.TheVariants.{All, Request}

-- the rows of a request, or else all rows of a store
abbrev pub chosen_rows : Contents → List Row → Bool → List Row
chosen_rows store request is_request = if is_request then request else store.rows

-- the rows that an iterator has not yet returned
abbrev pub remaining_rows : RowIter → List Row
remaining_rows (All rows) = rows
remaining_rows (Request cookies) = map (λ c. c.now) (iter_rest cookies)
