-- The header of a SQLite file.
use Rattle.std.specs.Prelude.{ℕ, ◌+◌, ◌*◌, ◌-◌, ◌^◌, ◌&&◌, ◌==◌, min, List, [], ◌∷◌, ◌++◌, codes, nat_eq, slice_index, Option, Some, None, if◌then◌else◌}
use Rattle.std.specs.Int.{from_be_bytes, w16, w32}
use Rattle.std.specs.List.{starts_with}

-- the number of four bytes at a place, the highest first
abbrev pub u32_at : List ℕ → ℕ → ℕ
u32_at contents at =
    from_be_bytes w32 (slice_index contents at ∷ slice_index contents (at + 1) ∷ slice_index contents (at + 2)
    ∷ slice_index contents (at + 3) ∷ [])

-- the number of two bytes at a place, the highest first
abbrev pub u16_at : List ℕ → ℕ → ℕ
u16_at contents at = from_be_bytes w16 (slice_index contents at ∷ slice_index contents (at + 1) ∷ [])

-- the number of bytes of a page: 1 stands for 65,536
abbrev pub page_size : List ℕ → ℕ
page_size contents = if u16_at contents 16 == 1 then 65_536 else u16_at contents 16

-- the size of the database, of which a file has the number of pages if that is from its last change
unfoldable pub database_size : List ℕ → Option ℕ
database_size contents =
    if starts_with nat_eq contents (codes "SQLite format 3" ++ 0 ∷ []) && u32_at contents 24 == u32_at contents 92
    then Some (min (u32_at contents 28 * page_size contents) (2 ^ 64 - 1)) else None
