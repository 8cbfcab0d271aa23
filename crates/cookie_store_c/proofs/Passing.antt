-- Rows of an iterator, one after the other.
use Rattle.std.proofs.Common.{◌≡◌, ◌<◌, List, arith, length, length-append, [], ◌∷◌, ◌++◌, Bor, ap, append_assoc, map, sym, ◌∙◌}
use Rattle.std.proofs.lemmas.List.{map-append}
use Rattle.cookie_parts.specs.Cookie.{Row}

-- the rows so far, and one more
pub one_more : (seen : List (Bor Row)) (row : Bor Row) → map (λ c. c.now) (seen ++ row ∷ []) ≡ map (λ c. c.now) seen ++ row.now ∷ []
one_more seen row = map-append (λ c. c.now) seen (row ∷ [])

-- the rows so far and the remaining ones are all rows
pub passed : (seen : List (Bor Row)) (row : Bor Row) (left after rows : List Row) → left ≡ row.now ∷ after
    → map (λ c. c.now) seen ++ left ≡ rows → map (λ c. c.now) (seen ++ row ∷ []) ++ after ≡ rows
passed seen row left after rows steps rest =
    ap (λ xs. xs ++ after) (one_more seen row) ∙ append_assoc (map (λ c. c.now) seen) (row.now ∷ []) after
    ∙ ap (λ xs. map (λ c. c.now) seen ++ xs) (sym steps) ∙ rest

-- they are more than before
pub among : (seen : List (Bor Row)) (row : Bor Row) (left after rows : List Row) → left ≡ row.now ∷ after
    → map (λ c. c.now) seen ++ left ≡ rows → length (map (λ c. c.now) seen) < length rows
among seen row left after rows steps rest =
    omega (arith, ap length rest, ap length steps, length-append (map (λ c. c.now) seen) left)
