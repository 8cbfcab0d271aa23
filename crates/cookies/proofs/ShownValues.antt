-- Values in the table.
use Rattle.std.proofs.Common.{◌≡◌, ℕ, ◌<◌, ◌≤◌, ◌++◌, List, [], ◌∷◌, flat_map, length, take, cond, sym, ap, ◌∙◌, arith}
use Rattle.std.specs.Char.{encode_utf8}
use Rattle.std.specs.Str.{chars}
use Rattle.std.proofs.lemmas.Bool.{le-leb, lt-leb}
use Rattle.std.proofs.lemmas.List.{append-nil, take_all}
use Rattle.cookies.specs.Cells.{value_cell}
use Rattle.cookies.specs.Escapes.{escaped_char}

-- a value of more than 40 characters
pub cut_value : (value shown cell new : List ℕ) → shown ≡ take (length shown) (chars value) → length shown ≡ 40
    → 40 < length (chars value) → cell ≡ flat_map escaped_char shown → new ≡ cell ++ encode_utf8 8230 → new ≡ value_cell value
unfolding encode_utf8
cut_value value shown cell new first count more is_cell is_new =
    is_new ∙ ap (λ text. text ++ encode_utf8 8230) (is_cell ∙ ap (flat_map escaped_char) (first ∙ ap (λ n. take n (chars value)) count))
    ∙ ap (λ is_whole. flat_map escaped_char (take 40 (chars value)) ++ cond is_whole [] (226 ∷ 128 ∷ 166 ∷ [])) (sym (lt-leb (length (chars value)) 40 more))

-- a value of at most 40 characters
pub whole_value : (value shown cell : List ℕ) → shown ≡ chars value → length shown ≤ 40 → cell ≡ flat_map escaped_char shown → cell ≡ value_cell value
whole_value value shown cell all few is_cell =
    let count : length (chars value) ≤ 40 = omega (arith, few, ap length all) in
    is_cell ∙ ap (flat_map escaped_char) (all ∙ sym (take_all 40 (chars value) count))
    ∙ sym (append-nil (flat_map escaped_char (take 40 (chars value))))
    ∙ ap (λ is_whole. flat_map escaped_char (take 40 (chars value)) ++ cond is_whole [] (226 ∷ 128 ∷ 166 ∷ [])) (sym (le-leb (length (chars value)) 40 count))
