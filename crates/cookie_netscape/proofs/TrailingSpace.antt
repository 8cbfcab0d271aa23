-- White space behind a line.
use Rattle.std.proofs.Common.{◌≡◌, ℕ, suc, ◌+◌, ◌-◌, ◌≤◌, true, List, [], ◌∷◌, ◌++◌, length, reverse, take, drop, sym, ap, ◌∙◌, ⊎_elim, arith, length-append}
use Rattle.std.specs.Char.{is_ascii_whitespace}
use Rattle.std.specs.List.{prefix_len, suffix_len}
use Rattle.std.proofs.lemmas.Bool.{cases_Bool, cond-true}
use Rattle.std.proofs.lemmas.List.{length-reverse, reverse-append, take-append-le}
use Rattle.std.proofs.lemmas.List.Sums.{prefix_len-le-length}
use Rattle.cookie_netscape.specs.Lines.{content, content_cookie, line_cookie}
use Rattle.cookie_netscape.proofs.TrimmedLines.{before_space, no_space_first}

-- one byte of white space more at the end of a line
space_counted : (line : List ℕ) (b : ℕ) → is_ascii_whitespace b ≡ true
    → suffix_len is_ascii_whitespace (line ++ b ∷ []) ≡ 1 + suffix_len is_ascii_whitespace line
space_counted line b space = ap (prefix_len is_ascii_whitespace) (reverse-append line (b ∷ [])) ∙ cond-true _ _ _ space

-- it is dropped
space_dropped : (line : List ℕ) (b : ℕ) → is_ascii_whitespace b ≡ true → before_space (line ++ b ∷ []) ≡ before_space line
space_dropped line b space =
    let counted = space_counted line b space in
    let long = length-append line (b ∷ []) in
    let few : suffix_len is_ascii_whitespace line ≤ length line = omega (arith, prefix_len-le-length is_ascii_whitespace (reverse line), length-reverse line) in
    ap (λ n. take n (line ++ b ∷ [])) (let e : length (line ++ b ∷ []) - suffix_len is_ascii_whitespace (line ++ b ∷ []) ≡ length line - suffix_len is_ascii_whitespace line = omega (arith, counted, long, few) in e)
    ∙ take-append-le (length line - suffix_len is_ascii_whitespace line) line (b ∷ []) (omega arith)

-- white space before a line is dropped
space_before : (b : ℕ) (line : List ℕ) → is_ascii_whitespace b ≡ true → content (b ∷ line) ≡ content line
space_before b line space =
    ap (λ n. before_space (drop n (b ∷ line))) (cond-true _ _ _ space ∙ (let e : 1 + prefix_len is_ascii_whitespace line ≡ suc (prefix_len is_ascii_whitespace line) = omega arith in e))

-- white space behind a line is dropped
content_ends : (line : List ℕ) (b : ℕ) → is_ascii_whitespace b ≡ true → content (line ++ b ∷ []) ≡ content line
content_ends [] b space = space_before b [] space
content_ends (first ∷ line) b space =
    ⊎_elim (λ blank. space_before first (line ++ b ∷ []) blank ∙ content_ends line b space ∙ sym (space_before first line blank))
    (λ other. no_space_first (first ∷ line ++ b ∷ []) other ∙ space_dropped (first ∷ line) b space ∙ sym (no_space_first (first ∷ line) other))
    (cases_Bool (is_ascii_whitespace first))

-- it changes nothing
pub end_ignored : (line : List ℕ) (b : ℕ) → is_ascii_whitespace b ≡ true → line_cookie (line ++ b ∷ []) ≡ line_cookie line
end_ignored line b space = ap content_cookie (content_ends line b space)
