-- SP and HTAB at the ends of a string.
use Rattle.std.proofs.Common.{◌≡◌, ℕ, zero, suc, ◌+◌, ◌<◌, ◌≤◌, Bool, true, false, ◌||◌, eqb, List, length, get_or, refl, subst, arith}
use Rattle.std.specs.List.{prefix_len}
use Rattle.std.specs.Str.{IsUtf8, IsCharBoundary}
use Rattle.std.proofs.lemmas.Bool.{eqb-true}
use Rattle.std.proofs.lemmas.List.Sums.{prefix_len-le-length, prefix_len_passes}
use Rattle.std.proofs.lemmas.Str.{IsCharBoundary-after_ascii, IsCharBoundary-start}
use Rattle.cookie_raw.specs.Rfc6265bis.{is_white_space}

-- one of two bytes below 128
below_128 : (b : ℕ) (is_space is_tab : Bool) → eqb b 32 ≡ is_space → eqb b 9 ≡ is_tab → is_space || is_tab ≡ true → b < 128
below_128 b true is_tab e f h = omega (arith, eqb-true b 32 e)
below_128 b false true e f h = omega (arith, eqb-true b 9 f)
below_128 b false false e f h = absurd (cc)

-- SP and HTAB are ASCII
is_ascii : (b : ℕ) → is_white_space b ≡ true → b < 128
is_ascii b h = below_128 b (eqb b 32) (eqb b 9) refl refl h

-- a string may be cut behind the white space at its start
pub cut_behind : (text : List ℕ) → IsUtf8 text → (n : ℕ) → n ≡ prefix_len is_white_space text → IsCharBoundary text n
cut_behind text utf8 zero e = IsCharBoundary-start text utf8
cut_behind text utf8 (suc m) e =
    let within : suc m ≤ length text = omega (arith, prefix_len-le-length is_white_space text) in
    let last : get_or text m 0 < 128 = is_ascii (get_or text m 0) (prefix_len_passes is_white_space text m 0 (omega arith)) in
    let end : m + 1 ≡ suc m = omega arith in
    subst (IsCharBoundary text) end (IsCharBoundary-after_ascii text m utf8 (omega arith) last)
