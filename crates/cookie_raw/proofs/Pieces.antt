-- The attributes are the pieces of what follows the first `;`.
use Rattle.std.proofs.Common.{◌≡◌, ℕ, ◌<◌, List, [], true, length, drop, sym, ap, arith, lit<}
use Rattle.std.specs.List.{after_first, position_or_len}
use Rattle.std.specs.Str.Iter.{split_text, split_has_more, split_pattern, split_steps}
use Rattle.std.specs.Str.Pattern.{FindsChar}
use Rattle.std.proofs.lemmas.Iterator.{YieldsList}
use Rattle.std.proofs.lemmas.Iterator.Consumers.{YieldsList-at}
use Rattle.std.proofs.lemmas.Iterator.Splits.{YieldsList-from_str_split}
use Rattle.std.proofs.lemmas.List.Splits.{slice_split_first, slice_split_none}
use Rattle.std.proofs.lemmas.List.Sums.{fails_before_first}
use Rattle.cookie_words.specs.Strings.{pieces}
use Rattle.cookie_raw.specs.SetCookie.{attributes, is_semicolon}

-- the attributes of a string with a `;`
pub attributes-after_first : (text : List ℕ) → position_or_len is_semicolon text < length text
    → pieces 59 (after_first is_semicolon text) ≡ attributes text
attributes-after_first text has = sym (ap (drop 1) (slice_split_first is_semicolon text 0 has))

-- a string without `;` has no attributes
pub attributes-none : (text : List ℕ) → position_or_len is_semicolon text ≡ length text → [] ≡ attributes text
attributes-none text none =
    sym (ap (drop 1) (slice_split_none is_semicolon text (λ k d within. fails_before_first is_semicolon text k d (omega arith))))

-- the pieces that the loop over `text.split(';')` visits
pub yields_pieces : {s : _} {i : _} (text : List ℕ)
    → split_text s ≡ text → split_has_more s ≡ true → split_pattern {P = ℕ} s ≡ 59 → i ≡ s
    → YieldsList (split_steps FindsChar (λ a b. b ≡ a)) (λ x. x.now) i (pieces 59 text)
yields_pieces text whole more pattern same =
    YieldsList-at same (YieldsList-from_str_split 59 text (lit< tt) whole more pattern)
