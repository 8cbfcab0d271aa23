use Rattle.std.proofs.Common.{◌≡◌, ℕ, ◌<◌, Bool, true, false, cond, List, [], ◌∷◌, length, Option, Some, None, option_map, MatchOption, Bor, refl, sym, ap, ◌∙◌, arith, lit<}
use Rattle.std.specs.List.{after_first, before_first, list_any, position_or_len}
use Rattle.std.proofs.lemmas.Str.Pattern.{split_once_first}
use Rattle.cookie_script.specs.Commands.{first_word, is_space}
use Rattle.cookie_script.specs.CommandViews.{words_view}
use Rattle.cookie_script.proofs.command.first_word.Goals as goal

-- if no position passes the test, no element does
none_passes : {X : Type 0} (p : X → Bool) (xs : List X) → position_or_len p xs ≡ length xs → list_any p xs ≡ false
none_passes p [] e = refl
none_passes p (x ∷ xs) e = grind (arith, none_passes p xs)

-- if a position passes the test, an element does
some_passes : {X : Type 0} (p : X → Bool) (xs : List X) → position_or_len p xs < length xs → list_any p xs ≡ true
some_passes p [] e = absurd (omega arith)
some_passes p (x ∷ xs) e = grind (arith, some_passes p xs)

-- the two sides of the first space
words_at_space : (text : List ℕ) (words : Option (Bor (List ℕ) × Bor (List ℕ)))
    → MatchOption words (position_or_len is_space text ≡ length text) (λ w. (position_or_len is_space text < length text)
    × (w.0.now ≡ before_first is_space text) × (w.1.now ≡ after_first is_space text))
    → option_map words_view words ≡ first_word text
words_at_space text None h =
    ap (λ has_space. cond has_space (Some (before_first is_space text, after_first is_space text)) None) (sym (none_passes is_space text h))
words_at_space text (Some w) h =
    ap (λ first. Some (first, w.1.now)) h.1 ∙ ap (λ second. Some (before_first is_space text, second)) h.2
    ∙ ap (λ has_space. cond has_space (Some (before_first is_space text, after_first is_space text)) None) (sym (some_passes is_space text h.0))

pub returns : goal.returns
returns c = words_at_space c.args.text.now _ (split_once_first 32 c.args.text.now _ c.split_once.ensures.cases (lit< tt))
