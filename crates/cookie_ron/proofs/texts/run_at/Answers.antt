use Rattle.std.proofs.Common.{◌==◌, ◌||◌, ◌++◌, length, take, drop, ap, subst, sym, ◌∙◌}
use Rattle.std.specs.List.{position_or_len}
use Rattle.std.specs.Option.{unwrap_or}
use Rattle.std.specs.Str.{chars, IsCharBoundary}
use Rattle.std.proofs.lemmas.Str.{encodes-chars, IsUtf8-take}
use Rattle.cookie_ron.proofs.Chars.{cut_chars, found_or_len, run_boundary, run_plain}
use Rattle.cookie_ron.proofs.texts.run_at.Goals as goal

pub split_at-requires : goal.split_at-requires
split_at-requires c =
    let bs = c.args.input.now in
    let end = c.unwrap_or-end.ensures ∙ ap (λ o. unwrap_or o (length bs)) c.run_end.ensures ∙ found_or_len (λ c. (c == 34) || (c == 92)) bs in
    subst (λ i. IsCharBoundary bs i) (sym end) (run_boundary bs c.utf8.input)

pub returns : goal.returns
returns c =
    let bs = c.args.input.now in
    let at = position_or_len (λ c. (c == 34) || (c == 92)) bs in
    let end = c.unwrap_or-end.ensures ∙ ap (λ o. unwrap_or o (length bs)) c.run_end.ensures ∙ found_or_len (λ c. (c == 34) || (c == 92)) bs in
    let boundary = run_boundary bs c.utf8.input in (
      chars (take at bs),
      c.split_at.ensures.front ∙ ap (λ i. take i bs) end ∙ sym (encodes-chars (take at bs) (IsUtf8-take bs at c.utf8.input boundary)),
      cut_chars bs at c.utf8.input boundary ∙ ap (λ t. chars (take at bs) ++ chars t) (sym (c.split_at.ensures.back ∙ ap (λ i. drop i bs) end)),
      run_plain bs c.utf8.input,
    )
