use Rattle.std.proofs.Common.{length, drop, not, ap, subst, sym, ◌∙◌}
use Rattle.std.specs.Option.{unwrap_or}
use Rattle.std.specs.Str.{chars, IsCharBoundary}
use Rattle.cookie_ron.specs.Grammar.{is_blank}
use Rattle.cookie_ron.proofs.Chars.{blanks_boundary, blanks_dropped, found_or_len}
use Rattle.cookie_ron.proofs.tokens.drop_blanks.Goals as goal

pub range_from-requires : goal.range_from-requires
range_from-requires c _ =
    let bs = c.args.input.now in
    let start = c.unwrap_or-start.ensures ∙ ap (λ o. unwrap_or o (length bs)) c.blanks_end.ensures ∙ found_or_len (λ b. not (is_blank b)) bs in
    subst (λ i. IsCharBoundary bs i) (sym start) (blanks_boundary bs c.utf8.input)

pub returns : goal.returns
returns c =
    let bs = c.args.input.now in
    let start = c.unwrap_or-start.ensures ∙ ap (λ o. unwrap_or o (length bs)) c.blanks_end.ensures ∙ found_or_len (λ b. not (is_blank b)) bs in
    ap chars (c.range_from.ensures.value ∙ ap (λ i. drop i bs) start) ∙ blanks_dropped bs c.utf8.input
