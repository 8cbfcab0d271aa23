use Rattle.std.proofs.Common.{sym, ◌∙◌}
use Rattle.std.proofs.lemmas.Bool.{cond-false, cond-true}
use Rattle.cookie_strict.proofs.CheckedPairs.{checked_error, pair_lacks}
use Rattle.cookie_strict.proofs.header_value.checked_raw.Goals as goal

pub returns-then-is_too_long-clause-error : goal.returns-then-is_too_long-clause-error
returns-then-is_too_long-clause-error c =
    checked_error c.args.text.now c.in-Ok.raw c.in-Ok.ensures.slices (sym c.has_control.ensures ∙ c.if-has_control.false) (sym c.in-Ok.ensures.reading)
    ∙ cond-true _ _ _ (sym c.is_too_long.ensures ∙ c.if-is_too_long.true)

pub returns-then-not-has_visible_domain-clause-error : goal.returns-then-not-has_visible_domain-clause-error
returns-then-not-has_visible_domain-clause-error c =
    checked_error c.args.text.now c.in-Ok.raw c.in-Ok.ensures.slices (sym c.has_control.ensures ∙ c.if-has_control.false) (sym c.in-Ok.ensures.reading)
    ∙ cond-false _ _ _ (sym c.is_too_long.ensures ∙ c.if-is_too_long.false)
    ∙ cond-false _ _ _ (sym c.has_visible_domain.ensures ∙ c.if-not-has_visible_domain.true)

pub returns-clause-pair : goal.returns-clause-pair
returns-clause-pair c =
    pair_lacks c.args.text.now c.in-Ok.raw c.in-Ok.ensures.slices (sym c.has_control.ensures ∙ c.if-has_control.false)
    ∙ cond-false _ _ _ (sym c.is_too_long.ensures ∙ c.if-is_too_long.false)

pub returns-clause-passed : goal.returns-clause-passed
returns-clause-passed c =
    checked_error c.args.text.now c.in-Ok.raw c.in-Ok.ensures.slices (sym c.has_control.ensures ∙ c.if-has_control.false) (sym c.in-Ok.ensures.reading)
    ∙ cond-false _ _ _ (sym c.is_too_long.ensures ∙ c.if-is_too_long.false)
    ∙ cond-true _ _ _ (sym c.has_visible_domain.ensures ∙ c.if-not-has_visible_domain.false)
