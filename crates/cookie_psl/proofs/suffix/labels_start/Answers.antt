use Rattle.std.proofs.Common.{◌≡◌, Some, None, ap, ◌∙◌, subst, arith}
use Rattle.std.specs.Str.{IsUtf8}
use Rattle.std.proofs.lemmas.Str.{IsCharBoundary-start}
use Rattle.cookie_psl.specs.Rules.{last_labels}
use Rattle.cookie_psl.proofs.LastLabels.{before_is_utf8, rsplit_parts, HasPassed-none, HasPassed-more, HasPassed-all}
use Rattle.cookie_psl.proofs.suffix.labels_start.Goals as goal

pub loop-init : goal.loop-init
loop-init c = (c.utf8.domain, HasPassed-none c.args.domain.now)

pub loop-preserved : goal.loop-preserved
loop-preserved c =
    let prefix = c.loop.prefix.now in
    let before = c.in-Some.before.now in
    let label = c.in-Some.field-0-1.now in
    let parts = rsplit_parts prefix (Some (c.in-Some.before, c.in-Some.field-0-1)) c.in-Some.ensures.cases in (
      before_is_utf8 before label (subst IsUtf8 parts.0 c.loop.invariant.0),
      HasPassed-more c.args.domain.now prefix before label c.loop.counter c.loop.start c.utf8.domain parts.1 parts.0 c.loop.invariant.1,
    )

pub returns-in-None-clause-labels : goal.returns-in-None-clause-labels
returns-in-None-clause-labels c =
    let prefix = c.loop.prefix.now in
    HasPassed-all c.args.domain.now prefix c.loop.counter c.args.count c.loop.start (rsplit_parts prefix None c.in-None.ensures.cases)
    c.loop-test.true c.loop.invariant.1

pub returns-in-None-clause-cut : goal.returns-in-None-clause-cut
returns-in-None-clause-cut c = IsCharBoundary-start c.args.domain.now c.utf8.domain

pub returns-clause-labels : goal.returns-clause-labels
returns-clause-labels c =
    let all : c.loop.counter ≡ c.args.count = omega arith in
    c.loop.invariant.1.labels ∙ ap (λ count. last_labels count c.args.domain.now) all
