use Rattle.std.proofs.Common.{◌≡◌, None, Some, true, false, sym, ap, ◌∙◌, lit<}
use Rattle.std.proofs.lemmas.Str.Pattern.{rfind_char}
use Rattle.cookie_strict.specs.Roots.{is_registrable}
use Rattle.cookie_strict.proofs.RootsFromRight.{cut_at_dot, dot_found, is_some_of, no_root, root_found, still_none, IsDotBefore}
use Rattle.cookie_strict.proofs.root.shortest_registrable.Goals as goal

pub returns-then-is_some : goal.returns-then-is_some
returns-then-is_some c =
    let domain = c.args.domain.now in
    let test = is_registrable c.args.list.now in
    let shorter = c.range_from-shorter in
    let at : IsDotBefore domain c.loop-dot.end c.in-Some.dot =
    dot_found domain c.range.result.now c.loop-dot.end c.in-Some.dot c.range.ensures.value c.loop-dot.invariant.cut.0
    (rfind_char 46 c.range.result.now (Some c.in-Some.dot) c.in-Some.ensures.cases (lit< tt)) in
    let passes : test shorter.result.now ≡ true =
    is_some_of (λ r. r.now) c.registrable_domain.result _ true c.registrable_domain.ensures (sym c.is_some.ensures ∙ c.if-is_some.true) in
    shorter.ensures.value
    ∙ root_found test domain c.loop-dot.end c.in-Some.dot at c.loop-dot.invariant.rejected (ap test (sym shorter.ensures.value) ∙ passes)

pub loop-dot-preserved : goal.loop-dot-preserved
loop-dot-preserved c =
    let domain = c.args.domain.now in
    let test = is_registrable c.args.list.now in
    let shorter = c.range_from-shorter in
    let at : IsDotBefore domain c.loop-dot.end c.in-Some.dot =
    dot_found domain c.range.result.now c.loop-dot.end c.in-Some.dot c.range.ensures.value c.loop-dot.invariant.cut.0
    (rfind_char 46 c.range.result.now (Some c.in-Some.dot) c.in-Some.ensures.cases (lit< tt)) in
    let fails : test shorter.result.now ≡ false =
    is_some_of (λ r. r.now) c.registrable_domain.result _ false c.registrable_domain.ensures (sym c.is_some.ensures ∙ c.if-is_some.false) in
    record {
      cut = cut_at_dot domain c.loop-dot.end c.in-Some.dot at;
      rejected = still_none test domain c.loop-dot.end c.in-Some.dot at c.loop-dot.invariant.rejected
          (ap test (sym shorter.ensures.value) ∙ fails);
    }

pub returns : goal.returns
returns c =
    no_root (is_registrable c.args.list.now) c.args.domain.now c.range.result.now c.loop-dot.end c.range.ensures.value c.loop-dot.invariant.cut.0
    (rfind_char 46 c.range.result.now None c.in_default.ensures.cases (lit< tt)) c.loop-dot.invariant.rejected
