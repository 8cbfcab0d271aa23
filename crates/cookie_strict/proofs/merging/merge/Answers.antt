use Rattle.std.proofs.Common.{◌≡◌, ◌∙◌, ap, arith, cond, length, sym}
use Rattle.cookie_words.specs.Moments.{moment_of}
use Rattle.cookie_strict.proofs.Merged.{allowed_on, merged_on, walked_on}
use Rattle.cookie_strict.proofs.merging.merge.Goals as goal

pub loop-cookie-preserved-then-branch : goal.loop-cookie-preserved-then-branch
loop-cookie-preserved-then-branch c =
    let l = c.loop-cookie in
    let now = moment_of c.args.now in
    let one : 1 ≡ _ = ap (λ stored. cond stored 1 0) (sym c.if-branch.true) ∙ c.in_ok-insert_from_own_page.ensures.stored in
    let counted = allowed_on now l.yielded c.in-Some.cookie c.args.store.now l.store l.invariant.merged 1 one in
    let more = ap length c.in-Some.ensures.steps in
    record {
      can = tt;
      ends = tt;
      merged = merged_on now l.yielded c.in-Some.cookie c.args.store.now l.store l.invariant.merged c.insert_from_own_page.new.store c.in_ok-insert_from_own_page.ensures.store;
      counted = omega (arith, counted, l.invariant.counted, l.invariant.enough, more);
      enough = omega (arith, l.invariant.enough, more);
      all = walked_on now l.yielded c.in-Some.cookie c.args.store.now l.store l.invariant.merged l.cookie-iterator c.next.new.self c.args.other.now.rows c.in-Some.ensures.steps l.invariant.all;
    }

pub loop-cookie-preserved : goal.loop-cookie-preserved
loop-cookie-preserved c =
    let l = c.loop-cookie in
    let now = moment_of c.args.now in
    let none : 0 ≡ _ = ap (λ stored. cond stored 1 0) (sym c.if-branch.false) ∙ c.in_ok-insert_from_own_page.ensures.stored in
    let counted = allowed_on now l.yielded c.in-Some.cookie c.args.store.now l.store l.invariant.merged 0 none in
    let more = ap length c.in-Some.ensures.steps in
    record {
      can = tt;
      ends = tt;
      merged = merged_on now l.yielded c.in-Some.cookie c.args.store.now l.store l.invariant.merged c.insert_from_own_page.new.store c.in_ok-insert_from_own_page.ensures.store;
      counted = omega (arith, counted, l.invariant.counted);
      enough = omega (arith, l.invariant.enough, more);
      all = walked_on now l.yielded c.in-Some.cookie c.args.store.now l.store l.invariant.merged l.cookie-iterator c.next.new.self c.args.other.now.rows c.in-Some.ensures.steps l.invariant.all;
    }
