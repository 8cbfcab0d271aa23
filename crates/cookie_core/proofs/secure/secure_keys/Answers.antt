use Rattle.std.proofs.Common.{◌≡◌, map, subst, sym, rules, false}
use Rattle.std.specs.List.{All}
use Rattle.std.proofs.lemmas.Bool.{both_ways}
use Rattle.std.proofs.lemmas.List.Elements.{All-push, All-weaker}
use Rattle.cookie_parts.specs.Cookie.{is_secure_only}
use Rattle.cookie_core.specs.SecureIndexes.{IsKeyed}
use Rattle.cookie_core.proofs.KeyedRows.{keyed_new, keyed_still}
use Rattle.cookie_core.proofs.Walked.{done_more, walked_on}
use Rattle.cookie_core.proofs.secure.secure_keys.Goals as goal

pub loop-row-preserved-in-Continue-1 : goal.loop-row-preserved-in-Continue-1
loop-row-preserved-in-Continue-1 c =
    let l = c.loop-row in
    let row = c.in-Some.row.now in
    let before = map (λ c. c.now) l.yielded in
    let keys = c.add.new.self in
    record {
      keyed =
          subst (All (IsKeyed keys)) (sym (done_more l.yielded c.in-Some.row))
          (All-push (IsKeyed keys) before row
          (All-weaker (IsKeyed l.keys) (IsKeyed keys) (keyed_still l.keys keys row c.in_ok-add.ensures.added) before l.invariant.keyed)
          (keyed_new l.keys keys row c.in_ok-add.ensures.added));
      rest = walked_on l.yielded c.in-Some.row l.row-iterator c.next.new.self c.args.rows.now.rows c.in-Some.ensures.steps l.invariant.rest;
    }

pub loop-row-preserved : goal.loop-row-preserved
loop-row-preserved c =
    let l = c.loop-row in
    let row = c.in-Some.row.now in
    let before = map (λ c. c.now) l.yielded in
    let plain : is_secure_only row.raw ≡ false = search rules in
    record {
      keyed =
          subst (All (IsKeyed l.keys)) (sym (done_more l.yielded c.in-Some.row))
          (All-push (IsKeyed l.keys) before row l.invariant.keyed (λ secure. absurd (both_ways (is_secure_only row.raw) plain secure)));
      rest = walked_on l.yielded c.in-Some.row l.row-iterator c.next.new.self c.args.rows.now.rows c.in-Some.ensures.steps l.invariant.rest;
    }
