use Rattle.std.proofs.Common.{◌+◌, ◌∙◌, arith, map, subst, sym, take}
use Rattle.std.proofs.lemmas.List.{length-map}
use Rattle.cookie_words.specs.Moments.{moment_of}
use Rattle.cookie_rows.specs.Least.{IsLeastOfGroups, stored_items}
use Rattle.cookie_rows.proofs.LeastSearch.{groups_step, names_there, none_past}
use Rattle.cookie_rows.proofs.least.least_of.Goals.{in-Some, in_default}
use Rattle.cookie_rows.proofs.least.least_of.Goals as goal

pub loop-path-preserved : goal.loop-path-preserved
loop-path-preserved c =
    let order = c.args.order in
    let now = moment_of c.args.now in
    let paths = c.args.paths.now in
    let groups = map (λ p. stored_items p.1.1) paths in
    let n = c.loop-path.path in
    elim c.match-at.branch [
      | in-Some w ↦
          let names = w.in-Some.names.now in
          subst (IsLeastOfGroups order now (take (n + 1) groups)) (sym (w.least-is ∙ w.lesser-least.ensures))
          (groups_step order now groups n (stored_items names) c.loop-path.least w.least_in.result (names_there paths n names w.in-Some.ensures.names) c.loop-path.invariant w.least_in.ensures)
      | in_default w ↦
          absurd (omega (arith, none_past (map (λ p. p.1.1) paths) n w.in_default.ensures.names, length-map paths (λ p. p.1.1), c.len-path-end.ensures.stored, c.loop-path-test.true))
    ]
