use Rattle.std.proofs.Common.{◌∙◌, ◌+◌, ◌-◌, ◌^◌, [], ◌∷◌, ◌++◌, IfSome, ap, arith, min, refl, sym, rules}
use Rattle.std.specs.Fn.{FnReturnsAt}
use Rattle.std.proofs.lemmas.Option.{IfSome_then}
use Rattle.std.proofs.lemmas.Result.{err_from_is_err_and}
use Rattle.cookie_serde.specs.Loading.{ParsesToCookie}
use Rattle.cookie_serde.proofs.LoadErrors.{stops_at, stops_reading}
use Rattle.cookie_serde.proofs.LoadedLines.{IsEnded, begun, built_none, ended, filled, finished, last_found, next_found, not_read, number_more, passed, taken_built, within}
use Rattle.cookie_serde.proofs.Pairs.{AllZip-more, both}
use Rattle.cookie_serde.proofs.loading.insert_lines.Goals as goal
use Rattle.cookie_serde.proofs.loading.insert_lines.Goals.{then-not-is_empty+in_ok-insert_numbered-2, else-not-is_empty}

pub lines-init : goal.lines-init
lines-init g c = record {
  reads = refl;
  loaded = (
    [],
    [],
    tt,
    c.requires.empty.0 ∙ built_none c.args.which,
    refl,
    rw c.requires.empty.1 (begun (g.R.Source.state c.args.source.now).remaining),
  );
  turns = search rules;
}

pub returns-in_err-insert_numbered-clause-failed : goal.returns-in_err-insert_numbered-clause-failed
returns-in_err-insert_numbered-clause-failed g c =
    let p = err_from_is_err_and c.from_residual.result c.from_residual.ensures.1 in
    let (done, cookies, are_made, are_built, number, known) = c.lines.invariant.loaded in
    let Parses = FnReturnsAt g.F.Fn c.args.cookie_of.now in
    let first = IfSome_then (g.R.Source.state c.args.source.now).remaining known
    (λ text l. next_found text _ _ _ done c.in-Some.end l c.in-Some.ensures.line c.line-line.ensures) in
    rw (p.1, p.2)
    (stops_at Parses _ _ c.line-line.result.now _ _ c.in_err-insert_numbered.ensures.failed (done, cookies, are_made, number, first) c.lines.invariant.reads)

pub lines-preserved-in-Some : goal.lines-preserved-in-Some
lines-preserved-in-Some g c =
    let (done, cookies, are_made, are_built, number, known) = c.lines.invariant.loaded in
    let Parses = FnReturnsAt g.F.Fn c.args.cookie_of.now in
    let line = c.line-line.result.now in
    let (cookie, parses_it, built_now) = taken_built Parses _ _ _ _ cookies c.in_ok-insert_numbered.ensures.taken are_built in
    record {
      reads = c.lines.invariant.reads;
      loaded = (
        done ++ line ∷ [],
        cookies ++ cookie ∷ [],
        AllZip-more (ParsesToCookie Parses) done cookies line cookie are_made parses_it,
        built_now,
        c.saturating_add-number.ensures ∙ ap (λ n. min (n + 1) (2 ^ 64 - 1)) number ∙ number_more done line,
        IfSome_then (g.R.Source.state c.args.source.now).remaining known
            (λ text l. passed text _ _ _ _ done c.in-Some.end l c.in-Some.ensures.line c.line-line.ensures c.pass.ensures),
      );
      turns = c.lines.invariant.turns;
    }

pub lines-preserved : goal.lines-preserved
lines-preserved g c =
    let (done, cookies, are_made, are_built, number, known) = c.lines.invariant.loaded in
    let filling = c.in_ok-fill.ensures in
    record {
      reads = filling.count ∙ c.lines.invariant.reads;
      loaded = (
        done,
        cookies,
        are_made,
        are_built,
        number,
        IfSome_then (g.R.Source.state c.args.source.now).remaining known
            (λ text l. filled text _ _ _ _ done l filling.bytes filling.at_hand filling.moved),
      );
      turns =
          IfSome_then (g.R.Source.state c.args.source.now).remaining c.lines.invariant.turns
          (λ input gave.
          let (left, known, count) = gave in
          let (less, is, moved) = rw known at filling.moved in
          let longer = filling.came c.if-not-branch.false in
          let one = filling.fewer in
          (less, is, omega arith));
    }

pub returns-in_err-fill-clause-failed : goal.returns-in_err-fill-clause-failed
returns-in_err-fill-clause-failed g c =
    let p = err_from_is_err_and c.from_residual-in_err-fill.result c.from_residual-in_err-fill.ensures.1 in
    let (done, cookies, are_made, are_built, number, known) = c.lines.invariant.loaded in
    let Parses = FnReturnsAt g.F.Fn c.args.cookie_of.now in
    let filling = c.in_err-fill.ensures in
    let none = rw (sym filling.err) at (sym c.in_default.ensures.first) in
    let brought = IfSome_then (g.R.Source.state c.args.source.now).remaining c.lines.invariant.turns
    (λ text gave. not_read _ _ _ _ _ _ _ _ gave filling.moved filling.err filling.as_many) in
    let stops = IfSome_then (g.R.Source.state c.args.source.now).remaining (both _ _ (g.R.Source.state c.args.source.now).remaining known brought)
    (λ text is. within Parses text _ done cookies (g.R.Source.state c.args.source.now) (g.R.Source.state c.fill.new.source) are_made (filled text _ _ _ _ done is.0 filling.bytes filling.at_hand filling.moved) is.1 none) in
    rw (p.1, p.2) (stops_reading Parses _ _ _ _ stops filling.count c.lines.invariant.reads)

pub returns-in_err-insert_numbered-2-clause-failed : goal.returns-in_err-insert_numbered-2-clause-failed
returns-in_err-insert_numbered-2-clause-failed g c =
    let p = err_from_is_err_and c.from_residual-in_err-insert_numbered-2.result c.from_residual-in_err-insert_numbered-2.ensures.1 in
    let (done, cookies, are_made, are_built, number, known) = c.lines.invariant.loaded in
    let Parses = FnReturnsAt g.F.Fn c.args.cookie_of.now in
    let filling = c.in_ok-fill.ensures in
    let (same, end) = filling.end c.if-not-branch.true in
    let one = rw (sym same) at (c.line_end.ensures.last c.in_default.is) in
    let some = rw c.rest-line.ensures at c.if-not-is_empty.ensures in
    let first = IfSome_then (g.R.Source.state c.args.source.now).remaining known
    (λ text l.
    let all = ended text _ _ done (filled text _ _ _ _ done l filling.bytes filling.at_hand filling.moved) end one in
    ([], last_found text _ done all some)) in
    let fails = rw c.rest-line.ensures at c.in_err-insert_numbered-2.ensures.failed in
    rw (p.1, p.2)
    (stops_at Parses _ _ c.fill.new.self _ _ fails (done, cookies, are_made, number, first) (filling.count ∙ c.lines.invariant.reads))

pub returns-clause-built : goal.returns-clause-built
returns-clause-built g c =
    let (done, cookies, are_made, are_built, number, known) = c.lines.invariant.loaded in
    let Parses = FnReturnsAt g.F.Fn c.args.cookie_of.now in
    let filling = c.in_ok-fill.ensures in
    let (same, end) = filling.end c.if-not-branch.true in
    let one = rw (sym same) at (c.line_end.ensures.last c.in_default.is) in
    let all : IfSome (g.R.Source.state c.args.source.now).remaining (IsEnded c.fill.new.self done)
    = IfSome_then (g.R.Source.state c.args.source.now).remaining known
    (λ text l. ended text _ _ done (filled text _ _ _ _ done l filling.bytes filling.at_hand filling.moved) end one) in
    elim c.if-not-is_empty.branch [
      | then-not-is_empty+in_ok-insert_numbered-2 w ↦
          let takes = rw c.rest-line.ensures at w.in_ok-insert_numbered-2.ensures.taken in
          let (cookie, parses_it, built_now) = taken_built Parses _ _ _ _ cookies takes are_built in
          let some = rw c.rest-line.ensures at w.if-not-is_empty.ensures in (
            done ++ c.fill.new.self ∷ [],
            cookies ++ cookie ∷ [],
            AllZip-more (ParsesToCookie Parses) done cookies c.fill.new.self cookie are_made parses_it,
            w.rows-is ∙ built_now,
            IfSome_then (g.R.Source.state c.args.source.now).remaining all (λ text e. sym (last_found text _ done e some)),
          )
      | else-not-is_empty w ↦
          let empty = rw c.rest-line.ensures at w.if-not-is_empty.ensures in (
            done,
            cookies,
            are_made,
            w.rows-is ∙ are_built,
            IfSome_then (g.R.Source.state c.args.source.now).remaining all (λ text e. finished text _ done e empty),
          )
    ]
