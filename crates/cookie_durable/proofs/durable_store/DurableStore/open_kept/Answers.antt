use Rattle.std.proofs.Common.{◌≡◌, ℕ, sym, ap, ap₂, subst, ◌∙◌, inl, inr, arith}
use Rattle.sqlite_trees.specs.Tree.{Trees}
use Rattle.sqlite_trees.specs.View.{IsClean}
use Rattle.cookie_durable.specs.SavedTables.{Holds}
use Rattle.cookie_durable.specs.Sessions.{kept_rows}
use Rattle.cookie_durable.proofs.OpenedFiles.{err_by, ok_by}
use Rattle.cookie_durable.proofs.SavedFiles.{open_if_sound}
use Rattle.cookie_durable.proofs.durable_store.DurableStore.open_kept.Goals as goal

pub returns-clause-found : goal.returns-clause-found
returns-clause-found g c =
    let view = g.S.Store.view in
    let file = c.args.file in
    let opened = c.in-Ok.opened in
    let e = c.without_session.ensures in
    ok_by c.without_session.result _ _ _ _ _ e.found e.kept e.kept e.kept (λ d found kept _ _ now.
    let loaded : IsClean (view opened.file) = omega (arith, now, kept.clean) in
    let clean : IsClean (view file) = omega (arith, loaded, c.in-Ok.ensures.quiet.clean) in
    let was_open = open_if_sound _ _ (g.met.S.Store.broken_if_shut file) (c.requires.sound clean) in
    let is_open = (c.in-Ok.ensures.in_step.saved c.in-Ok.ensures.works loaded).is_open in
    let same : (view opened.file).committed ≡ (view file).committed =
    g.met.S.Store.settled file _ was_open (c.in-Ok.ensures.quiet.outcomes _ (g.met.S.Store.stays opened.file is_open)) in
    let rows : (view opened.file).committed opened.table ≡ (view file).committed c.args.table = ap₂ (λ (t : Trees) (n : ℕ). t n) same c.in-Ok.ensures.table in
    subst (Holds d.store) (ap₂ kept_rows (sym c.if-keep_session.false) rows) (found now))

pub returns-clause-kept : goal.returns-clause-kept
returns-clause-kept g c =
    let view = g.S.Store.view in
    let file = c.args.file in
    let opened = c.in-Ok.opened in
    let e = c.without_session.ensures in
    ok_by c.without_session.result _ _ _ _ _ e.kept e.kept e.kept e.kept (λ d kept _ _ _. record {
      shield = λ s. kept.shield (c.in-Ok.ensures.quiet.shield s);
      clean = omega (arith, kept.clean, c.in-Ok.ensures.quiet.clean);
      outcomes = λ now db may.
          let loaded : IsClean (view opened.file) = omega (arith, now, kept.clean) in
          let clean : IsClean (view file) = omega (arith, loaded, c.in-Ok.ensures.quiet.clean) in
          let was_open = open_if_sound _ _ (g.met.S.Store.broken_if_shut file) (c.requires.sound clean) in
          let is_open = (c.in-Ok.ensures.in_step.saved c.in-Ok.ensures.works loaded).is_open in
          let same : (view opened.file).committed ≡ (view file).committed =
          g.met.S.Store.settled file _ was_open (c.in-Ok.ensures.quiet.outcomes _ (g.met.S.Store.stays opened.file is_open)) in
          let rows : (view opened.file).committed opened.table ≡ (view file).committed c.args.table = ap₂ (λ (t : Trees) (n : ℕ). t n) same c.in-Ok.ensures.table in
          elim (kept.outcomes now db may) [
            | inl was ↦ inl (c.in-Ok.ensures.quiet.outcomes db was)
            | inr new ↦ inr (ap db (sym c.in-Ok.ensures.table) ∙ new ∙ ap₂ kept_rows (sym c.if-keep_session.false) rows)
          ];
    })

pub returns-clause-unharmed : goal.returns-clause-unharmed
returns-clause-unharmed g c =
    let view = g.S.Store.view in
    let file = c.args.file in
    let opened = c.in-Ok.opened in
    let e = c.without_session.ensures in
    err_by c.without_session.result _ _ _ e.unharmed e.unharmed (λ left kept _. record {
      shield = λ s. kept.shield (c.in-Ok.ensures.quiet.shield s);
      clean = omega (arith, kept.clean, c.in-Ok.ensures.quiet.clean);
      outcomes = λ now db may.
          let loaded : IsClean (view opened.file) = omega (arith, now, kept.clean) in
          let clean : IsClean (view file) = omega (arith, loaded, c.in-Ok.ensures.quiet.clean) in
          let was_open = open_if_sound _ _ (g.met.S.Store.broken_if_shut file) (c.requires.sound clean) in
          let is_open = (c.in-Ok.ensures.in_step.saved c.in-Ok.ensures.works loaded).is_open in
          let same : (view opened.file).committed ≡ (view file).committed =
          g.met.S.Store.settled file _ was_open (c.in-Ok.ensures.quiet.outcomes _ (g.met.S.Store.stays opened.file is_open)) in
          let rows : (view opened.file).committed opened.table ≡ (view file).committed c.args.table = ap₂ (λ (t : Trees) (n : ℕ). t n) same c.in-Ok.ensures.table in
          elim (kept.outcomes now db may) [
            | inl was ↦ inl (c.in-Ok.ensures.quiet.outcomes db was)
            | inr new ↦ inr (ap db (sym c.in-Ok.ensures.table) ∙ new ∙ ap₂ kept_rows (sym c.if-keep_session.false) rows)
          ];
    })
