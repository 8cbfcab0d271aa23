use Rattle.std.proofs.Common.{◌≡◌, ◌⊎◌, ◌++◌, ◌∙◌, ap₂, inl, inr, map, rules, subst, List}
use Rattle.std.specs.Map.{values_of}
use Rattle.sqlite_trees.specs.Tree.{Trees}
use Rattle.sqlite_trees.specs.View.{IsClean}
use Rattle.durable_table.specs.declared.change.Change.{Change}
use Rattle.durable_table.specs.declared.change.Change.TheVariants.{Delete, Put}
use Rattle.cookie_durable.specs.Durable.{Durable, IsSaved}
use Rattle.cookie_durable.specs.Replacing.{new_rows}
use Rattle.cookie_durable.proofs.CommittedCalls.{saved_before}
use Rattle.cookie_durable.proofs.NewRows.{committed-new, recovered-new}
use Rattle.cookie_durable.proofs.durable_store.DurableStore.write_new_rows.Given.{Over}
use Rattle.cookie_durable.proofs.durable_store.DurableStore.write_new_rows.Goals as goal
use Rattle.cookie_durable.proofs.durable_store.DurableStore.write_new_rows.Goals.{After-commit}

-- the changes delete all rows, and put those of the cookies
changes : (g : Over) (c : After-commit g)
    → c.as_slice.result.now ≡ map Delete (values_of c.self.inside.ids.entries) ++ map Put (new_rows c.args.cookies.now.rows)
changes g c =
    let appended : c.append.new.self.items ≡ c.in_ok-changes.changes.items ++ c.in_ok-puts.puts.items = search rules in
    c.as_slice.ensures.value ∙ appended
    ∙ ap₂ (λ (deletions puts : List Change). deletions ++ puts) c.in_ok-changes.ensures.changes c.in_ok-puts.ensures.puts

-- the table had the cookies
before : (g : Over) (c : After-commit g) → IsClean (g.S.Store.view c.commit.new.store)
    → IsSaved c.self.inside.store c.self.inside.ids.entries c.self.inside.next c.self.inside.table (g.S.Store.view c.self.inside.file)
before g c clean =
    saved_before g.S.Store.view _ _ c.self.view_is c.requires c.if-self.false c.commit.new.store c.commit.ensures.clean clean

-- a crash leaves the table as it was, or with the rows of the cookies
crash : (g : Over) (c : After-commit g) → IsClean (g.S.Store.view c.commit.new.store) → (db : Trees) → g.S.Store.recovers c.commit.new.store db
    → g.S.Store.recovers c.args.self.now.file db ⊎ (db c.args.self.now.table ≡ new_rows c.args.cookies.now.rows)
crash g c clean db may =
    subst (λ (d : Durable _). g.S.Store.recovers d.file db ⊎ (db d.table ≡ new_rows c.args.cookies.now.rows)) c.self.view_is
    (elim (c.commit.ensures.crash clean db may) [
      | inl same ↦ inl same
      | inr is ↦ inr (recovered-new c.self.inside.store _ c.self.inside.next c.self.inside.table _ c.args.cookies.now.rows c.as_slice.result.now (changes g c) (before g c clean) db is)
    ])

pub returns-in-Ok-clause-replaced : goal.returns-in-Ok-clause-replaced
returns-in-Ok-clause-replaced g c = λ clean.
    let w = (goal.at.returns-in-Ok-clause-replaced g c).After-commit in
    subst (λ (d : Durable _). (g.S.Store.view c.commit.new.store).committed d.table ≡ new_rows c.args.cookies.now.rows) c.self.view_is
    (committed-new c.self.inside.store _ c.self.inside.next c.self.inside.table _ c.args.cookies.now.rows c.as_slice.result.now (changes g w) (before g w clean) _ (c.in-Ok.ensures.committed clean))

pub returns-in-Ok-clause-crash : goal.returns-in-Ok-clause-crash
returns-in-Ok-clause-crash g c = crash g (goal.at.returns-in-Ok-clause-crash g c).After-commit

pub returns-clause-crash : goal.returns-clause-crash
returns-clause-crash g c = crash g (goal.at.returns-clause-crash g c).After-commit
