-- Transactions of changes of a table.
use Rattle.std.specs.Prelude.{◌≡◌, ◌≤◌, ℕ, ◌+◌, false, List, [], length, take}
use Rattle.sqlite_trees.specs.Tree.{Trees}
use Rattle.sqlite_trees.specs.View.{View}
use Rattle.sqlite_trees.specs.declared.store.Shape.TheVariants.{Table}
use Rattle.durable_table.specs.declared.change.Change.{Change}
use Rattle.durable_table.specs.Changes.{after, after_each, in_table}

-- The number names a table, and nothing is pending: a transaction that is not broken shows what was committed.
pub record IsReady (table : ℕ) (v : View) : Type 0 where
  pub shape : v.shape table ≡ Table
  pub unaltered : v.shape ≡ v.committed_shape
  pub settled : v.is_broken ≡ false → v.trees ≡ v.committed

-- the transaction shows these changes, and nothing is committed
abbrev pub Applies : ℕ → List Change → View → View → Type 0
Applies table changes old new = new ≡ record old { trees = in_table table (after changes) old.trees; cursors = new.cursors }

-- these changes are committed, all of them, and nothing else changes
pub record CommitsChanges (table : ℕ) (changes : List Change) (old new : View) : Type 0 where
  pub sound : old.is_broken ≡ false
  pub is : new ≡ record old {
    trees = in_table table (after changes) old.committed;
    committed = in_table table (after changes) old.committed;
    committed_shape = old.shape;
    committed_reals = old.reals;
    marks = [];
    cursors = new.cursors;
  }

-- The trees after the first `count` transactions: all of the first `done`, and at most one more.
pub record IsAfterPrefix (table done : ℕ) (transactions : List (List Change)) (trees found : Trees) : Type 0 where
  pub count : ℕ
  pub all_done : done ≤ count
  pub one_more : count ≤ done + 1
  pub within : count ≤ length transactions
  pub is : found ≡ in_table table (after_each (take count transactions)) trees
