-- Two edits of a table are one.
use Rattle.std.proofs.Common.{◌≡◌, ℕ, List, refl, eq-eqb, ne_eqb, inl, inr}
use Rattle.std.proofs.lemmas.Bool.{cases_eq}
use mathlib.Core.Path.{fun_ext}
use Rattle.sqlite_value.specs.Order.{Row}
use Rattle.sqlite_trees.specs.Tree.{Trees}
use Rattle.durable_table.specs.Changes.{in_table}

pub in_table-at : (table : ℕ) (edit : List Row → List Row) (trees : Trees) → in_table table edit trees table ≡ edit (trees table)
in_table-at table edit trees = rw (eq-eqb table table refl) refl

pub in_table-twice : (table : ℕ) (first second : List Row → List Row) (trees : Trees)
    → in_table table second (in_table table first trees) ≡ in_table table (λ rows. second (first rows)) trees
in_table-twice table first second trees =
    fun_ext (λ t. elim (cases_eq t table) [ inl same ↦ rw (same, eq-eqb table table refl) refl | inr other ↦ rw (ne_eqb t table other) refl ])
