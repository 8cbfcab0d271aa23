use Rattle.std.specs.List.{All}
use Rattle.durable_table.specs.Changes.{HasRowid}
use Rattle.cookie_parts_tests.proofs.transactions.transactions.Given as goal

abbrev pub invariant-loop-pairs : goal.invariant-loop-pairs
invariant-loop-pairs g l = All (λ changes. All HasRowid changes.items) l.transactions.items
