use Rattle.std.specs.List.{All}
use Rattle.durable_table.specs.Changes.{HasRowid}
use Rattle.cookie_parts_tests.proofs.transactions.changes.Given as goal

abbrev pub invariant-loop-id : goal.invariant-loop-id
invariant-loop-id g l = All HasRowid l.changes.items
