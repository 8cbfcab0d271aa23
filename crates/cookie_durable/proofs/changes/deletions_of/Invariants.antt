use Rattle.std.proofs.Common.{◌≡◌, map, take}
use Rattle.std.specs.List.{All}
use Rattle.durable_table.specs.Changes.{HasRowid}
use Rattle.durable_table.specs.declared.change.Change.TheVariants.{Delete}
use Rattle.cookie_durable.proofs.changes.deletions_of.Given as goal

abbrev pub invariant-loop-id : goal.invariant-loop-id
invariant-loop-id l = record {
  changes : l.changes.items ≡ map Delete (take l.id-index l.ids);
  keyed : All HasRowid l.changes.items;
}
