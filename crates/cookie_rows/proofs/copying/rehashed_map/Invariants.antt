-- The copied and the remaining entries are all entries.
use Rattle.ordered_map.specs.Entries.{entries}
use Rattle.cookie_rows.proofs.Copies.{CopiedSoFar}
use Rattle.cookie_rows.proofs.copying.rehashed_map.Given as goal

abbrev pub invariant-loop-text : goal.invariant-loop-text
invariant-loop-text g l = record { copied : CopiedSoFar g.V.Rehash.is_copy l.initial.text-iterator l.text-iterator (entries l.copy) }
