use Rattle.std.proofs.Common.{◌≡◌, List, ◌++◌, String, Global}
use Rattle.cookie_psl.specs.declared.tree.Node.{Node}
use Rattle.cookie_psl.proofs.CopiedTree.{kids_view}
use Rattle.cookie_psl.proofs.tree.+copy.Given as goal

abbrev pub invariant-copy_kids-loop-label : goal.invariant-copy_kids-loop-label
invariant-copy_kids-loop-label l =
    (done : List (String Global × Node)) × (l.kids.entries ≡ done ++ l.label-iterator) × (kids_view l.copies.entries ≡ kids_view done)
