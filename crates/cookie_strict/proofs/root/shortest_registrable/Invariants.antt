use Rattle.std.proofs.Common.{◌≡◌, []}
use Rattle.std.specs.Str.{IsCharBoundary}
use Rattle.cookie_strict.specs.Roots.{is_registrable}
use Rattle.cookie_strict.proofs.RootsFromRight.{passing}
use Rattle.cookie_strict.proofs.root.shortest_registrable.Given as goal

abbrev pub invariant-loop-dot : goal.invariant-loop-dot
invariant-loop-dot l = record {
  cut : IsCharBoundary l.domain l.end;
  rejected : passing (is_registrable l.list) l.domain l.end ≡ [];
}

abbrev pub decreases-loop-dot : goal.decreases-loop-dot
decreases-loop-dot l = l.end
