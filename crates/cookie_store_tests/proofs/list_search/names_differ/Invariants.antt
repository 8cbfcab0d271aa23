use Rattle.std.proofs.Common.{◌≡◌, true, drop, map, bytes_eq}
use Rattle.cookie_store.specs.Rows.{differ}
use Rattle.cookie_store_tests.proofs.list_search.names_differ.Given as goal

abbrev pub invariant-loop-at : goal.invariant-loop-at
invariant-loop-at g l = differ bytes_eq (map (λ g. g.0) (drop l.at l.groups)) ≡ true → differ bytes_eq (map (λ g. g.0) l.groups) ≡ true
