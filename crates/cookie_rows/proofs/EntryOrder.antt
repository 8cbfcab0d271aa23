-- The order of entries by place.
use Rattle.std.proofs.Common.{◌≡◌, ◌≢◌, ℕ, List, refl, arith}
use Rattle.std.specs.Prelude.{slice_index_or}
use Rattle.std.specs.Ordering.{nat_cmp, ordering_then}
use Rattle.std.specs.declared.cmp.Ordering.{Ordering}
use Rattle.std.specs.declared.cmp.Ordering.TheVariants.{Less, Equal, Greater}
use Rattle.std.proofs.lemmas.Bool.Decides.{nat_tests}
use Rattle.std.proofs.lemmas.Cmp.{nat_cmp_total, tied_itself}
use Rattle.cookie_lookup.specs.Positions.{entry_order, places_of}

-- positions that differ are never equal
pub then_apart : (o : Ordering) (a b : ℕ) → a ≢ b → (rest : Ordering) → ordering_then o (nat_cmp a b) ≡ ordering_then (ordering_then o (nat_cmp a b)) rest
then_apart Less a b other rest = refl
then_apart Greater a b other rest = refl
then_apart Equal a b other rest = grind (arith, nat_tests, other)

-- a position is equal to itself
pub entry_itself : {X : Type 0} (xs : List (ℕ × X)) (n : ℕ) → entry_order xs n n ≡ Equal
entry_itself xs n = rw (tied_itself nat_cmp_total (slice_index_or (places_of xs) n 0)) (tied_itself nat_cmp_total n)
