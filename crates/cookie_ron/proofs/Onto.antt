-- What was read before, followed by what is read next.
use Rattle.std.proofs.Common.{◌≡◌, ℕ, List, [], ◌++◌, Option, Some, None, refl, sym, ap}
use Rattle.std.proofs.lemmas.List.{append_assoc}
use Rattle.cookie_ron.specs.RonInput.{onto}

pub onto_both : {A : Type 0} (a b : List A) (o : Option (List A × List ℕ)) → onto a (onto b o) ≡ onto (a ++ b) o
onto_both a b None = refl
onto_both a b (Some read) = ap (λ t. Some (t, read.1)) (sym (append_assoc a b read.0))

pub onto_none : {A : Type 0} (o : Option (List A × List ℕ)) → o ≡ onto [] o
onto_none None = refl
onto_none (Some read) = refl
