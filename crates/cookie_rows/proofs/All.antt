-- What holds of each item of a list.
use Rattle.std.proofs.Common.{ℕ, zero, suc, List, [], ◌∷◌, ◌++◌, map, take, IsPermutation}
use Rattle.std.specs.List.{AllByRecursion}
use Rattle.std.proofs.lemmas.List.Elements.{All-from_recursion, recursion_from_All}
use Rattle.std.proofs.lemmas.List.Sorted.{All-permutation}

-- what follows from a fact of each item
pub all_map : {A : Type 0} (P Q : A → Type 0) → ((x : A) → P x → Q x) → (xs : List A) → AllByRecursion P xs → AllByRecursion Q xs
all_map P Q f [] a = tt
all_map P Q f (x ∷ xs) a = (f x a.0, all_map P Q f xs a.1)

-- what follows from two facts of each item
pub all_both : {A : Type 0} (P Q R : A → Type 0) → ((x : A) → P x → Q x → R x) → (xs : List A) → AllByRecursion P xs → AllByRecursion Q xs → AllByRecursion R xs
all_both P Q R f [] a b = tt
all_both P Q R f (x ∷ xs) a b = (f x a.0 b.0, all_both P Q R f xs a.1 b.1)

module _ {A : Type 0} (P : A → Type 0) where
  -- what holds of whatever there is holds of each
  pub all_any : ((x : A) → P x) → (xs : List A) → AllByRecursion P xs
  all_any f [] = tt
  all_any f (x ∷ xs) = (f x, all_any f xs)

  -- what holds of each item of two lists holds of both together
  pub all_append : (xs ys : List A) → AllByRecursion P xs → AllByRecursion P ys → AllByRecursion P (xs ++ ys)
  all_append [] ys a b = b
  all_append (x ∷ xs) ys a b = (a.0, all_append xs ys a.1 b)

  -- and back
  pub all_parts : (xs ys : List A) → AllByRecursion P (xs ++ ys) → AllByRecursion P xs × AllByRecursion P ys
  all_parts [] ys a = (tt, a)
  all_parts (x ∷ xs) ys a = let rest = all_parts xs ys a.1 in ((a.0, rest.0), rest.1)

  -- it holds of the first ones
  pub all_take : (n : ℕ) (xs : List A) → AllByRecursion P xs → AllByRecursion P (take n xs)
  all_take zero xs a = tt
  all_take (suc n) [] a = tt
  all_take (suc n) (x ∷ xs) a = (a.0, all_take n xs a.1)

  -- it holds in another order
  pub all_moved : (xs ys : List A) → IsPermutation xs ys → AllByRecursion P xs → AllByRecursion P ys
  all_moved xs ys p a = recursion_from_All P ys (All-permutation P xs ys p (All-from_recursion P xs a))

module _ {A B : Type 0} (f : A → B) (P : B → Type 0) where
  -- what holds of a function's value at each item holds of each value
  pub all_to_map : (xs : List A) → AllByRecursion (λ x. P (f x)) xs → AllByRecursion P (map f xs)
  all_to_map [] a = tt
  all_to_map (x ∷ xs) a = (a.0, all_to_map xs a.1)

  -- and back
  pub all_from_map : (xs : List A) → AllByRecursion P (map f xs) → AllByRecursion (λ x. P (f x)) xs
  all_from_map [] a = tt
  all_from_map (x ∷ xs) a = (a.0, all_from_map xs a.1)
