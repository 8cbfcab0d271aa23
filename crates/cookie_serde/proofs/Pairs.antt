-- Items of two lists, one by one.
use Rattle.std.proofs.Common.{List, [], ◌∷◌, ◌++◌, Option, Some, None, IfSome}
use Rattle.std.specs.List.{AllZip}

-- one pair more
pub AllZip-more : {A B : Type 0} (R : A → B → Type 0) (xs : List A) (ys : List B) (x : A) (y : B) → AllZip R xs ys → R x y
    → AllZip R (xs ++ x ∷ []) (ys ++ y ∷ [])
AllZip-more R [] [] x y pairs pair = (pair, tt)
AllZip-more R [] (b ∷ ys) x y pairs pair = absurd pairs
AllZip-more R (a ∷ xs) [] x y pairs pair = absurd pairs
AllZip-more R (a ∷ xs) (b ∷ ys) x y pairs pair = (pairs.0, AllZip-more R xs ys x y pairs.1 pair)

-- a relation between the items implies another
pub AllZip-then : {A B : Type 0} {R S : A → B → Type 0} → ((x : A) (y : B) → R x y → S x y) → (xs : List A) (ys : List B)
    → AllZip R xs ys → AllZip S xs ys
AllZip-then follows [] [] pairs = tt
AllZip-then follows [] (y ∷ ys) pairs = absurd pairs
AllZip-then follows (x ∷ xs) [] pairs = absurd pairs
AllZip-then follows (x ∷ xs) (y ∷ ys) pairs = (follows x y pairs.0, AllZip-then follows xs ys pairs.1)

-- both of two properties of a value, if there is one
pub both : {X : Type 0} (P Q : X → Type 0) (r : Option X) → IfSome r P → IfSome r Q → IfSome r (λ x. P x × Q x)
both P Q None first second = tt
both P Q (Some x) first second = (first, second)
