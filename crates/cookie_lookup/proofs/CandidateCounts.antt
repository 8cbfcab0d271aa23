-- How many candidates are found, and how many lookups of paths there are in them.
use Rattle.std.proofs.Common.{◌≡◌, ℕ, ◌+◌, ◌*◌, ◌≤◌, Bool, true, false, cond, List, [], ◌∷◌, ap, arith, rules}
use Rattle.std.specs.Prelude.{is_some}
use Rattle.std.proofs.lemmas.List.Sums.{sum_by-cons}
use Rattle.cookie_lookup.specs.Groups.{DomainGroups}
use Rattle.cookie_lookup.specs.SearchView.{group_position, how_many_found}

found_cons : (groups : DomainGroups) (text : List ℕ) (texts : List (List ℕ)) → how_many_found groups (text ∷ texts) ≡ how_many_found groups (text ∷ []) + how_many_found groups texts
found_cons groups text texts =
    let p : List ℕ → ℕ = λ t. cond (is_some (group_position t groups)) 1 0 in
    omega (arith, sum_by-cons p text texts, sum_by-cons p text [])

one_at_most : (groups : DomainGroups) (text : List ℕ) → how_many_found groups (text ∷ []) ≤ 1
one_at_most groups text =
    let p : List ℕ → ℕ = λ t. cond (is_some (group_position t groups)) 1 0 in
    omega (arith, sum_by-cons p text [], below (is_some (group_position text groups)))
  where
    below : (b : Bool) → cond {A = ℕ} b 1 0 ≤ 1
    below true = omega arith
    below false = omega arith

times_sum : (a b m : ℕ) → (a + b) * m ≡ a * m + b * m
times_sum a b m = grind arith

times_one : (a m : ℕ) → a ≤ 1 → a * m ≤ m
times_one a m h = search (rules, arith)

-- the paths of one more domain
pub paths_next : (groups : DomainGroups) (text : List ℕ) (texts : List (List ℕ)) (m before now : ℕ) → now ≤ before + how_many_found groups (text ∷ []) * m
    → now + how_many_found groups texts * m ≤ before + how_many_found groups (text ∷ texts) * m
paths_next groups text texts m before now h =
    omega (arith, h, ap (λ n. n * m) (found_cons groups text texts), times_sum (how_many_found groups (text ∷ [])) (how_many_found groups texts) m)

-- and the room that is left
pub room_next : (groups : DomainGroups) (text : List ℕ) (m n before now : ℕ) → now ≤ before + how_many_found groups (text ∷ []) * m
    → now + n * m ≤ before + (1 + n) * m
room_next groups text m n before now h =
    omega (arith, h, times_one (how_many_found groups (text ∷ [])) m (one_at_most groups text), times_sum 1 n m)

pub room_here : (m n : ℕ) → m ≤ (1 + n) * m
room_here m n = omega (arith, times_sum 1 n m)
