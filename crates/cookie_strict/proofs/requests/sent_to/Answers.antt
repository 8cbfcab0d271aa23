use Rattle.std.proofs.Common.{◌≡◌, Bool, List, [], ◌∷◌, map, inl, inr, refl, ap, ◌∙◌, rules}
use Rattle.std.specs.List.{filter}
use Rattle.std.proofs.lemmas.Bool.{cases_Bool}
use Rattle.std.proofs.lemmas.Fn.{filter_same}
use Rattle.cookie_strict.specs.CrossSite.{is_sent}
use Rattle.cookie_strict.proofs.requests.sent_to.Goals as goal

-- a test of what is mapped picks the same items before and after
map-filter : {A B : Type 0} (f : A → B) (test : B → Bool) (xs : List A) → map f (filter (λ x. test (f x)) xs) ≡ filter test (map f xs)
map-filter f test [] = refl
map-filter f test (x ∷ xs) = elim (cases_Bool (test (f x))) [
  | inl e ↦ rw e (ap (λ ys. f x ∷ ys) (map-filter f test xs))
  | inr e ↦ rw e (map-filter f test xs)
]

pub returns-clause-sent : goal.returns-clause-sent
returns-clause-sent c =
    let all = c.in_ok-cookies.cookies.items in
    let kept = filter_same _ (λ x. is_sent c.args.context x.now) _ (λ x b f called. search rules) all c.retain.new.self.items c.retain.ensures.filtered in (
      map (λ x. x.now) all,
      c.in_ok-cookies.ensures.order,
      ap (map (λ x. x.now)) kept ∙ map-filter (λ x. x.now) (is_sent c.args.context) all,
    )
