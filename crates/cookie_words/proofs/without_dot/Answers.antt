use Rattle.std.proofs.Common.{◌≡◌, ◌≢◌, ℕ, Bool, true, false, cond, eqb, List, [], ◌∷◌, None, refl, sym, ap, lit<}
use Rattle.std.proofs.lemmas.Bool.{eqb-true}
use Rattle.std.proofs.lemmas.Str.Pattern.{strip_prefix_char}
use Rattle.cookie_words.specs.Strings.{without_dot}
use Rattle.cookie_words.proofs.without_dot.Goals as goal

first_stays : (b : ℕ) (bs : List ℕ) (is_dot : Bool) → eqb b 46 ≡ is_dot → b ≢ 46 → cond is_dot bs (b ∷ bs) ≡ b ∷ bs
first_stays b bs true e other = absurd (other (eqb-true b 46 e))
first_stays b bs false e other = refl

-- a string that does not begin with a dot is unchanged
without_dot-other : (bs : List ℕ) → ((rest : List ℕ) → bs ≢ 46 ∷ rest) → without_dot bs ≡ bs
without_dot-other [] other = refl
without_dot-other (b ∷ bs) other = first_stays b bs (eqb b 46) refl (λ e. other bs (ap (λ x. x ∷ bs) e))

pub returns-in-None : goal.returns-in-None
returns-in-None c =
    sym (without_dot-other c.args.text.now (strip_prefix_char 46 c.args.text.now None c.in-None.ensures.cases (lit< tt)))
