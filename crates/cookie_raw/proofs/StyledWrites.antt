-- Successive writes to a formatter with options.
use Rattle.std.proofs.Common.{◌≡◌, ℕ, List, [], ◌∷◌, ◌++◌, Result, ◌∙◌, refl, sym, ap, subst}
use Rattle.std.proofs.lemmas.List.{append_assoc}
use Rattle.std.specs.List.{concat, FoldsTo}
use Rattle.std.specs.Fmt.{HasWrittenStyled, IsDefaultSpec, WritesOnOk, WritesStyledOnOk}
use Rattle.std.specs.declared.fmt.Error.{Error}
use Rattle.std.specs.declared.fmt.Formatter.{Formatter}

concat_of_both : (xs ys : List (List ℕ)) → concat (xs ++ ys) ≡ concat xs ++ concat ys
concat_of_both [] ys = refl
concat_of_both (x ∷ xs) ys = ap (λ (l : List ℕ). x ++ l) (concat_of_both xs ys) ∙ sym (append_assoc x (concat xs) (concat ys))

module _ {W : Type 0} (took : W → List ℕ → W → Type 0) where
  calls_of_both : (w : W) (xs : List (List ℕ)) (v : W) (ys : List (List ℕ)) (u : W) → FoldsTo took w xs v → FoldsTo took v ys u → FoldsTo took w (xs ++ ys) u
  calls_of_both w [] v ys u p q = subst (λ (x : W). FoldsTo took x ys u) (sym p) q
  calls_of_both w (x ∷ xs) v ys u p q = (p.0, p.1, calls_of_both p.0 xs v ys u p.2 q)

  both_written : (f : Formatter W) (a : List ℕ) (g : Formatter W) (b : List ℕ) (h : Formatter W) → HasWrittenStyled took f a g → HasWrittenStyled took g b h → HasWrittenStyled took f (a ++ b) h
  both_written f a g b h p q = record {
    wrote = record {
      parts = p.wrote.parts ++ q.wrote.parts;
      calls = calls_of_both _ p.wrote.parts _ q.wrote.parts _ p.wrote.calls q.wrote.calls;
      whole = concat_of_both p.wrote.parts q.wrote.parts ∙ (λ i. p.wrote.whole i ++ q.wrote.whole i);
    };
    spec = q.spec ∙ p.spec;
    flush = q.flush;
  }

  of_eq : (f : Formatter W) (a b : List ℕ) (g : Formatter W) → a ≡ b → HasWrittenStyled took f a g → HasWrittenStyled took f b g
  of_eq f a b g e = subst (λ (l : List ℕ). HasWrittenStyled took f l g) e

  -- two to six writes in a row
  pub styled_two : (f g h : Formatter W) (a b all : List ℕ) → HasWrittenStyled took f a g → HasWrittenStyled took g b h → a ++ b ≡ all → HasWrittenStyled took f all h
  styled_two f g h a b all p1 p2 is = of_eq _ _ all _ is (both_written _ _ _ _ _ p1 p2)

  pub styled_three : (f g h i : Formatter W) (a b c all : List ℕ) → HasWrittenStyled took f a g → HasWrittenStyled took g b h → HasWrittenStyled took h c i → a ++ (b ++ c) ≡ all → HasWrittenStyled took f all i
  styled_three f g h i a b c all p1 p2 p3 is = of_eq _ _ all _ is (both_written _ _ _ _ _ p1 (both_written _ _ _ _ _ p2 p3))

  pub styled_five : (f g h i j k : Formatter W) (a b c d e all : List ℕ) → HasWrittenStyled took f a g → HasWrittenStyled took g b h → HasWrittenStyled took h c i → HasWrittenStyled took i d j → HasWrittenStyled took j e k → a ++ b ++ c ++ d ++ e ≡ all → HasWrittenStyled took f all k
  styled_five f g h i j k a b c d e all p1 p2 p3 p4 p5 is =
      of_eq _ _ all _ is (both_written _ _ _ _ _ (both_written _ _ _ _ _ (both_written _ _ _ _ _ (both_written _ _ _ _ _ p1 p2) p3) p4) p5)

  pub styled_six : (f g h i j k l : Formatter W) (a b c d e x all : List ℕ) → HasWrittenStyled took f a g → HasWrittenStyled took g b h → HasWrittenStyled took h c i → HasWrittenStyled took i d j → HasWrittenStyled took j e k → HasWrittenStyled took k x l → a ++ b ++ c ++ d ++ e ++ x ≡ all → HasWrittenStyled took f all l
  styled_six f g h i j k l a b c d e x all p1 p2 p3 p4 p5 p6 is =
      styled_two _ _ _ _ _ all (styled_five _ _ _ _ _ _ _ _ _ _ _ _ p1 p2 p3 p4 p5 refl) p6 is

-- what is written under any options is written without options
pub plain_from_styled : {W : Type 0} (took : W → List ℕ → W → Type 0) (f : Formatter W) (r : Result (Unit {0}) Error) (bs : List ℕ) (g : Formatter W) → WritesStyledOnOk took f r bs g → WritesOnOk took f r bs g
plain_from_styled took f r bs g styled plain ok =
    let written : HasWrittenStyled took f bs g = styled plain.flush ok in
    record { wrote = written.wrote; plain = record { bare = subst IsDefaultSpec (sym written.spec) plain.bare; flush = written.flush } }
