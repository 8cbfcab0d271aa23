-- Strings written in parts to a formatter with options.
use Rattle.std.proofs.Common.{◌≡◌, ℕ, List, ◌++◌}
use Rattle.std.specs.Fmt.{HasWrittenStyled}
use Rattle.std.specs.declared.fmt.Formatter.{Formatter}
use Rattle.cookie_raw.proofs.StyledWrites as Writes

module _ {W : Type 0} (took : W → List ℕ → W → Type 0) where
  -- three writes are one write
  pub styled_three : (f g h i : Formatter W) (a b c all : List ℕ) → HasWrittenStyled took f a g → HasWrittenStyled took g b h
      → HasWrittenStyled took h c i → a ++ (b ++ c) ≡ all → HasWrittenStyled took f all i
  styled_three f g h i a b c all = Writes.styled_three took f g h i a b c all
