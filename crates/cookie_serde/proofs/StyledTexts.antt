-- Strings written in parts to a formatter with options.
use Rattle.std.proofs.Common.{◌≡◌, ℕ, List, ◌++◌, Option, Some, None, option_map, Result, IsOk, refl}
use Rattle.std.specs.Fmt.{DisplaysStyledOnOk, HasWrittenStyled, WritesStyledOnOk}
use Rattle.std.specs.declared.fmt.Error.{Error}
use Rattle.std.specs.declared.fmt.Formatter.{Formatter}
use Rattle.cookie_raw.proofs.StyledWrites as Writes

module _ {W : Type 0} (took : W → List ℕ → W → Type 0) where
  -- three writes are one write
  pub styled_three : (f g h i : Formatter W) (a b c all : List ℕ) → HasWrittenStyled took f a g → HasWrittenStyled took g b h
      → HasWrittenStyled took h c i → a ++ (b ++ c) ≡ all → HasWrittenStyled took f all i
  styled_three f g h i a b c all = Writes.styled_three took f g h i a b c all

  -- a string, and after it one that may be known
  pub styled_before : (f g h : Formatter W) (first second : Result (Unit {0}) Error) (prefix : List ℕ) (behind : Option (List ℕ))
      → WritesStyledOnOk took f first prefix g → IsOk first → DisplaysStyledOnOk took g second behind h
      → DisplaysStyledOnOk took f second (option_map (λ words. prefix ++ words) behind) h
  styled_before f g h first second prefix None wrote ok then = tt
  styled_before f g h first second prefix (Some words) wrote ok then =
      λ flush done. let one = wrote flush ok in Writes.styled_two took f g h prefix words (prefix ++ words) one (then one.flush done) refl
