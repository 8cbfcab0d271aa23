-- The command-line arguments.
use Rattle.std.specs.Prelude.{ℕ, ◌^◌, Bool, true, false, ◌&&◌, List, [], ◌∷◌, bytes_eq, codes, nat_le, nat_lt, is_none, Option, Some, None, option_and_then, option_map, if◌then◌else◌}
use Rattle.std.specs.Char.{is_ascii_digit}
use Rattle.std.specs.List.{list_all}
use Rattle.std.specs.Option.{option_copied}
use Rattle.std.specs.Str.Parse.{digits_value}
use Rattle.cookie_script.specs.declared.options.Options.{Options}

-- the file of a public suffix list, the most cookies of one domain, and whether to convert lines
pub record OptionsValue : Type 0 where
  pub suffixes : Option (List ℕ)
  pub limit : Option ℕ
  pub convert : Bool

-- no option is given
abbrev pub no_options : OptionsValue
no_options = record { suffixes = None; limit = None; convert = false }

-- decimal digits of a number from 1 to 2^64 - 1
abbrev pub limit_of : List ℕ → Option ℕ
limit_of word =
    if list_all is_ascii_digit word && nat_le 1 (digits_value 10 word) && nat_lt (digits_value 10 word) (2 ^ 64)
    then Some (digits_value 10 word) else None

-- the option that stands alone
abbrev pub option_alone : List ℕ → OptionsValue → Option OptionsValue
option_alone word options = if bytes_eq word (codes "--convert") then Some (record options { convert = true }) else None

-- an option with a value, unless it is set already
abbrev pub set_option : List ℕ → List ℕ → OptionsValue → Option OptionsValue
set_option option word options =
    if bytes_eq option (codes "--suffixes") && is_none options.suffixes
    then Some (record options { suffixes = Some word })
    else (if bytes_eq option (codes "--limit") && is_none options.limit
    then option_map (λ limit. record options { limit = Some limit }) (limit_of word)
    else None)

-- no arguments, `--convert` alone, or `--suffixes FILE` and `--limit N` in either order, one or both
abbrev pub options_of : List (List ℕ) → Option OptionsValue
options_of [] = Some no_options
options_of (word ∷ []) = option_alone word no_options
options_of (option ∷ word ∷ []) = set_option option word no_options
options_of (option ∷ word ∷ other ∷ second ∷ []) =
    option_and_then (set_option other second) (set_option option word no_options)
options_of others = None

-- the view of the options in contracts
abbrev pub options_value : Options → OptionsValue
options_value options = record { suffixes = option_copied options.suffixes; limit = options.limit; convert = options.convert }
