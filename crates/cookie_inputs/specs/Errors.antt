-- The descriptions of errors.
use Rattle.std.specs.Prelude.{ℕ, List, ◌++◌, codes, decimal}
use Rattle.cookie_inputs.specs.declared.suffixes.SuffixesError.{SuffixesError}
use Rattle.cookie_inputs.specs.declared.suffixes.SuffixesError.TheVariants.{BadRule, NoRules, Memory}

-- the description of an error
abbrev pub suffixes_error_text : SuffixesError → List ℕ
suffixes_error_text (BadRule line) = codes "a bad rule in line " ++ decimal line
suffixes_error_text NoRules = codes "no rules"
suffixes_error_text Memory = codes "out of memory"
