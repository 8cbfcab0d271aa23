-- The descriptions of errors.
use Rattle.std.specs.Prelude.{ℕ, List, ◌++◌, codes, decimal}
use Rattle.cookie_psl.specs.declared.error.ListError.{ListError}
use Rattle.cookie_psl.specs.declared.error.ListError.TheVariants.{BadRule, Memory}

-- the description of a list error
abbrev pub list_error_text : ListError → List ℕ
list_error_text (BadRule line) = codes "a bad rule in line " ++ decimal line
list_error_text Memory = codes "out of memory"
