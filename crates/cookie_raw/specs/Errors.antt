-- The descriptions of errors.
use Rattle.std.specs.Prelude.{ℕ, List, codes}
use Rattle.cookie_raw.specs.declared.error.RawCookieParseError.{RawCookieParseError}
use Rattle.cookie_raw.specs.declared.error.RawCookieParseError.TheVariants.{MissingPair, EmptyName}

-- the description of a parse error
abbrev pub parse_error_text : RawCookieParseError → List ℕ
parse_error_text MissingPair = codes "no name and value joined by `=`"
parse_error_text EmptyName = codes "an empty name"
