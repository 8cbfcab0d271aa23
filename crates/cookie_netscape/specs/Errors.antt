-- The texts of errors.
use Rattle.std.specs.Prelude.{ℕ, List, ◌++◌, codes, decimal}
use Rattle.cookie_netscape.specs.declared.error.NetscapeError.{NetscapeError}
use Rattle.cookie_netscape.specs.declared.error.NetscapeError.TheVariants.{BadLine, Unrepresentable, Io, NotUtf8, Memory}

-- the error as `Display` prints it
abbrev pub netscape_error_text : NetscapeError → List ℕ
netscape_error_text (BadLine line) = codes "line " ++ decimal line ++ codes " is not a cookie"
netscape_error_text Unrepresentable = codes "cookies.txt cannot represent a cookie"
netscape_error_text Io = codes "a read or a write failed"
netscape_error_text NotUtf8 = codes "the file is not UTF-8"
netscape_error_text Memory = codes "out of memory"
