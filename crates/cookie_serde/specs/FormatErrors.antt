-- The error of saving and loading in a format.
use Rattle.std.specs.Prelude.{ℕ, List}
use Rattle.cookie_netscape.specs.Errors.{netscape_error_text}
use Rattle.cookie_netscape.specs.declared.error.NetscapeError.{NetscapeError}
use Rattle.cookie_netscape.specs.declared.error.NetscapeError.TheVariants as Netscape
use Rattle.cookie_parts.specs.Errors.{store_error_text}
use Rattle.cookie_parts.specs.declared.error.Error.TheVariants.{Io, Memory, NotUtf8}
use Rattle.cookie_serde.specs.declared.format_error.FormatError.{FormatError}
use Rattle.cookie_serde.specs.declared.format_error.FormatError.TheVariants.{BadLine, Store, Unrepresentable}

-- the error of a `cookies.txt` file
abbrev pub format_error_of : NetscapeError → FormatError
format_error_of (Netscape.BadLine line) = BadLine line
format_error_of Netscape.Unrepresentable = Unrepresentable
format_error_of Netscape.Io = Store Io
format_error_of Netscape.NotUtf8 = Store NotUtf8
format_error_of Netscape.Memory = Store Memory

-- the error as `Display` prints it
abbrev pub format_error_text : FormatError → List ℕ
format_error_text (Store error) = store_error_text error
format_error_text (BadLine line) = netscape_error_text (Netscape.BadLine line)
format_error_text Unrepresentable = netscape_error_text Netscape.Unrepresentable
