-- The formats of files of cookies.
use Rattle.std.specs.Prelude.{ℕ, Bool, true, false, List, bytes_eq, codes, Option, Some, None, option_and_then, option_map, if◌then◌else◌}
use Rattle.std.specs.Path.{path_extension}
use Rattle.cookie_serde.specs.declared.format.Format.TheVariants.{Json, Ron, Netscape}
use Rattle.cookies.specs.declared.format.Export.TheVariants.{Browser, Playwright}
use Rattle.cookies.specs.declared.format.FileFormat.{FileFormat}
use Rattle.cookies.specs.declared.format.FileFormat.TheVariants.{JsonLines, Saved}
use Rattle.cookies.specs.declared.format.InputFormat.{InputFormat}
use Rattle.cookies.specs.declared.format.InputFormat.TheVariants.{Output, Export, Firefox}
use Rattle.cookies.specs.declared.format.OutputFormat.{OutputFormat}
use Rattle.cookies.specs.declared.format.OutputFormat.TheVariants.{File, Sqlite}

-- the format with this name, of a file that is written whole
unfoldable pub format_of_name : List ℕ → Option FileFormat
format_of_name name =
    if bytes_eq name (codes "json") then Some (Saved Json)
    else (if bytes_eq name (codes "jsonl") then Some JsonLines
    else (if bytes_eq name (codes "ron") then Some (Saved Ron)
    else (if bytes_eq name (codes "txt") then Some (Saved Netscape)
    else None)))

-- the format with this name, of a file that is written
unfoldable pub output_format_of_name : List ℕ → Option OutputFormat
output_format_of_name name =
    if bytes_eq name (codes "sqlite") then Some Sqlite
    else option_map File (format_of_name name)

-- the format that the suffix of a file name stands for, of a file that is written
abbrev pub output_format_of_file_name : List ℕ → Option OutputFormat
output_format_of_file_name file_name = option_and_then output_format_of_name (path_extension file_name)

-- the format is that of a `cookies.txt`
abbrev pub is_cookies_txt : FileFormat → Bool
is_cookies_txt (Saved Netscape) = true
is_cookies_txt (Saved Json) = false
is_cookies_txt (Saved Ron) = false
is_cookies_txt JsonLines = false

-- the format with this name, of a file that is read
unfoldable pub input_format_of_name : List ℕ → Option InputFormat
input_format_of_name name =
    if bytes_eq name (codes "browser") then Some (Export Browser)
    else (if bytes_eq name (codes "playwright") then Some (Export Playwright)
    else (if bytes_eq name (codes "firefox") then Some Firefox
    else option_map Output (output_format_of_name name)))

-- the format that the suffix of a file name stands for, of a file that is read
abbrev pub input_format_of_file_name : List ℕ → Option InputFormat
input_format_of_file_name file_name = option_map Output (output_format_of_file_name file_name)
