-- Text that is safe to print on a terminal.
use Rattle.std.specs.Prelude.{ℕ, ◌==◌, Bool, true, false, List, ◌++◌, codes, flat_map, if◌then◌else◌}
use Rattle.std.specs.Char.{encode_utf8}
use Rattle.std.specs.Fmt.{digits}
use Rattle.std.specs.Str.{chars}
use Rattle.ucd_category.specs.GeneralCategory.{general_category}
use Rattle.ucd_category.specs.declared.GeneralCategory.{GeneralCategory}
use Rattle.ucd_category.specs.declared.GeneralCategory.TheVariants.{Control, Format, LineSeparator, ParagraphSeparator}

-- Unicode's categories Cc, Cf, Zl and Zp: control and format characters, line and paragraph separators
abbrev pub is_escaped_category : GeneralCategory → Bool
is_escaped_category Control = true
is_escaped_category Format = true
is_escaped_category LineSeparator = true
is_escaped_category ParagraphSeparator = true
is_escaped_category _ = false

-- a character that is escaped: it may move the cursor, or hide or reorder what is beside it
abbrev pub is_escaped : ℕ → Bool
is_escaped c = is_escaped_category (general_category c)

-- a character: one that is escaped as an escape, any other as itself
abbrev pub escaped_char : ℕ → List ℕ
escaped_char c =
    if c == 10 then codes "\\n"
    else (if c == 13 then codes "\\r"
    else (if c == 9 then codes "\\t"
    else (if is_escaped c then codes "\\u{" ++ digits 16 false c ++ codes "}" else encode_utf8 c)))

-- a string with each of its characters escaped so
abbrev pub escaped : List ℕ → List ℕ
escaped text = flat_map escaped_char (chars text)
