-- The commands of a script.
use Rattle.std.specs.Prelude.{ℕ, ◌==◌, Bool, true, false, ◌&&◌, List, bytes_eq, codes, Option, Some, None, is_none, is_some, option_map, option_and_then, if◌then◌else◌}
use Rattle.std.specs.List.{before_first, after_first, list_any}
use Rattle.std.specs.Option.{option_map_or}
use Rattle.std.specs.Str.{is_utf8}
use Rattle.url.specs.Parts.{Parts}
use Rattle.cookie_words.specs.Moments.{Moment}
use Rattle.cookie_parts.specs.Cookie.{early}
use Rattle.cookie_parts.specs.Hosts.{url_at}
use Rattle.cookie_raw.specs.SetCookie.{reading}
use Rattle.cookie_forms.specs.MomentText.{parsed_moment}
use Rattle.cookie_store.specs.Rows.{Key, key_at}

-- `now TIME`, `set URL VALUE`, `get URL`, `list`, `remove DOMAIN PATH NAME` and `clear`
pub data Command : Type 0 where
  Now : Moment → Command
  Set : Parts → List ℕ → Command
  Get : Parts → Command
  ListRows : Command
  Remove : Key → Command
  Clear : Command

-- whether the byte is a space
abbrev pub is_space : ℕ → Bool
is_space b = b == 32

-- the first word of a string, and what follows the space after it, if there is a space
abbrev pub first_word : List ℕ → Option (List ℕ × List ℕ)
first_word text =
    if list_any is_space text then Some (before_first is_space text, after_first is_space text)
    else None

-- the string, if it holds no space
abbrev pub one_word : List ℕ → Option (List ℕ)
one_word text = if list_any is_space text then None else Some text

-- the URL and the header value of `set`, which is everything after the space that follows the URL
abbrev pub set_command : List ℕ × List ℕ → Option Command
set_command words = option_map (λ url. Set url words.1) (url_at words.0)

-- the domain, the path and the name of `remove`, which is everything after the space that follows the path
abbrev pub remove_command : List ℕ × List ℕ → Option Command
remove_command words = option_map (λ others. Remove (key_at words.0 others.0 others.1)) (first_word words.1)

-- the command of a verb and what follows the space after it
unfoldable pub verb_command : List ℕ × List ℕ → Option Command
verb_command line =
    if bytes_eq line.0 (codes "now") then option_map Now (parsed_moment line.1)
    else (if bytes_eq line.0 (codes "set") then option_and_then set_command (first_word line.1)
    else (if bytes_eq line.0 (codes "get") then option_map Get (option_and_then url_at (one_word line.1))
    else (if bytes_eq line.0 (codes "remove") then option_and_then remove_command (first_word line.1)
    else None)))

-- the command that is one word
unfoldable pub lone_command : List ℕ → Option Command
lone_command word =
    if bytes_eq word (codes "list") then Some ListRows
    else (if bytes_eq word (codes "clear") then Some Clear
    else None)

-- the command of a string, by its first word and the rest, if it has more than one word
abbrev pub text_command : List ℕ → Option (List ℕ × List ℕ) → Option Command
text_command text None = lone_command text
text_command text (Some words) = verb_command words

-- the command of a line, or None for a bad line
unfoldable pub command_of : List ℕ → Option Command
command_of line = if is_utf8 line then text_command line (first_word line) else None

-- a URL is to be parsed: `set` has a URL and a header value, and `get` has one word
unfoldable pub verb_may_allocate : List ℕ × List ℕ → Bool
verb_may_allocate line =
    if bytes_eq line.0 (codes "set") then is_some (first_word line.1)
    else (if bytes_eq line.0 (codes "get") then is_some (one_word line.1)
    else false)

-- a line may allocate if a URL is to be parsed, valid or not
unfoldable pub may_allocate : List ℕ → Bool
may_allocate line = is_utf8 line && option_map_or verb_may_allocate (first_word line) false

-- a parsed command may allocate: `get`, and a `set` that is not rejected early
abbrev pub command_may_allocate : Command → Bool
command_may_allocate (Now moment) = false
command_may_allocate (Set url text) = is_none (early (reading text) url)
command_may_allocate (Get url) = true
command_may_allocate ListRows = false
command_may_allocate (Remove key) = false
command_may_allocate Clear = false
