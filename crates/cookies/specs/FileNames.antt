-- The names of files in messages.
use Rattle.std.specs.Prelude.{ℕ, List, bytes_eq, codes, if◌then◌else◌}

-- the name of what is read
unfoldable pub input_name : List ℕ → List ℕ
input_name name = if bytes_eq name (codes "-") then codes "standard input" else name

-- the name of what is written
unfoldable pub output_name : List ℕ → List ℕ
output_name name = if bytes_eq name (codes "-") then codes "standard output" else name
