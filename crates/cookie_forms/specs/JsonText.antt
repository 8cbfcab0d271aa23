-- The string forms of JSON values.
use Rattle.std.specs.Prelude.{ℕ, List, Bool, nat_le}
use Rattle.std.specs.List.{list_all}
use Rattle.json.specs.Layout.{pretty}
use Rattle.json.specs.Token.{Token}
use Rattle.json.specs.Tree.{json_tokens}
use Rattle.serde_json.specs.Data.{Data}
use Rattle.serde_json.specs.Written.{outline}

-- the JSON tokens of a value without a float
abbrev pub tokens_of_tree : Data → List Token
tokens_of_tree tree = json_tokens (outline tree)

-- JSON with a line for each item and member, indented by two spaces at each level, of a value without a float
abbrev pub pretty_text : Data → List ℕ
pretty_text tree = pretty (tokens_of_tree tree)

-- no byte is an ASCII control character below the space
abbrev pub has_no_control : List ℕ → Bool
has_no_control text = list_all (λ byte. nat_le 32 byte) text
