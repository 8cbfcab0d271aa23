-- Saved cookies among the tokens of a JSON text, for private contracts.
use Rattle.std.specs.Prelude.{◌≡◌, ◌≤◌, ◌∷◌, ℕ, IsOk, List, codes, false, Some, option_map}
use Rattle.json.specs.Token.{Token, begin_array}
use Rattle.json.specs.Json.{Json, value}
use Rattle.serde_json.specs.Data.{Data, string, Members}
use Rattle.serde_json.specs.Find.{get_member}
use Rattle.serde_json.specs.Read.{of_json}
use Rattle.serde_json.specs.Written.{members_have_float}
use Rattle.cookie_forms.specs.Borrowed.{borrowed_domain}
use Rattle.cookie_forms.specs.FromJson.{saved_at}
use Rattle.cookie_forms.specs.ToJson.{path_tree, domain_tree, expiry_tree}
use Rattle.cookie_forms.specs.declared.text_reader.FoundMembers.{FoundMembers}

-- the tokens `old` are those of a JSON value, nested at most `depth` deep and read as `tree`, and then `new`
abbrev pub ReadsTo : ℕ → List Token → Data → List Token → Type 0
ReadsTo depth old tree new = (j : Json) × (value depth old ≡ Some (j, new)) × (of_json j ≡ Some tree)

-- the tokens begin with a saved cookie with a valid expiry
abbrev pub BeginWithSaved : List Token → Type 0
BeginWithSaved tokens = (depth : ℕ) → 2 ≤ depth → (tree : Data) × (rest : List Token) × ReadsTo depth tokens tree rest × IsOk (saved_at tree)

-- the tokens begin with an array whose first item is a saved cookie with a valid expiry
abbrev pub BeginWithSavedItem : List Token → Type 0
BeginWithSavedItem tokens = (items : List Token) × (tokens ≡ begin_array ∷ items) × BeginWithSaved items

-- under each of the four names the members have the value that `found` has, or none; they contain no float
abbrev pub AreFound : Members → FoundMembers → Type 0
AreFound ms found =
    (get_member (codes "raw_cookie") ms ≡ option_map (λ text. string text.now) found.raw_cookie)
    × (get_member (codes "path") ms ≡ option_map (λ p. path_tree p.0.now p.1) found.path)
    × (get_member (codes "domain") ms ≡ option_map (λ domain. domain_tree (borrowed_domain domain)) found.domain)
    × (get_member (codes "expires") ms ≡ option_map (λ expires. expiry_tree (option_map (λ text. text.now) expires)) found.expires)
    × (members_have_float ms ≡ false)
