-- The shape of saved cookies and lists in JSON.
use Rattle.std.specs.Prelude.{◌≡◌, ℕ, false, List, codes, Some}
use Rattle.std.specs.List.{AllZip}
use Rattle.serde_json.specs.Data.{Data, string, array}
use Rattle.serde_json.specs.Find.{get}
use Rattle.serde_json.specs.View.{items_of}
use Rattle.serde_json.specs.Written.{has_float}
use Rattle.cookie_forms.specs.Saved.{Parts}
use Rattle.cookie_forms.specs.ToJson.{path_tree, domain_tree, expiry_tree}

-- an object with these four members, whatever others it has, and without any float
abbrev pub HasShape : Data → Parts (List ℕ) → Type 0
HasShape d p =
    (get (codes "raw_cookie") d ≡ Some (string p.raw_cookie))
    × (get (codes "path") d ≡ Some (path_tree p.path p.from_attr))
    × (get (codes "domain") d ≡ Some (domain_tree p.domain))
    × (get (codes "expires") d ≡ Some (expiry_tree p.expires))
    × (has_float d ≡ false)

-- an array of such objects, one for each cookie
abbrev pub HasListShape : Data → List (Parts (List ℕ)) → Type 0
HasListShape d ps = (ds : List Data) × (d ≡ array (items_of ds)) × AllZip HasShape ds ps
