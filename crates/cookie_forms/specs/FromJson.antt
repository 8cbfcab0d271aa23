-- The saved cookies that JSON values are read as.
use Rattle.std.specs.Prelude.{ℕ, Bool, List, [], ◌∷◌, codes, bytes_eq, Option, Some, None, option_map, option_and_then, Result, Err, if◌then◌else◌}
use Rattle.std.specs.Option.{ok_or, option_or}
use Rattle.serde_json.specs.Data.{Data, Items, no_items, item, Members, no_members, member}
use Rattle.serde_json.specs.Find.{get, as_bool, as_str, as_array, as_object}
use Rattle.serde_json.specs.Read.{read}
use Rattle.serde_json.specs.Written.{has_float}
use Rattle.cookie_words.specs.Moments.{Moment}
use Rattle.cookie_words.specs.Steps.{◌>>=◌}
use Rattle.cookie_forms.specs.MomentText.{parsed_moment, whole_seconds}
use Rattle.cookie_forms.specs.Saved.{Domain, host_only, suffix, not_present, empty, Parts}
use Rattle.cookie_forms.specs.ToJson.{with_expiry}
use Rattle.cookie_forms.specs.declared.error.SavedError.{SavedError}
use Rattle.cookie_forms.specs.declared.error.SavedError.TheVariants as ErrorCase

-- the name and string of the only member
abbrev pub only_text : Members → Option (List ℕ × List ℕ)
only_text no_members = None
only_text (member tag d no_members) = option_map (λ text. (tag, text)) (as_str d)
only_text (member tag d (member k e ms)) = None

-- the same for an object
abbrev pub tagged_in : Data → Option (List ℕ × List ℕ)
tagged_in d = option_and_then only_text (as_object d)

-- exactly two items
abbrev pub pair_in : Items → Option (Data × Data)
pair_in no_items = None
pair_in (item a no_items) = None
pair_in (item a (item b no_items)) = Some (a, b)
pair_in (item a (item b (item c ds))) = None

-- a path, and whether a Path attribute set it
unfoldable pub path_in : Data → Option (List ℕ × Bool)
path_in d = do
  items ← as_array d
  pair ← pair_in items
  path ← as_str pair.0
  from_attr ← as_bool pair.1
  Some (path, from_attr)

-- the domains without a string
abbrev pub domain_named : List ℕ → Option Domain
domain_named name =
    if bytes_eq name (codes "NotPresent") then Some not_present
    else (if bytes_eq name (codes "Empty") then Some empty else None)

-- the domains with a string
abbrev pub domain_tagged : List ℕ × List ℕ → Option Domain
domain_tagged t =
    if bytes_eq t.0 (codes "HostOnly") then Some (host_only t.1)
    else (if bytes_eq t.0 (codes "Suffix") then Some (suffix t.1) else None)

-- the domain of a JSON value, by name or by tag
unfoldable pub domain_in : Data → Option Domain
domain_in d = option_or (option_and_then domain_named (as_str d)) (option_and_then domain_tagged (tagged_in d))

-- `"SessionEnd"`: a session cookie
abbrev pub expiry_named : List ℕ → Option (Option (List ℕ))
expiry_named name = if bytes_eq name (codes "SessionEnd") then Some None else None

-- `{"AtUtc": ".."}`: a persistent cookie, its expiry not parsed yet
abbrev pub expiry_tagged : List ℕ × List ℕ → Option (Option (List ℕ))
expiry_tagged t = if bytes_eq t.0 (codes "AtUtc") then Some (Some t.1) else None

-- the string of an expiry, `Some None` for `SessionEnd`, `None` for anything else
unfoldable pub expiry_in : Data → Option (Option (List ℕ))
expiry_in d = option_or (option_and_then expiry_named (as_str d)) (option_and_then expiry_tagged (tagged_in d))

-- the parts of an object that has the shape of a saved cookie; other members are ignored
unfoldable pub parts_in : Data → Option (Parts (List ℕ))
parts_in d = do
  raw ← get (codes "raw_cookie") d
  raw_cookie ← as_str raw
  pair ← get (codes "path") d
  path ← path_in pair
  kind ← get (codes "domain") d
  domain ← domain_in kind
  end ← get (codes "expires") d
  expires ← expiry_in end
  Some (record {
    raw_cookie = raw_cookie;
    path = path.0;
    from_attr = path.1;
    domain = domain;
    expires = expires;
  })

-- the parts of each item, if all items have the shape
abbrev pub all_parts_in : Items → Option (List (Parts (List ℕ)))
all_parts_in no_items = Some []
all_parts_in (item d ds) = option_and_then (λ p. option_map (λ ps. p ∷ ps) (all_parts_in ds)) (parts_in d)

-- an expiry with its string parsed, if that is a valid time
abbrev pub parsed_expiry : Option (List ℕ) → Option (Option Moment)
parsed_expiry None = Some None
parsed_expiry (Some text) = option_map (λ m. Some m) (parsed_moment text)

-- the parts with their expiry parsed
abbrev pub with_parsed_expiry : Parts (List ℕ) → Option (Parts Moment)
with_parsed_expiry p = option_map (λ expires. with_expiry p expires) (parsed_expiry p.expires)

-- the same for a list, if all expiries are valid
abbrev pub all_with_parsed_expiry : List (Parts (List ℕ)) → Option (List (Parts Moment))
all_with_parsed_expiry [] = Some []
all_with_parsed_expiry (p ∷ ps) = option_and_then (λ q. option_map (λ qs. q ∷ qs) (all_with_parsed_expiry ps)) (with_parsed_expiry p)

-- the saved cookies of the items, if all have the shape and a valid expiry
abbrev pub all_in : Items → Option (List (Parts Moment))
all_in ds = option_and_then all_with_parsed_expiry (all_parts_in ds)

-- `Shape` if there is no value of the shape, `Moment` if its expiry is not valid
abbrev pub then_read : {A B : Type 0} → (A → Option B) → Option A → Result B SavedError
then_read read None = Err ErrorCase.Shape
then_read read (Some a) = ok_or (read a) ErrorCase.Moment

-- the saved cookie of a JSON value, or the error
abbrev pub saved_at : Data → Result (Parts Moment) SavedError
saved_at d = if has_float d then Err ErrorCase.Shape else then_read with_parsed_expiry (parts_in d)

-- the saved cookies of a JSON array, or the error
abbrev pub list_at : Data → Result (List (Parts Moment)) SavedError
list_at d = if has_float d then Err ErrorCase.Shape else then_read all_with_parsed_expiry (option_and_then all_parts_in (as_array d))

-- the saved cookie of a JSON text, or the error: `Json` if it is not JSON
abbrev pub saved_in : List ℕ → Result (Parts Moment) SavedError
saved_in text = elim (read text) [ None ↦ Err ErrorCase.Json | Some tree ↦ saved_at tree ]

-- the saved cookies of a JSON text, or the error
abbrev pub list_in : List ℕ → Result (List (Parts Moment)) SavedError
list_in text = elim (read text) [ None ↦ Err ErrorCase.Json | Some tree ↦ list_at tree ]

-- a saved cookie with its expiry cut to whole seconds, as it is after writing and reading
abbrev pub cut : Parts Moment → Parts Moment
cut p = with_expiry p (option_map whole_seconds p.expires)
