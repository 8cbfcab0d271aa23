-- The JSON values that saved cookies are written as.
use Rattle.std.specs.Prelude.{ℕ, Bool, false, List, map, codes, Option, Some, None, option_map, unwrap_or, Result, Ok, Err, if◌then◌else◌, pos, int_lt}
use Rattle.std.specs.List.{list_any}
use Rattle.serde_json.specs.Data.{Data, boolean, string, array, object, no_items, item, no_members, member}
use Rattle.serde_json.specs.View.{items_of}
use Rattle.cookie_words.specs.Moments.{Moment}
use Rattle.cookie_forms.specs.MomentText.{moment_text}
use Rattle.cookie_forms.specs.Saved.{Domain, host_only, suffix, not_present, empty, Parts}
use Rattle.cookie_forms.specs.declared.error.SavedError.{SavedError}
use Rattle.cookie_forms.specs.declared.error.SavedError.TheVariants as ErrorCase

-- an object with one member, a string
abbrev pub tagged_tree : List ℕ → List ℕ → Data
tagged_tree tag text = object (member tag (string text) no_members)

-- an array of a path, and whether a Path attribute set it
abbrev pub path_tree : List ℕ → Bool → Data
path_tree path from_attr = array (item (string path) (item (boolean from_attr) no_items))

-- the JSON value of a domain
abbrev pub domain_tree : Domain → Data
domain_tree (host_only text) = tagged_tree (codes "HostOnly") text
domain_tree (suffix text) = tagged_tree (codes "Suffix") text
domain_tree not_present = string (codes "NotPresent")
domain_tree empty = string (codes "Empty")

-- an expiry by its string; `None` is a session cookie
abbrev pub expiry_tree : Option (List ℕ) → Data
expiry_tree (Some text) = tagged_tree (codes "AtUtc") text
expiry_tree None = string (codes "SessionEnd")

-- a saved cookie: the members in the order of their names
abbrev pub cookie_tree : Parts (List ℕ) → Data
cookie_tree p =
    object
    (member (codes "domain") (domain_tree p.domain)
    (member (codes "expires") (expiry_tree p.expires)
    (member (codes "path") (path_tree p.path p.from_attr)
    (member (codes "raw_cookie") (string p.raw_cookie) no_members))))

-- the parts with another expiry
abbrev pub with_expiry : {S T : Type 0} → Parts S → Option T → Parts T
with_expiry p expires = record {
  raw_cookie = p.raw_cookie;
  path = p.path;
  from_attr = p.from_attr;
  domain = p.domain;
  expires = expires;
}

-- the parts with the expiry as a string
abbrev pub with_expiry_text : Parts Moment → Parts (List ℕ)
with_expiry_text p = with_expiry p (option_map moment_text p.expires)

-- the JSON value of a saved cookie whose expiry is not before the year 0
abbrev pub saved_tree : Parts Moment → Data
saved_tree p = cookie_tree (with_expiry_text p)

-- the JSON array of a list, if no expiry is before the year 0
abbrev pub list_tree : List (Parts Moment) → Data
list_tree ps = array (items_of (map saved_tree ps))

-- the expiry is before the year 0, so it has no string form
abbrev pub expires_early : Option Moment → Bool
expires_early expires = unwrap_or (option_map (λ m. int_lt m.year (pos 0)) expires) false

-- the saved cookie expires before the year 0
abbrev pub is_early : Parts Moment → Bool
is_early p = expires_early p.expires

-- the JSON value of a saved cookie, or `Moment` if its expiry is before the year 0
abbrev pub written : Parts Moment → Result Data SavedError
written p = if is_early p then Err ErrorCase.Moment else Ok (saved_tree p)

-- the JSON value of a list, or `Moment` if an expiry is before the year 0
abbrev pub list_written : List (Parts Moment) → Result Data SavedError
list_written ps = if list_any is_early ps then Err ErrorCase.Moment else Ok (list_tree ps)
