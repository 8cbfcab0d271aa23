-- The JSON of saved cookies has no float, and nests at most three deep.
use Rattle.std.proofs.Common.{◌≡◌, ◌≤◌, ℕ, suc, max, List, [], ◌∷◌, map, Bool, true, false, true≢false, ◌||◌, Option, Some, None, Result, Ok, Err, is_ok, if◌then◌else◌, refl, sym, ap, subst, arith}
use Rattle.std.specs.List.{list_any}
use Rattle.serde_json.specs.Data.{Data, null, depth, items_depth}
use Rattle.serde_json.specs.Read.{max_depth}
use Rattle.serde_json.specs.View.{items_of}
use Rattle.serde_json.specs.Written.{has_float, items_have_float}
use Rattle.cookie_words.specs.Moments.{Moment}
use Rattle.cookie_forms.specs.Saved.{Domain, host_only, suffix, not_present, empty, Parts}
use Rattle.cookie_forms.specs.ToJson.{cookie_tree, domain_tree, expiry_tree, with_expiry_text, saved_tree, is_early, written, list_written}
use Rattle.cookie_forms.specs.declared.error.SavedError.{SavedError}
use Rattle.cookie_forms.specs.declared.error.SavedError.TheVariants as ErrorCase

pub first_false : (a b : Bool) → (a || b) ≡ false → a ≡ false
first_false true b h = h
first_false false b h = refl

pub second_false : (a b : Bool) → (a || b) ≡ false → b ≡ false
second_false true b h = absurd (true≢false h)
second_false false b h = h

-- the JSON value of a result
abbrev tree_of : Result Data SavedError → Data
tree_of (Ok t) = t
tree_of (Err e) = null

pub by_written : (b : Bool) (e : SavedError) (t tree : Data) → (if b then Err e else Ok t) ≡ Ok tree → b ≡ false
by_written true e t tree h = absurd (true≢false (sym (ap is_ok h)))
by_written false e t tree h = refl

pub same_tree : (b : Bool) (e : SavedError) (t tree : Data) → (if b then Err e else Ok t) ≡ Ok tree → t ≡ tree
same_tree true e t tree h = absurd (true≢false (sym (ap is_ok h)))
same_tree false e t tree h = ap tree_of h

-- none of these JSON values contains a float
pub domain_plain : (d : Domain) → has_float (domain_tree d) ≡ false
domain_plain (host_only text) = refl
domain_plain (suffix text) = refl
domain_plain not_present = refl
domain_plain empty = refl

pub expires_plain : (o : Option (List ℕ)) → has_float (expiry_tree o) ≡ false
expires_plain None = refl
expires_plain (Some text) = refl

pub cookie_plain : (p : Parts (List ℕ)) → has_float (cookie_tree p) ≡ false
cookie_plain p = rw (domain_plain p.domain, expires_plain p.expires) refl

pub items_plain : (ps : List (Parts Moment)) → items_have_float (items_of (map saved_tree ps)) ≡ false
items_plain [] = refl
items_plain (p ∷ ps) = rw (cookie_plain (with_expiry_text p), items_plain ps) refl

-- how deep these JSON values nest
parts_nest : (domain : Domain) (expires : Option (List ℕ)) (rest : ℕ) → rest ≡ 1
    → suc (max (depth (domain_tree domain)) (max (depth (expiry_tree expires)) rest)) ≡ 2
parts_nest (host_only text) None rest e = rw e refl
parts_nest (host_only text) (Some end) rest e = rw e refl
parts_nest (suffix text) None rest e = rw e refl
parts_nest (suffix text) (Some end) rest e = rw e refl
parts_nest not_present None rest e = rw e refl
parts_nest not_present (Some end) rest e = rw e refl
parts_nest empty None rest e = rw e refl
parts_nest empty (Some end) rest e = rw e refl

cookie_nests : (p : Parts (List ℕ)) → depth (cookie_tree p) ≡ 2
cookie_nests p = parts_nest p.domain p.expires _ refl

items_nest : (ps : List (Parts Moment)) → items_depth (items_of (map saved_tree ps)) ≤ 2
items_nest [] = omega arith
items_nest (p ∷ ps) = rw (cookie_nests (with_expiry_text p)) (omega (arith, items_nest ps))

pub saved_no_float : (p : Parts Moment) (tree : Data) → written p ≡ Ok tree → has_float tree ≡ false
saved_no_float p tree h = subst (λ t. has_float t ≡ false) (same_tree (is_early p) ErrorCase.Moment _ tree h) (cookie_plain (with_expiry_text p))

pub saved_nests : (p : Parts Moment) (tree : Data) → written p ≡ Ok tree → depth tree ≤ max_depth
saved_nests p tree h =
    subst (λ t. depth t ≤ max_depth) (same_tree (is_early p) ErrorCase.Moment _ tree h) (rw (cookie_nests (with_expiry_text p)) (omega arith))

pub list_no_float : (ps : List (Parts Moment)) (tree : Data) → list_written ps ≡ Ok tree → has_float tree ≡ false
list_no_float ps tree h = subst (λ t. has_float t ≡ false) (same_tree (list_any is_early ps) ErrorCase.Moment _ tree h) (items_plain ps)

pub list_nests : (ps : List (Parts Moment)) (tree : Data) → list_written ps ≡ Ok tree → depth tree ≤ max_depth
list_nests ps tree h =
    subst (λ t. depth t ≤ max_depth) (same_tree (list_any is_early ps) ErrorCase.Moment _ tree h) (omega (arith, items_nest ps))
