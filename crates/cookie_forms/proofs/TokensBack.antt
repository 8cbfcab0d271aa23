-- The tokens of saved cookies are read as their JSON values.
use Rattle.std.proofs.Common.{◌≡◌, ◌≤◌, ℕ, suc, List, [], ◌∷◌, map, false, Option, Some, None, Ok, option_and_then, option_map, refl, sym, ap, ◌∙◌, arith, append-nil}
use Rattle.std.specs.List.{list_any}
use Rattle.json.specs.Json as json
use Rattle.json.specs.Layout.{pretty}
use Rattle.json.specs.Lex.{tokens}
use Rattle.json.specs.Print.{print}
use Rattle.json.specs.Token.{Token}
use Rattle.json.specs.Tree as tree
use Rattle.json.proofs.Printed.Trees.{value-json_tokens}
use Rattle.serde_json.specs.Data.{Data, null, boolean, number, string, array, object, Items, no_items, item, Members, no_members, member, depth, items_depth, members_depth}
use Rattle.serde_json.specs.Read.{max_depth, of_items, of_json, read}
use Rattle.serde_json.specs.View.{items_of}
use Rattle.serde_json.specs.Written.{compact_text, items_outline, members_outline, outline}
use Rattle.serde_json.proofs.Texts.{print-outline}
use Rattle.cookie_words.specs.Moments.{Moment}
use Rattle.cookie_forms.specs.Saved.{Domain, host_only, suffix, not_present, empty, Parts}
use Rattle.cookie_forms.specs.JsonText.{pretty_text, tokens_of_tree}
use Rattle.cookie_forms.specs.ToJson.{cookie_tree, domain_tree, expiry_tree, is_early, list_tree, list_written, saved_tree, with_expiry_text, written}
use Rattle.cookie_forms.proofs.TreesPlain.{list_nests, saved_nests}

-- ---- an outline nests as deep as its value

mutual
  same_depth : (d : Data) → tree.depth (outline d) ≡ depth d
  same_depth null = refl
  same_depth (boolean b) = refl
  same_depth (number n) = refl
  same_depth (string s) = refl
  same_depth (array ds) = ap suc (same_items_depth ds)
  same_depth (object ms) = ap suc (same_members_depth ms)

  same_items_depth : (ds : Items) → tree.items_depth (items_outline ds) ≡ items_depth ds
  same_items_depth no_items = refl
  same_items_depth (item d ds) = rw (same_depth d, same_items_depth ds) refl

  same_members_depth : (ms : Members) → tree.members_depth (members_outline ms) ≡ members_depth ms
  same_members_depth no_members = refl
  same_members_depth (member k d ms) = rw (same_depth d, same_members_depth ms) refl

-- ---- an outline of saved cookies is read as their value

domain_read : (d : Domain) → of_json (outline (domain_tree d)) ≡ Some (domain_tree d)
domain_read (host_only text) = refl
domain_read (suffix text) = refl
domain_read not_present = refl
domain_read empty = refl

expiry_read : (o : Option (List ℕ)) → of_json (outline (expiry_tree o)) ≡ Some (expiry_tree o)
expiry_read None = refl
expiry_read (Some text) = refl

cookie_read : (p : Parts (List ℕ)) → of_json (outline (cookie_tree p)) ≡ Some (cookie_tree p)
cookie_read p = rw (domain_read p.domain, expiry_read p.expires) refl

items_read : (ps : List (Parts Moment)) → of_items (items_outline (items_of (map saved_tree ps))) ≡ Some (items_of (map saved_tree ps))
items_read [] = refl
items_read (p ∷ ps) = rw (cookie_read (with_expiry_text p), items_read ps) refl

-- ---- a text with these tokens is read as the value

-- the value that the grammar's result is, if nothing follows it
abbrev whole : Option (json.Json × List Token) → Option Data
whole o = option_and_then of_json (option_and_then (λ p. json.if_last p.0 p.1) o)

read_from : (text : List ℕ) (d : Data) → tokens text ≡ tokens_of_tree d → depth d ≤ max_depth → of_json (outline d) ≡ Some d → read text ≡ Some d
read_from text d same shallow is =
    ap whole (
    ap (json.value max_depth) (same ∙ sym (append-nil (tokens_of_tree d)))
    ∙ value-json_tokens (outline d) max_depth [] (omega (arith, same_depth d, shallow))
    ) ∙ is

pub saved_read : (text : List ℕ) (p : Parts Moment) → tokens text ≡ tokens_of_tree (saved_tree p) → depth (saved_tree p) ≤ max_depth
    → read text ≡ Some (saved_tree p)
saved_read text p same shallow = read_from text (saved_tree p) same shallow (cookie_read (with_expiry_text p))

pub list_read : (text : List ℕ) (ps : List (Parts Moment)) → tokens text ≡ tokens_of_tree (list_tree ps) → depth (list_tree ps) ≤ max_depth
    → read text ≡ Some (list_tree ps)
list_read text ps same shallow = read_from text (list_tree ps) same shallow (ap (option_map array) (items_read ps))

-- ---- what the formatted text of these tokens is

pub compact_back : (text : List ℕ) (p : Parts Moment) (ts : List Token)
    → is_early p ≡ false → ts ≡ tokens_of_tree (saved_tree p) → text ≡ print ts → tokens text ≡ ts
    → (text ≡ compact_text (saved_tree p)) × (read text ≡ Some (saved_tree p))
compact_back text p ts early same layout back =
    let is : written p ≡ Ok (saved_tree p) = rw early refl in
    (layout ∙ ap print same ∙ print-outline (saved_tree p), saved_read text p (back ∙ same) (saved_nests p _ is))

pub pretty_back : (text : List ℕ) (ps : List (Parts Moment)) (ts : List Token)
    → list_any is_early ps ≡ false → ts ≡ tokens_of_tree (list_tree ps) → text ≡ pretty ts → tokens text ≡ ts
    → (text ≡ pretty_text (list_tree ps)) × (read text ≡ Some (list_tree ps))
pretty_back text ps ts early same layout back =
    let is : list_written ps ≡ Ok (list_tree ps) = rw early refl in
    (layout ∙ ap pretty same, list_read text ps (back ∙ same) (list_nests ps _ is))
