-- The compact JSON of a saved cookie contains no control character.
use Rattle.std.proofs.Common.{◌≡◌, ℕ, List, [], ◌∷◌, ◌++◌, Bool, true, false, Option, Some, None, Ok, codes, nat_le, refl, subst, arith}
use Rattle.std.proofs.lemmas.Bool.Decides.{nat_tests}
use Rattle.std.proofs.lemmas.List.Folds.{list_all-append}
use Rattle.json.specs.Print.{escape, escape_byte, quoted}
use Rattle.serde_json.specs.Data.{Data, boolean, string}
use Rattle.serde_json.specs.Written.{compact_text}
use Rattle.cookie_words.specs.Moments.{Moment}
use Rattle.cookie_forms.specs.Saved.{Domain, host_only, suffix, not_present, empty, Parts}
use Rattle.cookie_forms.specs.JsonText.{has_no_control}
use Rattle.cookie_forms.specs.ToJson.{cookie_tree, domain_tree, expiry_tree, path_tree, tagged_tree, with_expiry_text, is_early, written}
use Rattle.cookie_forms.specs.declared.error.SavedError.TheVariants as ErrorCase
use Rattle.cookie_forms.proofs.TreesPlain.{same_tree}

both : (a b : List ℕ) → has_no_control a ≡ true → has_no_control b ≡ true → has_no_control (a ++ b) ≡ true
both a b is_a is_b = rw (list_all-append (λ x. nat_le 32 x) a b, is_a, is_b) refl

escaped_byte : (x : ℕ) → has_no_control (escape_byte x) ≡ true
unfolding escape_byte
escaped_byte x = grind (arith, nat_tests)

escaped : (s : List ℕ) → has_no_control (escape s) ≡ true
escaped [] = refl
escaped (x ∷ s) = both (escape_byte x) (escape s) (escaped_byte x) (escaped s)

in_quotes : (s : List ℕ) → has_no_control (quoted s) ≡ true
in_quotes s = both (escape s) (34 ∷ []) (escaped s) refl

tagged : (tag text : List ℕ) → has_no_control (compact_text (tagged_tree tag text)) ≡ true
tagged tag text = both (quoted tag) (58 ∷ (quoted text ++ 125 ∷ [])) (in_quotes tag) (both (quoted text) (125 ∷ []) (in_quotes text) refl)

of_domain : (d : Domain) → has_no_control (compact_text (domain_tree d)) ≡ true
of_domain (host_only text) = tagged (codes "HostOnly") text
of_domain (suffix text) = tagged (codes "Suffix") text
of_domain not_present = in_quotes (codes "NotPresent")
of_domain empty = in_quotes (codes "Empty")

of_ends : (o : Option (List ℕ)) → has_no_control (compact_text (expiry_tree o)) ≡ true
of_ends (Some text) = tagged (codes "AtUtc") text
of_ends None = in_quotes (codes "SessionEnd")

of_flag : (b : Bool) → has_no_control (compact_text (boolean b) ++ 93 ∷ []) ≡ true
of_flag true = refl
of_flag false = refl

of_path : (path : List ℕ) (from_attr : Bool) → has_no_control (compact_text (path_tree path from_attr)) ≡ true
of_path path from_attr = both (quoted path) (44 ∷ (compact_text (boolean from_attr) ++ 93 ∷ [])) (in_quotes path) (of_flag from_attr)

-- a member and what follows it
named : (name : List ℕ) (d : Data) (rest : List ℕ) → has_no_control (compact_text d) ≡ true → has_no_control rest ≡ true
    → has_no_control (quoted name ++ 58 ∷ (compact_text d ++ rest)) ≡ true
named name d rest of_data of_rest = both (quoted name) (58 ∷ (compact_text d ++ rest)) (in_quotes name) (both (compact_text d) rest of_data of_rest)

of_cookie : (p : Parts (List ℕ)) → has_no_control (compact_text (cookie_tree p)) ≡ true
of_cookie p =
    named (codes "domain") (domain_tree p.domain) _ (of_domain p.domain)
    (named (codes "expires") (expiry_tree p.expires) _ (of_ends p.expires)
    (named (codes "path") (path_tree p.path p.from_attr) _ (of_path p.path p.from_attr)
    (named (codes "raw_cookie") (string p.raw_cookie) _ (in_quotes p.raw_cookie) refl)))

pub saved_line : (p : Parts Moment) (tree : Data) → written p ≡ Ok tree → has_no_control (compact_text tree) ≡ true
saved_line p tree h =
    subst (λ t. has_no_control (compact_text t) ≡ true) (same_tree (is_early p) ErrorCase.Moment _ tree h) (of_cookie (with_expiry_text p))
