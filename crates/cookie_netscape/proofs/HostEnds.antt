-- What precedes the end of a string, and what is between brackets.
use Rattle.std.proofs.Common.{◌≡◌, ◌≢◌, ℕ, ◌-◌, ◌==◌, ◌&&◌, true, false, if◌then◌else◌, List, [], ◌∷◌, ◌++◌, length, map, take, drop, codes, nat_eq, refl, sym, ap, ap₂, ◌∙◌, arith, length-append, take-append-drop}
use Rattle.std.specs.Char.{to_ascii_lowercase}
use Rattle.std.specs.Cmp.Lexicographic.{pointwise, same_text}
use Rattle.std.specs.List.{ends_with}
use Rattle.std.proofs.lemmas.Bool.{and_left, and_parts, cond-false, eqb-true, false_from_ne_true}
use Rattle.std.proofs.lemmas.Cmp.{nat_list_eq_equiv}
use Rattle.std.proofs.lemmas.List.{map-append}
use Rattle.std.proofs.Math.Seq.{drop-append_seam, take-append_seam}
use Rattle.cookie_netscape.specs.HostFields.{cut_by, is_bare_address, written_host}

-- a string that ends in another is a front and that one
pub front_of : (text needle : List ℕ) → ends_with nat_eq text needle ≡ true → text ≡ take (length text - length needle) text ++ needle
front_of text needle ends =
    let n : ℕ = length text - length needle in
    sym (take-append-drop n text) ∙ ap (λ back. take n text ++ back) (sym (same_text needle (drop n text) (sym ends)))

-- a string that is no front and another does not end in it
pub ends_otherwise : (text needle : List ℕ) → ((front : List ℕ) → text ≢ front ++ needle) → ends_with nat_eq text needle ≡ false
ends_otherwise text needle none = false_from_ne_true _ (λ ends. none _ (front_of text needle ends))

-- how long the front is
front_length : (front needle : List ℕ) → length (front ++ needle) - length needle ≡ length front
front_length front needle = omega (arith, length-append front needle)

-- a front and another string end in it
pub ends_so : (front needle : List ℕ) → ends_with nat_eq (front ++ needle) needle ≡ true
ends_so front needle =
    ap (λ n. pointwise nat_eq needle (drop n (front ++ needle))) (front_length front needle)
    ∙ ap (pointwise nat_eq needle) (drop-append_seam front needle)
    ∙ nat_list_eq_equiv.refl needle

-- what precedes it is the front
pub front_is : (front needle : List ℕ) → take (length (front ++ needle) - length needle) (front ++ needle) ≡ front
front_is front needle = ap (λ n. take n (front ++ needle)) (front_length front needle) ∙ take-append_seam front needle

-- a host without brackets is written as it is
pub no_brackets : (host : List ℕ) → ((inner : List ℕ) → host ≢ 91 ∷ inner ++ 93 ∷ []) → written_host host ≡ host
unfolding written_host
no_brackets [] none = refl
no_brackets (b ∷ rest) none =
    cond-false _ _ _ (and_left _ _ (false_from_ne_true ((b == 91) && ends_with nat_eq rest (codes "]"))
    (λ both. let parts = and_parts _ _ both in
    none (cut_by 1 rest) (ap₂ (λ c more. c ∷ more) (eqb-true b 91 parts.0) (front_of rest (codes "]") parts.1)))))

-- a host with brackets is written without them if it is an IPv6 address
pub with_brackets : (host inner : List ℕ) → host ≡ 91 ∷ inner ++ 93 ∷ [] → written_host host ≡ (if is_bare_address inner then inner else host)
unfolding written_host
with_brackets host inner is = rw (is, ends_so inner (codes "]"), front_is inner (codes "]")) refl

-- brackets have no case
pub lower_brackets : (text : List ℕ) → map to_ascii_lowercase (91 ∷ text ++ 93 ∷ []) ≡ 91 ∷ map to_ascii_lowercase text ++ 93 ∷ []
lower_brackets text = ap (λ rest. 91 ∷ rest) (map-append to_ascii_lowercase text (93 ∷ []))
