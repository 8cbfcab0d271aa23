-- The parts of a parsed cookie are slices of the header value.
use Rattle.std.proofs.Common.{◌≡◌, ℕ, Bool, true, false, List, [], ◌∷◌, length, codes, Option, Some, None, option_and_then, refl, sym, ap, subst, arith, lit<}
use Rattle.std.specs.Prelude.{◌==◌, if◌then◌else◌}
use Rattle.std.specs.List.{AllByRecursion, before_first, after_first, filter_map, cons_option}
use Rattle.std.specs.Option.{IfSome, option_map}
use Rattle.std.specs.Str.{IsUtf8}
use Rattle.std.specs.Str.Iter.{HasSubslice}
use Rattle.std.proofs.lemmas.List.{append-nil}
use Rattle.std.proofs.lemmas.List.Elements.{All-drop, recursion_from_All}
use Rattle.cookie_words.specs.Strings.{pieces}
use Rattle.cookie_words.specs.Strings.{without_dot}
use Rattle.cookie_raw.specs.Rfc6265bis.{accepted_by, any_named, domain_by, is_ignored, last_by, name_by, trim_front, trim_back, trimmed, unless_empty, value_by}
use Rattle.cookie_raw.specs.SetCookie.{is_equals, pair_of, attributes, last, domain_from, path_from}
use Rattle.cookie_raw.specs.declared.syntax.Syntax.{Syntax}
use Rattle.cookie_raw.specs.declared.syntax.Syntax.TheVariants.{Rfc6265, Rfc6265bis}
use Rattle.cookie_raw.proofs.Parts.{IsPart, itself_is_slice, slice_of_slice, take_is_slice, drop_is_slice, before_is_part, after_is_part, pieces_are_parts, trim_is_part}

-- a string without white space at either end
trimmed_is_slice : (syntax : Syntax) (text : List ℕ) → IsUtf8 text → HasSubslice text (trimmed syntax text)
trimmed_is_slice Rfc6265 text utf8 = (trim_is_part text utf8).slice
trimmed_is_slice Rfc6265bis text utf8 =
    slice_of_slice text (trim_front text) (trim_back (trim_front text)) (drop_is_slice _ text) (take_is_slice _ (trim_front text))

-- the name of a part of a string
name_is_slice : (syntax : Syntax) (text part : List ℕ) → IsPart text part → HasSubslice text (name_by syntax part)
name_is_slice syntax text part h =
    let before = before_is_part 61 part (lit< tt) h.utf8 in
    let trims = trimmed_is_slice syntax (before_first is_equals part) before.utf8 in
    slice_of_slice text part (name_by syntax part) h.slice
    (slice_of_slice part (before_first is_equals part) (name_by syntax part) before.slice trims)

-- its value
value_is_slice : (syntax : Syntax) (text part : List ℕ) → IsPart text part → HasSubslice text (value_by syntax part)
value_is_slice syntax text part h =
    let after = after_is_part 61 part (lit< tt) h.utf8 in
    let trims = trimmed_is_slice syntax (after_first is_equals part) after.utf8 in
    slice_of_slice text part (value_by syntax part) h.slice
    (slice_of_slice part (after_first is_equals part) (value_by syntax part) after.slice trims)

-- the name of a cookie
pub pair_name_is_slice : (syntax : Syntax) (text : List ℕ) → IsUtf8 text → HasSubslice text (name_by syntax (pair_of text))
pair_name_is_slice syntax text utf8 = name_is_slice syntax text (pair_of text) (before_is_part 59 text (lit< tt) utf8)

-- the value of a cookie
pub pair_value_is_slice : (syntax : Syntax) (text : List ℕ) → IsUtf8 text → HasSubslice text (value_by syntax (pair_of text))
pair_value_is_slice syntax text utf8 = value_is_slice syntax text (pair_of text) (before_is_part 59 text (lit< tt) utf8)

-- an accepted attribute gives its value
abbrev GivesValue : (List ℕ → List ℕ → Option (List ℕ)) → Type 0
GivesValue from = (name value : List ℕ) → IfSome (from name value) (λ given. given ≡ value)

-- the value given if a test holds
given_under : (is_accepted : Bool) (value : List ℕ) → IfSome (if is_accepted then Some value else None) (λ given. given ≡ value)
given_under true value = refl
given_under false value = tt

-- the value given, if it is that slice
slice_where_given : (text value : List ℕ) (given : Option (List ℕ)) → HasSubslice text value → IfSome given (λ v. v ≡ value) → IfSome given (HasSubslice text)
slice_where_given text value None h e = tt
slice_where_given text value (Some v) h e = subst (HasSubslice text) (sym e) h

-- one more slice, if there is one
onto_slices : (text : List ℕ) (given : Option (List ℕ)) (more : List (List ℕ)) → IfSome given (HasSubslice text)
    → AllByRecursion (HasSubslice text) more → AllByRecursion (HasSubslice text) (cons_option given more)
onto_slices text None more h rest = rest
onto_slices text (Some v) more h rest = (h, rest)

-- the value of an attribute, unless it is ignored
slice_unless_ignored : (text value : List ℕ) (ignored : Bool) (given : Option (List ℕ)) → HasSubslice text value
    → IfSome given (λ v. v ≡ value) → IfSome (if ignored then None else given) (HasSubslice text)
slice_unless_ignored text value true given h e = tt
slice_unless_ignored text value false given h e = slice_where_given text value given h e

-- the values that the parts of a string give
given_are_slices : (syntax : Syntax) (text : List ℕ) (from : List ℕ → List ℕ → Option (List ℕ)) (parts : List (List ℕ)) → GivesValue from
    → AllByRecursion (IsPart text) parts → AllByRecursion (HasSubslice text) (filter_map (accepted_by syntax from) parts)
given_are_slices syntax text from [] gives h = tt
given_are_slices syntax text from (part ∷ parts) gives h =
    onto_slices text (accepted_by syntax from part) (filter_map (accepted_by syntax from) parts)
    (slice_unless_ignored text (value_by syntax part) (is_ignored syntax (value_by syntax part))
    (from (name_by syntax part) (value_by syntax part)) (value_is_slice syntax text part h.0) (gives (name_by syntax part) (value_by syntax part)))
    (given_are_slices syntax text from parts gives h.1)

-- the last of a list of slices
last_is_slice : (text : List ℕ) (xs : List (List ℕ)) → AllByRecursion (HasSubslice text) xs → IfSome (last xs) (HasSubslice text)
last_is_slice text [] h = tt
last_is_slice text (x ∷ []) h = h.0
last_is_slice text (x ∷ y ∷ ys) h = last_is_slice text (y ∷ ys) h.1

-- the value of the last accepted attribute
last_given_is_slice : (syntax : Syntax) (text : List ℕ) (from : List ℕ → List ℕ → Option (List ℕ)) → GivesValue from → IsUtf8 text
    → IfSome (last_by syntax from (attributes text)) (HasSubslice text)
last_given_is_slice syntax text from gives utf8 =
    let parts = All-drop (IsPart text) 1 (pieces 59 text) (pieces_are_parts 59 (length text) text (lit< tt) (omega arith) utf8) in
    last_is_slice text (filter_map (accepted_by syntax from) (attributes text))
    (given_are_slices syntax text from (attributes text) gives (recursion_from_All (IsPart text) (attributes text) parts))

-- a string with or without its first byte
dropped_under : (b : ℕ) (bs : List ℕ) (is_dot : Bool) → HasSubslice (b ∷ bs) (if is_dot then bs else b ∷ bs)
dropped_under b bs true = (b ∷ [], [], ap (λ l. b ∷ l) (sym (append-nil bs)))
dropped_under b bs false = itself_is_slice (b ∷ bs)

-- a string without one leading dot
without_dot_is_slice : (xs : List ℕ) → HasSubslice xs (without_dot xs)
without_dot_is_slice [] = itself_is_slice []
without_dot_is_slice (b ∷ bs) = dropped_under b bs (b == 46)

-- the same for an optional slice
slice_without_dot : (text : List ℕ) (domain : Option (List ℕ)) → IfSome domain (HasSubslice text)
    → IfSome (option_map without_dot domain) (HasSubslice text)
slice_without_dot text None h = tt
slice_without_dot text (Some d) h = slice_of_slice text d (without_dot d) h (without_dot_is_slice d)

-- a slice, unless it is empty
slice_unless : (text value : List ℕ) (is_empty : Bool) → HasSubslice text value
    → IfSome (if is_empty then None else Some value) (HasSubslice text)
slice_unless text value true h = tt
slice_unless text value false h = h

-- the same for an optional slice
slice_unless_empty : (text : List ℕ) (given : Option (List ℕ)) → IfSome given (HasSubslice text)
    → IfSome (option_and_then unless_empty given) (HasSubslice text)
slice_unless_empty text None h = tt
slice_unless_empty text (Some value) h = slice_unless text value (length value == 0) h

-- the last Domain attribute
last_domain_is_slice : (syntax : Syntax) (text : List ℕ) → IsUtf8 text → IfSome (domain_by syntax (attributes text)) (HasSubslice text)
last_domain_is_slice Rfc6265 text utf8 = last_given_is_slice Rfc6265 text domain_from (λ name value. given_under _ value) utf8
last_domain_is_slice Rfc6265bis text utf8 =
    slice_unless_empty text (last_by Rfc6265bis (any_named (codes "Domain")) (attributes text))
    (last_given_is_slice Rfc6265bis text (any_named (codes "Domain")) (λ name value. given_under _ value) utf8)

-- the Domain attribute without its dot
pub domain_is_slice : (syntax : Syntax) (text : List ℕ) → IsUtf8 text
    → IfSome (option_map without_dot (domain_by syntax (attributes text))) (HasSubslice text)
domain_is_slice syntax text utf8 =
    slice_without_dot text (domain_by syntax (attributes text)) (last_domain_is_slice syntax text utf8)

-- the Path attribute
pub path_is_slice : (syntax : Syntax) (text : List ℕ) → IsUtf8 text → IfSome (last_by syntax path_from (attributes text)) (HasSubslice text)
path_is_slice syntax text utf8 = last_given_is_slice syntax text path_from (λ name value. given_under _ value) utf8
