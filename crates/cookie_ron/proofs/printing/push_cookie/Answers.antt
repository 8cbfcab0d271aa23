use Rattle.std.proofs.Common.{◌≡◌, ℕ, List, ◌++◌, Bool, Result, Ok, Err, OnOk, is_ok, if◌then◌else◌, string_bytes, ap, ◌∙◌, append_assoc}
use Rattle.cookie_ron.specs.Printed.{printed_path, quoted}
use Rattle.cookie_ron.proofs.printing.push_cookie.Goals as goal

-- two strings appended, one after the other
next : (old between new a b : List ℕ) → between ≡ old ++ a → new ≡ between ++ b → new ≡ old ++ (a ++ b)
next old between new a b first second = second ∙ ap (λ text. text ++ b) first ∙ append_assoc old a b

-- a string behind all others, if there was memory for it
last : {T E : Type 0} (outcome : Result T E) (old between new a b : List ℕ) → between ≡ old ++ a
    → new ≡ if◌then◌else◌ (is_ok outcome) (between ++ b) between → OnOk outcome (new ≡ old ++ (a ++ b))
last (Ok done) old between new a b first second = next old between new a b first second
last (Err error) old between new a b first second = tt

-- a field: its name, its value and the end of its line
line : (old after_name after_value new name value end : List ℕ) → after_name ≡ old ++ name → after_value ≡ after_name ++ value
    → new ≡ after_value ++ end → new ≡ old ++ (name ++ value ++ end)
line old after_name after_value new name value end n v e =
    next old after_value new (name ++ value) end (next old after_name after_value name value n v) e

-- a quoted string, and one that equals it
in_quotes : (old new given text : List ℕ) → new ≡ old ++ quoted given → given ≡ text → new ≡ old ++ quoted text
in_quotes old new given text is same = is ∙ ap (λ text. old ++ quoted text) same

of_path : (old new given text : List ℕ) (flag : Bool) → new ≡ old ++ printed_path given flag → given ≡ text → new ≡ old ++ printed_path text flag
of_path old new given text flag is same = is ∙ ap (λ text. old ++ printed_path text flag) same

pub returns : goal.returns
returns c =
    let old = string_bytes c.args.text.now in
    let raw_cookie = line _ _ _ _ _ _ _ c.in_ok-push_name.ensures (in_quotes _ _ c.deref.result.now _ c.in_ok-push_quoted.ensures c.deref.ensures) c.in_ok-push_str-2.ensures.bytes in
    let path = line _ _ _ _ _ _ _ c.in_ok-push_name-2.ensures (of_path _ _ c.deref-2.result.now _ c.args.saved.now.from_attr c.in_ok-push_path.ensures c.deref-2.ensures) c.in_ok-push_str-3.ensures.bytes in
    let domain = line _ _ _ _ _ _ _ c.in_ok-push_name-3.ensures c.in_ok-push_domain.ensures c.in_ok-push_str-4.ensures.bytes in
    let end = line _ _ _ _ _ _ _ c.in_ok-push_name-4.ensures c.in_ok-push_expiry.ensures c.in_ok-push_str-5.ensures.bytes in
    let first = next old _ _ _ _ c.in_ok-push_str.ensures.bytes raw_cookie in
    let second = next old _ _ _ _ first path in
    let third = next old _ _ _ _ second domain in
    let fourth = next old _ _ _ _ third end in
    last c.push_str-6.result old _ _ _ _ fourth c.push_str-6.ensures.bytes
