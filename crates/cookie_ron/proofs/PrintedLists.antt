-- A printed list of saved cookies is of the grammar.
use Rattle.std.proofs.Common.{◌≡◌, ℕ, List, [], ◌∷◌, ◌++◌, Bool, true, false, map, flat_map, codes, option_map, string_bytes, append-nil, append_assoc, refl, sym, ap, subst, ◌∙◌}
use Rattle.std.proofs.lemmas.Str.{IsUtf8-string_bytes, IsUtf8-nil, chars-nil}
use Rattle.std.specs.Str.{IsUtf8, chars}
use Rattle.cookie_forms.specs.MomentText.{moment_text}
use Rattle.cookie_forms.specs.Saved.{Parts, domain_view, expiry_view, saved_view}
use Rattle.cookie_forms.specs.ToJson.{with_expiry_text}
use Rattle.cookie_forms.specs.declared.saved.Saved.{Saved}
use Rattle.cookie_forms.specs.declared.saved.SavedDomain.{SavedDomain}
use Rattle.cookie_forms.specs.declared.saved.SavedDomain.TheVariants as Kind
use Rattle.cookie_forms.specs.declared.saved.SavedExpiry.{SavedExpiry}
use Rattle.cookie_forms.specs.declared.saved.SavedExpiry.TheVariants as Expiry
use Rattle.cookie_ron.specs.Grammar.{Blanks, Flag, Argument, PathPair, DomainForm, ExpiryForm, Cookie, Cookies, IsList}
use Rattle.cookie_ron.specs.Printed.{quoted, printed_flag, printed_path, printed_domain, printed_expiry, printed_cookie, printed_list}
use Rattle.cookie_ron.proofs.MomentTexts.{moment_utf8}
use Rattle.cookie_ron.proofs.PrintedChars.{text_in_quotes}
use Rattle.cookie_ron.proofs.HasRule.{HasRule, ascii_chars, ascii_utf8, both, close, close_comma, token}

-- a string in parentheses
argument : (text : List ℕ) → IsUtf8 text → HasRule (Argument text) (codes "(" ++ (quoted text ++ codes ")"))
argument text u = both (token [] (codes "(") refl refl) (both (text_in_quotes [] text refl refl u) (close (token [] (codes ")") refl refl)))

flag : (b : Bool) → HasRule (Flag b) (codes " " ++ printed_flag b)
flag true = token (codes " ") (codes "true") refl refl
flag false = token (codes " ") (codes "false") refl refl

in_row : (a b c d : List ℕ) → a ++ b ++ c ++ d ≡ a ++ (b ++ (c ++ d))
in_row a b c d = simp append_assoc

path_pair : (text : List ℕ) (b : Bool) → IsUtf8 text → HasRule (PathPair text b) (codes " " ++ printed_path text b)
path_pair text b u =
    let pair_rule : HasRule (PathPair text b) (codes " (" ++ (quoted text ++ (codes "," ++ ((codes " " ++ printed_flag b) ++ codes ")")))) =
    both (token (codes " ") (codes "(") refl refl) (both (text_in_quotes [] text refl refl u) (both (token [] (codes ",") refl refl) (both (flag b) (close (token [] (codes ")") refl refl))))) in
    subst (λ s. HasRule (PathPair text b) (codes " (" ++ s)) (sym (in_row (quoted text) (codes ", ") (printed_flag b) (codes ")"))) pair_rule

domain : (d : SavedDomain) → HasRule (DomainForm (domain_view d)) (codes " " ++ printed_domain (domain_view d))
domain (Kind.HostOnly text) = both (token (codes " ") (codes "HostOnly") refl refl) (argument (string_bytes text) (IsUtf8-string_bytes text))
domain (Kind.Suffix text) = both (token (codes " ") (codes "Suffix") refl refl) (argument (string_bytes text) (IsUtf8-string_bytes text))
domain Kind.NotPresent = token (codes " ") (codes "NotPresent") refl refl
domain Kind.Empty = token (codes " ") (codes "Empty") refl refl

end : (e : SavedExpiry) → HasRule (ExpiryForm (option_map moment_text (expiry_view e))) (codes " " ++ printed_expiry (option_map moment_text (expiry_view e)))
end (Expiry.AtUtc time) = both (token (codes " ") (codes "AtUtc") refl refl) (argument _ (moment_utf8 time))
end Expiry.SessionEnd = token (codes " ") (codes "SessionEnd") refl refl

-- a cookie, from the line feed before its parentheses to their end
abbrev body : Parts (List ℕ) → List ℕ
body p =
    codes "\n    (\n"
    ++ (codes "        raw_cookie: " ++ (quoted p.raw_cookie ++ (codes ",\n"
    ++ (codes "        path: " ++ (printed_path p.path p.from_attr ++ (codes ",\n"
    ++ (codes "        domain: " ++ (printed_domain p.domain ++ (codes ",\n"
    ++ (codes "        expires: " ++ (printed_expiry p.expires ++ (codes ",\n"
    ++ codes "    )"))))))))))))

-- the lines of four fields
lines : (head name1 value1 name2 value2 name3 value3 name4 value4 stop foot comma : List ℕ)
    → head ++ (name1 ++ value1 ++ stop) ++ (name2 ++ value2 ++ stop) ++ (name3 ++ value3 ++ stop) ++ (name4 ++ value4 ++ stop) ++ (foot ++ comma)
    ≡ (head ++ (name1 ++ (value1 ++ (stop ++ (name2 ++ (value2 ++ (stop ++ (name3 ++ (value3 ++ (stop ++ (name4 ++ (value4 ++ (stop ++ foot))))))))))))) ++ comma
lines head name1 value1 name2 value2 name3 value3 name4 value4 stop foot comma = simp append_assoc

body_is : (p : Parts (List ℕ)) → codes "\n" ++ printed_cookie p ≡ body p ++ codes ",\n"
body_is p =
    lines (codes "\n    (\n") (codes "        raw_cookie: ") (quoted p.raw_cookie) (codes "        path: ") (printed_path p.path p.from_attr)
    (codes "        domain: ") (printed_domain p.domain) (codes "        expires: ") (printed_expiry p.expires) (codes ",\n") (codes "    )") (codes ",\n")

cookie : (s : Saved) → HasRule (Cookie (with_expiry_text (saved_view s))) (body (with_expiry_text (saved_view s)))
cookie s =
    both (token (codes "\n    ") (codes "(") refl refl)
    (both (both (token (codes "\n        ") (codes "raw_cookie") refl refl) (both (token [] (codes ":") refl refl) (text_in_quotes (codes " ") (string_bytes s.raw_cookie) refl refl (IsUtf8-string_bytes s.raw_cookie))))
    (both (token [] (codes ",") refl refl)
    (both (both (token (codes "\n        ") (codes "path") refl refl) (both (token [] (codes ":") refl refl) (path_pair (string_bytes s.path) s.from_attr (IsUtf8-string_bytes s.path))))
    (both (token [] (codes ",") refl refl)
    (both (both (token (codes "\n        ") (codes "domain") refl refl) (both (token [] (codes ":") refl refl) (domain s.domain)))
    (both (token [] (codes ",") refl refl)
    (both (both (token (codes "\n        ") (codes "expires") refl refl) (both (token [] (codes ":") refl refl) (end s.expires)))
    (close_comma (both (token [] (codes ",") refl refl) (token (codes "\n    ") (codes ")") refl refl))))))))))

-- a cookie and what follows it
step : (p : Parts (List ℕ)) (rest : List ℕ)
    → codes "\n" ++ ((printed_cookie p ++ rest) ++ codes "]") ≡ body p ++ (codes "," ++ (codes "\n" ++ (rest ++ codes "]")))
step p rest =
    ap (λ t. codes "\n" ++ t) (append_assoc (printed_cookie p) rest (codes "]"))
    ∙ ap (λ t. t ++ (rest ++ codes "]")) (body_is p)
    ∙ append_assoc (body p) (codes ",\n") (rest ++ codes "]")

abbrev parts : List Saved → List (Parts (List ℕ))
parts list = map with_expiry_text (map saved_view list)

cookies : (s : Saved) (list : List Saved) → HasRule (Cookies (parts (s ∷ list))) (codes "\n" ++ (flat_map printed_cookie (parts (s ∷ list)) ++ codes "]"))
cookies s [] =
    subst (HasRule (Cookies (parts (s ∷ [])))) (sym (step (with_expiry_text (saved_view s)) []))
    (both (cookie s) (close_comma (both (token [] (codes ",") refl refl) (token (codes "\n") (codes "]") refl refl))))
cookies s (t ∷ list) =
    subst (HasRule (Cookies (parts (s ∷ t ∷ list)))) (sym (step (with_expiry_text (saved_view s)) (flat_map printed_cookie (parts (t ∷ list)))))
    (both (cookie s) (both (token [] (codes ",") refl refl) (cookies t list)))

no_blanks : HasRule Blanks []
no_blanks = record { utf8 = IsUtf8-nil; matches = rw chars-nil refl }

line_feed : HasRule Blanks (10 ∷ [])
line_feed = record { utf8 = ascii_utf8 (10 ∷ []) refl; matches = rw (ascii_chars (10 ∷ []) refl) refl }

-- a printed list, blanks after it allowed; the strings of saved cookies are UTF-8
list_rule : (list : List Saved) {blanks : List ℕ} → HasRule Blanks blanks → HasRule (IsList (parts list)) (printed_list (parts list) ++ blanks)
list_rule [] blanks = both (token [] (codes "[") refl refl) (both (token [] (codes "]") refl refl) blanks)
list_rule (s ∷ list) blanks = both (token [] (codes "[") refl refl) (both (cookies s list) blanks)

pub printed_is_list : (list : List Saved) → IsList (map with_expiry_text (map saved_view list)) (chars (printed_list (map with_expiry_text (map saved_view list))))
printed_is_list list = subst (λ text. IsList (parts list) (chars text)) (append-nil _) (list_rule list no_blanks).matches

-- the same with a line feed after it
pub line_is_list : (list : List Saved)
    → IsList (map with_expiry_text (map saved_view list)) (chars (printed_list (map with_expiry_text (map saved_view list)) ++ 10 ∷ []))
line_is_list list = (list_rule list line_feed).matches
