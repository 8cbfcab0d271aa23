-- The attributes that printing a cookie writes.
use Rattle.std.proofs.Common.{◌≡◌, ℕ, Bool, true, false, List, [], ◌∷◌, ◌++◌, codes, Option, Some, None, IfSome, if◌then◌else◌, option_map, option_and_then, unwrap_or, refl, ap, ◌∙◌, append_assoc, append-nil}
use Rattle.std.specs.List.{list_any}
use Rattle.std.specs.Str.{trim, trim_start, trim_end, chars}
use Rattle.std.proofs.Math.Utf8.{encode}
use Rattle.std.proofs.lemmas.List.Folds.{list_any-append}
use Rattle.cookie_raw.specs.CookieText.{flag, optional, site_text, age_text, expires_text, is_for_all_sites, cookie_text}
use Rattle.cookie_raw.specs.Raw.{Raw}
use Rattle.cookie_raw.specs.SetCookie.{is_equals, is_semicolon, value_of}
use Rattle.cookie_raw.proofs.JoinedPieces.{Attribute, IsPiece, IsWellPrinted, behind_semicolon, joined, before_at, after_at, before_none}
use Rattle.cookie_raw.proofs.PlainParts.{IsPlainText}

-- an attribute without a value, if it is set
abbrev pub flag_attribute : List ℕ → Bool → Attribute
flag_attribute name is_set = record { name = name; piece = if is_set then Some (32 ∷ name) else None }

-- an attribute with its value, if there is one
abbrev pub value_attribute : List ℕ → Option (List ℕ) → Attribute
value_attribute name value = record { name = name; piece = option_map (λ v. 32 ∷ (name ++ 61 ∷ v)) value }

-- the name and the value of a cookie
abbrev pub pair_text : Raw → List ℕ
pair_text cookie = cookie.name ++ 61 ∷ cookie.value

-- the attributes of a cookie, in the order in which they are printed
abbrev pub printed : Raw → List Attribute
printed cookie =
    flag_attribute (codes "HttpOnly") (unwrap_or cookie.http_only false)
    ∷ value_attribute (codes "SameSite") (option_map site_text cookie.same_site)
    ∷ flag_attribute (codes "Secure") (unwrap_or cookie.secure (is_for_all_sites cookie.same_site))
    ∷ value_attribute (codes "Path") cookie.path
    ∷ value_attribute (codes "Domain") cookie.domain
    ∷ value_attribute (codes "Max-Age") (option_map age_text cookie.max_age)
    ∷ value_attribute (codes "Expires") (option_and_then expires_text cookie.expires)
    ∷ []

-- a flag is printed after a `;`
flag_text : (name : List ℕ) (is_set : Bool) → flag (59 ∷ 32 ∷ name) is_set ≡ behind_semicolon (flag_attribute name is_set).piece
flag_text name true = refl
flag_text name false = refl

-- so is an attribute with its value
value_text : (name : List ℕ) (value : Option (List ℕ))
    → optional (59 ∷ 32 ∷ (name ++ 61 ∷ [])) value ≡ behind_semicolon (value_attribute name value).piece
value_text name None = refl
value_text name (Some v) = ap (λ l. 59 ∷ 32 ∷ l) (append_assoc name (61 ∷ []) v)

-- seven strings after a pair, regrouped
regrouped : (name value a b c d e f g : List ℕ)
    → ((((((((name ++ 61 ∷ []) ++ value) ++ a) ++ b) ++ c) ++ d) ++ e) ++ f) ++ g
    ≡ (name ++ 61 ∷ value) ++ (a ++ (b ++ (c ++ (d ++ (e ++ (f ++ (g ++ [])))))))
regrouped name value a b c d e f g = simp (append_assoc, append-nil)

-- a printed cookie is its pair and these attributes
pub text_is_joined : (cookie : Raw) → cookie_text cookie ≡ pair_text cookie ++ joined (printed cookie)
unfolding cookie_text
text_is_joined cookie =
    regrouped cookie.name cookie.value
    (flag (codes "; HttpOnly") (unwrap_or cookie.http_only false))
    (optional (codes "; SameSite=") (option_map site_text cookie.same_site))
    (flag (codes "; Secure") (unwrap_or cookie.secure (is_for_all_sites cookie.same_site)))
    (optional (codes "; Path=") cookie.path)
    (optional (codes "; Domain=") cookie.domain)
    (optional (codes "; Max-Age=") (option_map age_text cookie.max_age))
    (optional (codes "; Expires=") (option_and_then expires_text cookie.expires))
    ∙ rw (
      flag_text (codes "HttpOnly"),
      value_text (codes "SameSite"),
      flag_text (codes "Secure"),
      value_text (codes "Path"),
      value_text (codes "Domain"),
      value_text (codes "Max-Age"),
      value_text (codes "Expires"),
    )

-- a name that is parsed as it is printed
pub record IsLabel (name : List ℕ) : Type 0 where
  pub trimmed : trim (32 ∷ name) ≡ name
  pub has_no_equals : list_any is_equals name ≡ false
  pub has_no_semicolon : list_any is_semicolon name ≡ false

-- HttpOnly is such a name
pub label-http_only : IsLabel (codes "HttpOnly")
unfolding trim_start trim_end chars encode
label-http_only = record { trimmed = refl; has_no_equals = refl; has_no_semicolon = refl }

-- SameSite is such a name
pub label-same_site : IsLabel (codes "SameSite")
unfolding trim_start trim_end chars encode
label-same_site = record { trimmed = refl; has_no_equals = refl; has_no_semicolon = refl }

-- Secure is such a name
pub label-secure : IsLabel (codes "Secure")
unfolding trim_start trim_end chars encode
label-secure = record { trimmed = refl; has_no_equals = refl; has_no_semicolon = refl }

-- Path is such a name
pub label-path : IsLabel (codes "Path")
unfolding trim_start trim_end chars encode
label-path = record { trimmed = refl; has_no_equals = refl; has_no_semicolon = refl }

-- Domain is such a name
pub label-domain : IsLabel (codes "Domain")
unfolding trim_start trim_end chars encode
label-domain = record { trimmed = refl; has_no_equals = refl; has_no_semicolon = refl }

-- Max-Age is such a name
pub label-max_age : IsLabel (codes "Max-Age")
unfolding trim_start trim_end chars encode
label-max_age = record { trimmed = refl; has_no_equals = refl; has_no_semicolon = refl }

-- Expires is such a name
pub label-expires : IsLabel (codes "Expires")
unfolding trim_start trim_end chars encode
label-expires = record { trimmed = refl; has_no_equals = refl; has_no_semicolon = refl }

-- a printed flag has its name
pub flag_is_piece : (name : List ℕ) → IsLabel name → IsPiece name (32 ∷ name)
flag_is_piece name label = record {
  named = ap trim (before_none is_equals (32 ∷ name) label.has_no_equals) ∙ label.trimmed;
  has_no_semicolon = label.has_no_semicolon;
}

-- a printed attribute with a value has its name
pub value_is_piece : (name value : List ℕ) → IsLabel name → IsPlainText value → IsPiece name (32 ∷ (name ++ 61 ∷ value))
value_is_piece name value label plain = record {
  named = ap trim (before_at is_equals (32 ∷ name) 61 value label.has_no_equals refl) ∙ label.trimmed;
  has_no_semicolon = rw (list_any-append is_semicolon name (61 ∷ value), label.has_no_semicolon) plain.has_no_semicolon;
}

-- and its value
pub value_of_piece : (name value : List ℕ) → IsLabel name → IsPlainText value → value_of (32 ∷ (name ++ 61 ∷ value)) ≡ value
value_of_piece name value label plain =
    ap trim (after_at is_equals (32 ∷ name) 61 value label.has_no_equals refl) ∙ plain.trimmed

-- a flag is printed well
pub flag_is_well_printed : (name : List ℕ) (is_set : Bool) → IsLabel name → IsWellPrinted (flag_attribute name is_set)
flag_is_well_printed name true label = flag_is_piece name label
flag_is_well_printed name false label = tt

-- so is an attribute with a plain value
pub value_is_well_printed : (name : List ℕ) (value : Option (List ℕ)) → IsLabel name → IfSome value IsPlainText
    → IsWellPrinted (value_attribute name value)
value_is_well_printed name None label plain = tt
value_is_well_printed name (Some v) label plain = value_is_piece name v label plain
