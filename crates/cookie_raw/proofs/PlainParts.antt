-- The properties of a plain cookie and its parts.
use Rattle.std.proofs.Common.{◌≡◌, ℕ, Bool, true, false, not, ◌||◌, ◌==◌, List, [], ◌∷◌, length, codes, bytes_eq, nat_eq, eqb, cond, Option, Some, None, IfSome, IsTrue, refl, subst}
use Rattle.std.specs.List.{list_any, starts_with}
use Rattle.std.specs.Option.{unwrap_or}
use Rattle.std.specs.Str.{trim}
use Rattle.std.proofs.lemmas.Bool.{and_parts, not-true, eqb-true, true≢false}
use Rattle.std.proofs.lemmas.Slice.Eq.{bytes_eq-Decides}
use Rattle.cookie_words.specs.Strings.{without_dot}
use Rattle.cookie_raw.specs.CookieText.{is_for_all_sites}
use Rattle.cookie_raw.specs.PlainCookie.{if_present, is_plain_text, is_plain_name, is_plain_domain, is_plain_age, is_plain_expires, is_plain}
use Rattle.cookie_raw.specs.Raw.{Raw}
use Rattle.cookie_raw.specs.SetCookie.{is_equals, is_semicolon}

-- a string without `;` that trimming does not change
pub record IsPlainText (text : List ℕ) : Type 0 where
  pub has_no_semicolon : list_any is_semicolon text ≡ false
  pub trimmed : trim text ≡ text

-- `is_plain_text` implies it
pub plain_text : (text : List ℕ) → is_plain_text text ≡ true → IsPlainText text
unfolding is_plain_text
plain_text text h =
    let parts = and_parts (not (list_any is_semicolon text)) (bytes_eq (trim text) text) h in
    record {
      has_no_semicolon = not-true (list_any is_semicolon text) parts.0;
      trimmed = (bytes_eq-Decides (trim text) text).0 parts.1;
    }

-- a plain string that is not empty and has no `=`
pub record IsPlainName (name : List ℕ) : Type 0 where
  pub is_there : (length name == 0) ≡ false
  pub has_no_equals : list_any is_equals name ≡ false
  pub text : IsPlainText name

-- `is_plain_name` implies it
plain_name : (name : List ℕ) → is_plain_name name ≡ true → IsPlainName name
unfolding is_plain_name
plain_name name h =
    let parts = and_parts _ (is_plain_text name) h in
    let tests = and_parts (not (length name == 0)) (not (list_any is_equals name)) parts.0 in
    record {
      is_there = not-true (length name == 0) tests.0;
      has_no_equals = not-true (list_any is_equals name) tests.1;
      text = plain_text name parts.1;
    }

-- a plain string that is not empty and has no leading dot
pub record IsPlainDomain (domain : List ℕ) : Type 0 where
  pub is_there : (length domain == 0) ≡ false
  pub without_dot : without_dot domain ≡ domain
  pub text : IsPlainText domain

-- a first byte other than a dot is kept
first_stays : (b : ℕ) (bs : List ℕ) (is_dot : Bool) → eqb b 46 ≡ is_dot → starts_with nat_eq (b ∷ bs) (codes ".") ≡ false
    → cond is_dot bs (b ∷ bs) ≡ b ∷ bs
first_stays b bs true e h =
    absurd (true≢false (subst (λ x. starts_with nat_eq (x ∷ bs) (codes ".") ≡ false) (eqb-true b 46 e) h))
first_stays b bs false e h = refl

-- a string without a leading dot is unchanged
no_dot_lost : (domain : List ℕ) → starts_with nat_eq domain (codes ".") ≡ false → without_dot domain ≡ domain
no_dot_lost [] h = refl
no_dot_lost (b ∷ bs) h = first_stays b bs (eqb b 46) refl h

-- `is_plain_domain` implies it
plain_domain : (domain : List ℕ) → is_plain_domain domain ≡ true → IsPlainDomain domain
unfolding is_plain_domain
plain_domain domain h =
    let parts = and_parts _ (is_plain_text domain) h in
    let tests = and_parts (not (length domain == 0)) (not (starts_with nat_eq domain (codes "."))) parts.0 in
    record {
      is_there = not-true (length domain == 0) tests.0;
      without_dot = no_dot_lost domain (not-true (starts_with nat_eq domain (codes ".")) tests.1);
      text = plain_text domain parts.1;
    }

-- a test of an optional part implies its property
where_there : {T : Type 0} (test : T → Bool) (P : T → Type 0) (part : Option T) → ((x : T) → test x ≡ true → P x)
    → if_present test part ≡ true → IfSome part P
where_there test P None says h = tt
where_there test P (Some x) says h = says x h

-- the properties of a plain cookie
pub record IsPlain (cookie : Raw) : Type 0 where
  pub name : IsPlainName cookie.name
  pub value : IsPlainText cookie.value
  pub domain : IfSome cookie.domain IsPlainDomain
  pub path : IfSome cookie.path IsPlainText
  pub secure : unwrap_or cookie.secure true ≡ true
  pub http_only : unwrap_or cookie.http_only true ≡ true
  pub same_site : (not (is_for_all_sites cookie.same_site) || unwrap_or cookie.secure false) ≡ true
  pub max_age : IfSome cookie.max_age (λ age. is_plain_age age ≡ true)
  pub expires : IfSome cookie.expires (λ expires_value. is_plain_expires expires_value ≡ true)

-- `is_plain` implies them
pub plain_cookie : (cookie : Raw) → IsTrue (is_plain cookie) → IsPlain cookie
unfolding is_plain
plain_cookie cookie h =
    let to_expires = and_parts _ (if_present is_plain_expires cookie.expires) h in
    let to_max_age = and_parts _ (if_present is_plain_age cookie.max_age) to_expires.0 in
    let to_same_site = and_parts _ (not (is_for_all_sites cookie.same_site) || unwrap_or cookie.secure false) to_max_age.0 in
    let to_http_only = and_parts _ (unwrap_or cookie.http_only true) to_same_site.0 in
    let to_secure = and_parts _ (unwrap_or cookie.secure true) to_http_only.0 in
    let to_path = and_parts _ (if_present is_plain_text cookie.path) to_secure.0 in
    let to_domain = and_parts _ (if_present is_plain_domain cookie.domain) to_path.0 in
    let to_value = and_parts (is_plain_name cookie.name) (is_plain_text cookie.value) to_domain.0 in
    record {
      name = plain_name cookie.name to_value.0;
      value = plain_text cookie.value to_value.1;
      domain = where_there is_plain_domain IsPlainDomain cookie.domain plain_domain to_domain.1;
      path = where_there is_plain_text IsPlainText cookie.path plain_text to_path.1;
      secure = to_secure.1;
      http_only = to_http_only.1;
      same_site = to_same_site.1;
      max_age = where_there is_plain_age _ cookie.max_age (λ age passes. passes) to_max_age.1;
      expires = where_there is_plain_expires _ cookie.expires (λ expires_value passes. passes) to_expires.1;
    }
