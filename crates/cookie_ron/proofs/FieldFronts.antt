-- The fields of a cookie and their values.
use Rattle.std.proofs.Common.{◌≡◌, ℕ, List, Bool, true, false, Option, Some, None, option_map, codes, refl, ap, subst}
use Rattle.std.proofs.lemmas.Option.{option_and_then_some, same_Some}
use Rattle.cookie_forms.specs.Saved.{Domain, host_only, suffix, not_present, empty, Parts}
use Rattle.cookie_ron.specs.Grammar.{◌▸◌, Token, Text, Flag, Argument, PathPair, DomainForm, ExpiryForm, Field, Cookie}
use Rattle.cookie_ron.specs.RonInput.{token_at, either, close_at, text_at, flag_at, argument_at, path_at, domain_at, expiry_text_at, name_at, field_at, first_fields_at, last_fields_at, cookie_at}
use Rattle.cookie_ron.proofs.Fronts.{Front, Takes, Misses, joined, front_of, chain, last, here, here_alone, there, missed, grouped, spread, takes_of}
use Rattle.cookie_ron.proofs.SignFronts.{sign_front, sign_takes, sign_misses, close_front, close_takes, is_solid}
use Rattle.cookie_ron.proofs.CharFronts.{map_some}
use Rattle.cookie_ron.proofs.TextFronts.{text_front, text_takes}

-- `either` read after the token, or in place of it
pub either_cases : {A P : Type 0} (o : Option (List ℕ)) (h : List ℕ → Option A) (other : Option A) (r : A) → either o h other ≡ Some r
    → ((t : List ℕ) → o ≡ Some t → h t ≡ Some r → P) → (other ≡ Some r → P) → P
either_cases None h other r e behind in_place = in_place e
either_cases (Some t) h other r e behind in_place = behind t refl e

at_rest : {A : Type 0} {s t : List ℕ} (P : A → List ℕ → Type 0) (a b : A) (r : List ℕ) → ◌≡◌ {A = A × List ℕ} (a, t) (b, r) → Front (P a) s t → Front (P b) s r
at_rest {A} {s} P a b r e f = subst (λ (p : A × List ℕ). Front (P p.0) s p.1) e f

mapped : {A B : Type 0} {P : List ℕ → Type 0} {f : List ℕ → Option A} {k : List ℕ → A} (g : A → B)
    → Takes P f k → Takes P (λ s. option_map g (f s)) (λ r. g (k r))
mapped g a = record { at = λ front rest p. ap (option_map g) (a.at front rest p) }

-- ---- values

pub flag_front : {s rest : List ℕ} (flag : Bool) → flag_at s ≡ Some (flag, rest) → Front (Flag flag) s rest
unfolding flag_at
flag_front {s} {rest} flag e =
    either_cases (token_at (codes "true") s) _ _ (flag, rest) e
    (λ t is e1. at_rest Flag true flag rest (same_Some (true, t) (flag, rest) e1) (sign_front (codes "true") is))
    (λ e1.
    let h = map_some (λ t. (false, t)) (token_at (codes "false") s) (flag, rest) e1 in
    at_rest Flag false flag rest h.2 (sign_front (codes "false") h.1))

pub flag_takes : (flag : Bool) → Takes (Flag flag) flag_at (λ rest. (flag, rest))
unfolding flag_at
flag_takes true = here_alone (λ rest. Some (true, rest)) _ (sign_takes (codes "true") refl) (λ r. refl)
flag_takes false =
    there (λ rest. Some (true, rest)) (λ s. option_map (λ rest. (false, rest)) (token_at (codes "false") s))
    (sign_misses (codes "true") (codes "false") refl refl)
    (mapped (λ rest. (false, rest)) (sign_takes (codes "false") refl))

pub argument_front : {s text rest : List ℕ} → argument_at s ≡ Some (text, rest) → Front (Argument text) s rest
unfolding argument_at
argument_front {s} {text} {rest} e =
    option_and_then_some _ (token_at (codes "(") s) (text, rest) e (λ in_brackets open_is e1.
    option_and_then_some _ (text_at in_brackets) (text, rest) e1 (λ read text_is e2.
    option_and_then_some _ (close_at (codes ")") read.1) (text, rest) e2 (λ behind close_is e3.
    at_rest Argument read.0 text rest (same_Some (read.0, behind) (text, rest) e3)
    (joined (sign_front (codes "(") open_is) (joined (text_front text_is) (close_front (codes ")") close_is))))))

pub argument_takes : (text : List ℕ) → Takes (Argument text) argument_at (λ rest. (text, rest))
unfolding argument_at
argument_takes text = chain _ (sign_takes (codes "(") refl) (chain _ (text_takes text) (last _ (close_takes (codes ")") refl refl) (λ r. refl)))

abbrev PathOf : List ℕ × Bool → List ℕ → Type 0
PathOf p = PathPair p.0 p.1

pub path_front : {s rest : List ℕ} {path : List ℕ × Bool} → path_at s ≡ Some (path, rest) → Front (PathPair path.0 path.1) s rest
unfolding path_at
path_front {s} {rest} {path} e =
    option_and_then_some _ (token_at (codes "(") s) (path, rest) e (λ in_brackets open_is e1.
    option_and_then_some _ (text_at in_brackets) (path, rest) e1 (λ text text_is e2.
    option_and_then_some _ (token_at (codes ",") text.1) (path, rest) e2 (λ second comma_is e3.
    option_and_then_some _ (flag_at second) (path, rest) e3 (λ flag flag_is e4.
    option_and_then_some _ (close_at (codes ")") flag.1) (path, rest) e4 (λ behind close_is e5.
    at_rest PathOf (text.0, flag.0) path rest (same_Some ((text.0, flag.0), behind) (path, rest) e5)
    (joined (sign_front (codes "(") open_is)
    (joined (text_front text_is)
    (joined (sign_front (codes ",") comma_is)
    (joined (flag_front flag.0 flag_is) (close_front (codes ")") close_is))))))))))

pub path_takes : (path : List ℕ) (from_attr : Bool) → Takes (PathPair path from_attr) path_at (λ rest. ((path, from_attr), rest))
unfolding path_at
path_takes path from_attr =
    chain _ (sign_takes (codes "(") refl)
    (chain _ (text_takes path)
    (chain _ (sign_takes (codes ",") refl)
    (chain _ (flag_takes from_attr) (last _ (close_takes (codes ")") refl refl) (λ r. refl)))))

-- a kind with a string
tagged_front : {s t rest : List ℕ} {A : Type 0} (P : A → List ℕ → Type 0) (token : List ℕ) (make : List ℕ → A) (a : A)
    → ((text x : List ℕ) → (Token token ▸ Argument text) x → P (make text) x)
    → token_at token s ≡ Some t → option_map {U = A × List ℕ} (λ text. (make text.0, text.1)) (argument_at t) ≡ Some (a, rest) → Front (P a) s rest
tagged_front {s} {t} {rest} P token make a is_of sign_is e =
    let h = map_some (λ text. (make text.0, text.1)) (argument_at t) (a, rest) e in
    at_rest P (make h.0.0) a rest h.2 (front_of (is_of h.0.0) (joined (sign_front token sign_is) (argument_front h.1)))

pub domain_front : {s rest : List ℕ} (domain : Domain) → domain_at s ≡ Some (domain, rest) → Front (DomainForm domain) s rest
unfolding domain_at
domain_front {s} {rest} domain e =
    either_cases (token_at (codes "HostOnly") s) _ _ (domain, rest) e
    (λ t is e1. tagged_front DomainForm (codes "HostOnly") host_only domain (λ text x h. h) is e1) (λ e1.
    either_cases (token_at (codes "Suffix") s) _ _ (domain, rest) e1
    (λ t is e2. tagged_front DomainForm (codes "Suffix") suffix domain (λ text x h. h) is e2) (λ e2.
    either_cases (token_at (codes "NotPresent") s) _ _ (domain, rest) e2
    (λ t is e3. at_rest DomainForm not_present domain rest (same_Some (not_present, t) (domain, rest) e3) (sign_front (codes "NotPresent") is))
    (λ e3.
    let h = map_some (λ t. (empty, t)) (token_at (codes "Empty") s) (domain, rest) e3 in
    at_rest DomainForm empty domain rest h.2 (sign_front (codes "Empty") h.1))))

pub domain_takes : (domain : Domain) → Takes (DomainForm domain) domain_at (λ rest. (domain, rest))
unfolding domain_at
domain_takes (host_only text) =
    here _ _ (sign_takes (codes "HostOnly") refl) (mapped (λ t. (host_only t.0, t.1)) (argument_takes text))
domain_takes (suffix text) =
    there _ _ (missed (sign_misses (codes "HostOnly") (codes "Suffix") refl refl))
    (here _ _ (sign_takes (codes "Suffix") refl) (mapped (λ t. (suffix t.0, t.1)) (argument_takes text)))
domain_takes not_present =
    there _ _ (sign_misses (codes "HostOnly") (codes "NotPresent") refl refl)
    (there _ _ (sign_misses (codes "Suffix") (codes "NotPresent") refl refl)
    (here_alone _ _ (sign_takes (codes "NotPresent") refl) (λ r. refl)))
domain_takes empty =
    there _ _ (sign_misses (codes "HostOnly") (codes "Empty") refl refl)
    (there _ _ (sign_misses (codes "Suffix") (codes "Empty") refl refl)
    (there _ _ (sign_misses (codes "NotPresent") (codes "Empty") refl refl)
    (mapped (λ rest. (empty, rest)) (sign_takes (codes "Empty") refl))))

pub end_front : {s rest : List ℕ} (end : Option (List ℕ)) → expiry_text_at s ≡ Some (end, rest) → Front (ExpiryForm end) s rest
unfolding expiry_text_at
end_front {s} {rest} end e =
    either_cases (token_at (codes "AtUtc") s) _ _ (end, rest) e
    (λ t is e1. tagged_front ExpiryForm (codes "AtUtc") (λ text. Some text) end (λ text x h. h) is e1)
    (λ e1.
    let h = map_some (λ t. (None, t)) (token_at (codes "SessionEnd") s) (end, rest) e1 in
    at_rest ExpiryForm None end rest h.2 (sign_front (codes "SessionEnd") h.1))

pub end_takes : (end : Option (List ℕ)) → Takes (ExpiryForm end) expiry_text_at (λ rest. (end, rest))
unfolding expiry_text_at
end_takes (Some text) = here _ _ (sign_takes (codes "AtUtc") refl) (mapped (λ t. (Some t.0, t.1)) (argument_takes text))
end_takes None =
    there _ _ (sign_misses (codes "AtUtc") (codes "SessionEnd") refl refl)
    (mapped (λ rest. (None, rest)) (sign_takes (codes "SessionEnd") refl))

-- ---- fields

field_front : {A : Type 0} {s : List ℕ} (V : A → List ℕ → Type 0) (name : List ℕ) (value : List ℕ → Option (A × List ℕ)) (r : A × List ℕ)
    → ((t : List ℕ) → value t ≡ Some r → Front (V r.0) t r.1) → field_at name value s ≡ Some r → Front (Field name (V r.0)) s r.1
unfolding name_at
field_front {s = s} V name value r read e =
    option_and_then_some value (name_at name s) r e (λ t named e1.
    option_and_then_some _ (token_at name s) t named (λ colon name_is e2.
    joined (sign_front name name_is) (joined (sign_front (codes ":") e2) (read t e1))))

name_takes : (name : List ℕ) → is_solid name ≡ true → Takes (Token name ▸ Token (codes ":")) (λ s. name_at name s) (λ rest. rest)
unfolding name_at
name_takes name solid = chain _ (sign_takes name solid) (sign_takes (codes ":") refl)

field_takes : {A : Type 0} {V : List ℕ → Type 0} {m : List ℕ → A} (name : List ℕ) (value : List ℕ → Option A) → is_solid name ≡ true
    → Takes V value m → Takes (Field name V) (λ s. field_at name value s) m
field_takes name value solid takes = takes_of grouped (chain value (name_takes name solid) takes)

-- ---- a cookie

abbrev FirstFields : List ℕ × (List ℕ × Bool) → List ℕ → Type 0
FirstFields p = Field (codes "raw_cookie") (Text p.0) ▸ Token (codes ",") ▸ Field (codes "path") (PathPair p.1.0 p.1.1)

abbrev LastFields : Domain × Option (List ℕ) → List ℕ → Type 0
LastFields p = Field (codes "domain") (DomainForm p.0) ▸ Token (codes ",") ▸ Field (codes "expires") (ExpiryForm p.1)

first_front : {s rest : List ℕ} {p : List ℕ × (List ℕ × Bool)} → first_fields_at s ≡ Some (p, rest) → Front (FirstFields p) s rest
unfolding first_fields_at
first_front {s} {rest} {p} e =
    option_and_then_some _ (field_at (codes "raw_cookie") text_at s) (p, rest) e (λ raw raw_is e1.
    option_and_then_some _ (token_at (codes ",") raw.1) (p, rest) e1 (λ second comma_is e2.
    option_and_then_some _ (field_at (codes "path") path_at second) (p, rest) e2 (λ path path_is e3.
    at_rest FirstFields (raw.0, path.0) p rest (same_Some ((raw.0, path.0), path.1) (p, rest) e3)
    (joined (field_front Text (codes "raw_cookie") text_at raw (λ t h. text_front h) raw_is)
    (joined (sign_front (codes ",") comma_is)
    (field_front PathOf (codes "path") path_at path (λ t h. path_front h) path_is))))))

first_takes : (p : List ℕ × (List ℕ × Bool)) → Takes (FirstFields p) first_fields_at (λ rest. (p, rest))
unfolding first_fields_at
first_takes p =
    chain _ (field_takes (codes "raw_cookie") text_at refl (text_takes p.0))
    (chain _ (sign_takes (codes ",") refl)
    (last _ (field_takes (codes "path") path_at refl (path_takes p.1.0 p.1.1)) (λ r. refl)))

last_front : {s rest : List ℕ} {p : Domain × Option (List ℕ)} → last_fields_at s ≡ Some (p, rest) → Front (LastFields p) s rest
unfolding last_fields_at
last_front {s} {rest} {p} e =
    option_and_then_some _ (field_at (codes "domain") domain_at s) (p, rest) e (λ domain domain_is e1.
    option_and_then_some _ (token_at (codes ",") domain.1) (p, rest) e1 (λ second comma_is e2.
    option_and_then_some _ (field_at (codes "expires") expiry_text_at second) (p, rest) e2 (λ end end_is e3.
    at_rest LastFields (domain.0, end.0) p rest (same_Some ((domain.0, end.0), end.1) (p, rest) e3)
    (joined (field_front DomainForm (codes "domain") domain_at domain (λ t h. domain_front domain.0 h) domain_is)
    (joined (sign_front (codes ",") comma_is)
    (field_front ExpiryForm (codes "expires") expiry_text_at end (λ t h. end_front end.0 h) end_is))))))

last_takes : (p : Domain × Option (List ℕ)) → Takes (LastFields p) last_fields_at (λ rest. (p, rest))
unfolding last_fields_at
last_takes p =
    chain _ (field_takes (codes "domain") domain_at refl (domain_takes p.0))
    (chain _ (sign_takes (codes ",") refl)
    (last _ (field_takes (codes "expires") expiry_text_at refl (end_takes p.1)) (λ r. refl)))

-- a sequence of four rules, grouped
in_groups : {P Q R S : List ℕ → Type 0} (s : List ℕ) → (P ▸ Q ▸ R ▸ S) s → ((P ▸ Q ▸ R) ▸ S) s
in_groups s (x, y, e, p, more) = grouped s (x, y, e, p, grouped y more)

in_a_row : {P Q R S : List ℕ → Type 0} (s : List ℕ) → ((P ▸ Q ▸ R) ▸ S) s → (P ▸ Q ▸ R ▸ S) s
in_a_row s h = let (x, y, e, p, more) = spread s h in (x, y, e, p, spread y more)

pub cookie_front : {s rest : List ℕ} {p : Parts (List ℕ)} → cookie_at s ≡ Some (p, rest) → Front (Cookie p) s rest
unfolding cookie_at
cookie_front {s} {rest} {p} e =
    option_and_then_some _ (token_at (codes "(") s) (p, rest) e (λ fields open_is e1.
    option_and_then_some _ (first_fields_at fields) (p, rest) e1 (λ first first_is e2.
    option_and_then_some _ (token_at (codes ",") first.1) (p, rest) e2 (λ others comma_is e3.
    option_and_then_some _ (last_fields_at others) (p, rest) e3 (λ behind last_is e4.
    option_and_then_some _ (close_at (codes ")") behind.1) (p, rest) e4 (λ end close_is e5.
    let made : Parts (List ℕ) = record {
      raw_cookie = first.0.0;
      path = first.0.1.0;
      from_attr = first.0.1.1;
      domain = behind.0.0;
      expires = behind.0.1;
    } in
    at_rest Cookie made p rest (same_Some (made, end) (p, rest) e5)
    (joined (sign_front (codes "(") open_is)
    (front_of in_a_row
    (joined (first_front first_is)
    (joined (sign_front (codes ",") comma_is)
    (front_of in_a_row
    (joined (last_front last_is) (close_front (codes ")") close_is))))))))))))

pub cookie_takes : (p : Parts (List ℕ)) → Takes (Cookie p) cookie_at (λ rest. (p, rest))
unfolding cookie_at
cookie_takes p =
    chain _ (sign_takes (codes "(") refl)
    (takes_of in_groups
    (chain _ (first_takes (p.raw_cookie, (p.path, p.from_attr)))
    (chain _ (sign_takes (codes ",") refl)
    (takes_of in_groups
    (chain _ (last_takes (p.domain, p.expires)) (last _ (close_takes (codes ")") refl refl) (λ r. refl)))))))

-- no cookie begins with a closing bracket
pub cookie_misses : (p : Parts (List ℕ)) → Misses (Cookie p) (λ s. token_at (codes "]") s)
cookie_misses p = missed (sign_misses (codes "]") (codes "(") refl refl)
