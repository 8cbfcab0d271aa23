-- Values read from tokens.
use Rattle.std.proofs.Common.{◌≡◌, ◌≢◌, ◌≤◌, ◌<◌, ℕ, zero, suc, List, [], ◌∷◌, length, Bool, Option, Some, None, option_map, Bor, refl, sym, ap, ◌∙◌, subst, arith}
use Rattle.std.specs.Prelude.{IfSome}
use Rattle.json.specs.Token.{Token}
use Rattle.json.specs.Json as json
use Rattle.json.specs.Json.{items, members, value}
use Rattle.json.proofs.Grammar.{left, skip_value-shorter, value_is}
use Rattle.serde_json.specs.Data.{Data, string}
use Rattle.cookie_forms.specs.Borrowed.{borrowed_domain}
use Rattle.cookie_forms.specs.FromJson.{domain_in, domain_named, domain_tagged, expiry_in, expiry_named, expiry_tagged}
use Rattle.cookie_forms.specs.Saved.{Domain}
use Rattle.cookie_forms.specs.ToJson.{domain_tree, expiry_tree, path_tree, tagged_tree}
use Rattle.cookie_forms.specs.Tokens.{ReadsTo}
use Rattle.cookie_forms.specs.declared.value_reader.BorrowedDomain.{BorrowedDomain}
use Rattle.cookie_forms.proofs.Shapes.{domain_of, expires_of, or_none}

-- a value is at least one token
pub shorter : (depth : ℕ) (old new : List Token) (tree : Data) → ReadsTo depth old tree new → length new < length old
shorter depth old new tree e = skip_value-shorter depth old new (ap left e.1)

pub not_empty : (depth : ℕ) (old new : List Token) (tree : Data) → ReadsTo depth old tree new → old ≢ []
not_empty depth [] new tree e = absurd (omega (arith, shorter depth [] new tree e))
not_empty depth (t ∷ ts) new tree e = λ h. cc

pub text_read : (depth : ℕ) (text : List ℕ) (r : List Token) → ReadsTo depth (Token.string text ∷ r) (string text) r
text_read depth text r = (json.string text, value_is depth (Token.string text ∷ r), refl)

pub path_read : (depth : ℕ) (path : List ℕ) (flag : Bool) (r : List Token) → 1 ≤ depth
    → ReadsTo depth (Token.begin_array ∷ Token.string path ∷ Token.boolean flag ∷ Token.end_array ∷ r) (path_tree path flag) r
unfolding value items
path_read zero path flag r some = absurd (omega arith)
path_read (suc zero) path flag r some = (_, refl, refl)
path_read (suc (suc depth)) path flag r some = (_, refl, refl)

pub tagged_read : (depth : ℕ) (tag text : List ℕ) (r : List Token) → 1 ≤ depth
    → ReadsTo depth (Token.begin_object ∷ Token.key tag ∷ Token.string text ∷ Token.end_object ∷ r) (tagged_tree tag text) r
unfolding value members
tagged_read zero tag text r some = absurd (omega arith)
tagged_read (suc zero) tag text r some = (_, refl, refl)
tagged_read (suc (suc depth)) tag text r some = (_, refl, refl)

-- ---- domains

name_of_domain : (name : List ℕ) (domain : Domain) → domain_named name ≡ Some domain → string name ≡ domain_tree domain
unfolding domain_in
name_of_domain name domain e = domain_of (string name) domain (or_none (domain_named name) ∙ e)

tag_of_domain : (tag text : List ℕ) (domain : Domain) → domain_tagged (tag, text) ≡ Some domain → tagged_tree tag text ≡ domain_tree domain
unfolding domain_in
tag_of_domain tag text domain e = domain_of (tagged_tree tag text) domain e

-- these tokens are those of the domain, if there is one, and then `new`
abbrev DomainReads : List Token → Option BorrowedDomain → List Token → Type 0
DomainReads old o new = IfSome o (λ domain. (depth : ℕ) → 1 ≤ depth → ReadsTo depth old (domain_tree (borrowed_domain domain)) new)

pub named_domain_read : (o : Option BorrowedDomain) (name : List ℕ) (r : List Token) → option_map borrowed_domain o ≡ domain_named name → DomainReads (Token.string name ∷ r) o r
named_domain_read None name r e = tt
named_domain_read (Some domain) name r e =
    λ depth some. subst (λ d. ReadsTo depth (Token.string name ∷ r) d r) (name_of_domain name (borrowed_domain domain) (sym e)) (text_read depth name r)

pub tagged_domain_read : (o : Option BorrowedDomain) (tag text : List ℕ) (old new : List Token) → option_map borrowed_domain o ≡ domain_tagged (tag, text)
    → ((depth : ℕ) → 1 ≤ depth → ReadsTo depth old (tagged_tree tag text) new) → DomainReads old o new
tagged_domain_read None tag text old new e read = tt
tagged_domain_read (Some domain) tag text old new e read =
    λ depth some. subst (λ d. ReadsTo depth old d new) (tag_of_domain tag text (borrowed_domain domain) (sym e)) (read depth some)

-- ---- expiries

abbrev pub expires_view : Option (Bor (List ℕ)) → Option (List ℕ)
expires_view o = option_map (λ text. text.now) o

name_of_ends : (name : List ℕ) (expires : Option (List ℕ)) → expiry_named name ≡ Some expires → string name ≡ expiry_tree expires
unfolding expiry_in
name_of_ends name expires e = expires_of (string name) expires (or_none (expiry_named name) ∙ e)

tag_of_ends : (tag text : List ℕ) (expires : Option (List ℕ)) → expiry_tagged (tag, text) ≡ Some expires → tagged_tree tag text ≡ expiry_tree expires
unfolding expiry_in
tag_of_ends tag text expires e = expires_of (tagged_tree tag text) expires e

abbrev EndsRead : List Token → Option (Option (Bor (List ℕ))) → List Token → Type 0
EndsRead old o new = IfSome o (λ expires. (depth : ℕ) → 1 ≤ depth → ReadsTo depth old (expiry_tree (expires_view expires)) new)

pub named_ends_read : (o : Option (Option (Bor (List ℕ)))) (name : List ℕ) (r : List Token) → option_map expires_view o ≡ expiry_named name → EndsRead (Token.string name ∷ r) o r
named_ends_read None name r e = tt
named_ends_read (Some expires) name r e =
    λ depth some. subst (λ d. ReadsTo depth (Token.string name ∷ r) d r) (name_of_ends name (expires_view expires) (sym e)) (text_read depth name r)

pub tagged_ends_read : (o : Option (Option (Bor (List ℕ)))) (tag text : List ℕ) (old new : List Token) → option_map expires_view o ≡ expiry_tagged (tag, text)
    → ((depth : ℕ) → 1 ≤ depth → ReadsTo depth old (tagged_tree tag text) new) → EndsRead old o new
tagged_ends_read None tag text old new e read = tt
tagged_ends_read (Some expires) tag text old new e read =
    λ depth some. subst (λ d. ReadsTo depth old d new) (tag_of_ends tag text (expires_view expires) (sym e)) (read depth some)
