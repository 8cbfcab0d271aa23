-- A JSON value is read exactly if it has the shape, apart from the validity of its expiry.
use Rattle.std.proofs.Common.{◌≡◌, ℕ, List, Bool, true, false, Option, Some, None, Ok, Err, option_map, if◌then◌else◌, bytes_eq, codes, refl, sym, ap, subst, ◌∙◌}
use Rattle.std.specs.Option.{ok_or, option_or}
use Rattle.std.proofs.lemmas.Option.{option_and_then_some, same_Some}
use Rattle.std.proofs.lemmas.Slice.Eq.{bytes_eq-Decides}
use Rattle.serde_json.specs.Data.{Data, null, boolean, number, string, array, object, Items, no_items, item, Members, no_members, member}
use Rattle.serde_json.specs.Find.{get, as_bool, as_str, as_array}
use Rattle.serde_json.specs.Written.{has_float}
use Rattle.cookie_words.specs.Moments.{Moment}
use Rattle.cookie_forms.specs.Saved.{Domain, host_only, suffix, not_present, empty, Parts}
use Rattle.cookie_forms.specs.Shape.{HasShape}
use Rattle.cookie_forms.specs.FromJson.{only_text, pair_in, path_in, domain_named, domain_tagged, domain_in, expiry_named, expiry_tagged, expiry_in, parts_in, with_parsed_expiry, then_read, saved_at}
use Rattle.cookie_forms.specs.ToJson.{tagged_tree, path_tree, domain_tree, expiry_tree}
use Rattle.cookie_forms.specs.declared.error.SavedError.{SavedError}
use Rattle.cookie_forms.specs.declared.error.SavedError.TheVariants as ErrorCase
use Rattle.cookie_forms.proofs.TreesBack.{domain_back, expires_back, path_back}

-- ---- the JSON values that a part is read from

text_of : (d : Data) (text : List ℕ) → as_str d ≡ Some text → d ≡ string text
text_of null text e = cc
text_of (boolean b) text e = cc
text_of (number n) text e = cc
text_of (string s) text e = ap string (same_Some s text e)
text_of (array ds) text e = cc
text_of (object ms) text e = cc

flag_of : (d : Data) (flag : Bool) → as_bool d ≡ Some flag → d ≡ boolean flag
flag_of null flag e = cc
flag_of (boolean b) flag e = ap boolean (same_Some b flag e)
flag_of (number n) flag e = cc
flag_of (string s) flag e = cc
flag_of (array ds) flag e = cc
flag_of (object ms) flag e = cc

pub items_in : (d : Data) (ds : Items) → as_array d ≡ Some ds → d ≡ array ds
items_in null ds e = cc
items_in (boolean b) ds e = cc
items_in (number n) ds e = cc
items_in (string s) ds e = cc
items_in (array es) ds e = ap array (same_Some es ds e)
items_in (object ms) ds e = cc

pair_of : (ds : Items) (p : Data × Data) → pair_in ds ≡ Some p → ds ≡ item p.0 (item p.1 no_items)
pair_of no_items p e = cc
pair_of (item a no_items) p e = cc
pair_of (item a (item b no_items)) p e = ap (λ q. item q.0 (item q.1 no_items)) (same_Some (a, b) p e)
pair_of (item a (item b (item c ds))) p e = cc

path_of : (d : Data) (p : List ℕ × Bool) → path_in d ≡ Some p → d ≡ path_tree p.0 p.1
unfolding path_in
path_of d p e =
    option_and_then_some _ (as_array d) p e (λ ds array_is e1.
    option_and_then_some _ (pair_in ds) p e1 (λ pair pair_is e2.
    option_and_then_some _ (as_str pair.0) p e2 (λ path path_is e3.
    option_and_then_some _ (as_bool pair.1) p e3 (λ flag flag_is e4.
    let both : (path, flag) ≡ p = same_Some (path, flag) p e4 in
    items_in d ds array_is
    ∙ ap array (pair_of ds pair pair_is)
    ∙ ap (λ a. array (item a (item pair.1 no_items))) (text_of pair.0 path path_is)
    ∙ ap (λ b. array (item (string path) (item b no_items))) (flag_of pair.1 flag flag_is)
    ∙ ap (λ q. path_tree q.0 q.1) both))))

tag_of : (tag : List ℕ) (d : Data) (t : List ℕ × List ℕ) → option_map (λ text. (tag, text)) (as_str d) ≡ Some t
    → object (member tag d no_members) ≡ tagged_tree t.0 t.1
tag_of tag null t e = cc
tag_of tag (boolean b) t e = cc
tag_of tag (number n) t e = cc
tag_of tag (string s) t e = ap (λ q. tagged_tree q.0 q.1) (same_Some (tag, s) t e)
tag_of tag (array ds) t e = cc
tag_of tag (object ms) t e = cc

tagged_of : (ms : Members) (t : List ℕ × List ℕ) → only_text ms ≡ Some t → object ms ≡ tagged_tree t.0 t.1
tagged_of no_members t e = cc
tagged_of (member tag d no_members) t e = tag_of tag d t e
tagged_of (member tag d (member k c ms)) t e = cc

-- one of two names, each of one domain
by_name : (first second : Bool) (d : Data) (a b domain : Domain) → (first ≡ true → d ≡ domain_tree a) → (second ≡ true → d ≡ domain_tree b)
    → (if first then Some a else (if second then Some b else None)) ≡ Some domain → d ≡ domain_tree domain
by_name true second d a b domain is_a is_b e = is_a refl ∙ ap domain_tree (same_Some a domain e)
by_name false true d a b domain is_a is_b e = is_b refl ∙ ap domain_tree (same_Some b domain e)
by_name false false d a b domain is_a is_b e = cc

pub or_none : {A : Type 0} (o : Option A) → option_or o None ≡ o
or_none None = refl
or_none (Some a) = refl

pub domain_of : (d : Data) (domain : Domain) → domain_in d ≡ Some domain → d ≡ domain_tree domain
unfolding domain_in
domain_of null domain e = cc
domain_of (boolean b) domain e = cc
domain_of (number n) domain e = cc
domain_of (string s) domain e =
    by_name (bytes_eq s (codes "NotPresent")) (bytes_eq s (codes "Empty")) (string s) not_present empty domain
    (λ h. ap string ((bytes_eq-Decides s (codes "NotPresent")).0 h)) (λ h. ap string ((bytes_eq-Decides s (codes "Empty")).0 h))
    (sym (or_none (domain_named s)) ∙ e)
domain_of (array ds) domain e = cc
domain_of (object ms) domain e =
    option_and_then_some domain_tagged (only_text ms) domain e (λ t here named.
    tagged_of ms t here
    ∙ by_name (bytes_eq t.0 (codes "HostOnly")) (bytes_eq t.0 (codes "Suffix")) (tagged_tree t.0 t.1) (host_only t.1) (suffix t.1) domain
    (λ h. ap (λ tag. tagged_tree tag t.1) ((bytes_eq-Decides t.0 (codes "HostOnly")).0 h))
    (λ h. ap (λ tag. tagged_tree tag t.1) ((bytes_eq-Decides t.0 (codes "Suffix")).0 h)) named)

by_end : (this : Bool) (d : Data) (a expires : Option (List ℕ)) → (this ≡ true → d ≡ expiry_tree a)
    → (if this then Some a else None) ≡ Some expires → d ≡ expiry_tree expires
by_end true d a expires is_a e = is_a refl ∙ ap expiry_tree (same_Some a expires e)
by_end false d a expires is_a e = cc

pub expires_of : (d : Data) (expires : Option (List ℕ)) → expiry_in d ≡ Some expires → d ≡ expiry_tree expires
unfolding expiry_in
expires_of null expires e = cc
expires_of (boolean b) expires e = cc
expires_of (number n) expires e = cc
expires_of (string s) expires e =
    by_end (bytes_eq s (codes "SessionEnd")) (string s) None expires (λ h. ap string ((bytes_eq-Decides s (codes "SessionEnd")).0 h))
    (sym (or_none (expiry_named s)) ∙ e)
expires_of (array ds) expires e = cc
expires_of (object ms) expires e =
    option_and_then_some expiry_tagged (only_text ms) expires e (λ t here named.
    tagged_of ms t here
    ∙ by_end (bytes_eq t.0 (codes "AtUtc")) (tagged_tree t.0 t.1) (Some t.1) expires
    (λ h. ap (λ tag. tagged_tree tag t.1) ((bytes_eq-Decides t.0 (codes "AtUtc")).0 h)) named)

-- ---- a cookie

pub parts_read : (d : Data) (p : Parts (List ℕ)) → HasShape d p → parts_in d ≡ Some p
unfolding parts_in
parts_read d p (raw, path, domain, expires, plain) =
    rw (raw, path, domain, expires, path_back p.path p.from_attr, domain_back p.domain, expires_back p.expires) refl

pub parts_shaped : (d : Data) (p : Parts (List ℕ)) → has_float d ≡ false → parts_in d ≡ Some p → HasShape d p
unfolding parts_in
parts_shaped d p plain e =
    option_and_then_some _ (get (codes "raw_cookie") d) p e (λ raw raw_is e1.
    option_and_then_some _ (as_str raw) p e1 (λ raw_cookie text_is e2.
    option_and_then_some _ (get (codes "path") d) p e2 (λ pair pair_is e3.
    option_and_then_some _ (path_in pair) p e3 (λ path path_is e4.
    option_and_then_some _ (get (codes "domain") d) p e4 (λ kind kind_is e5.
    option_and_then_some _ (domain_in kind) p e5 (λ domain domain_is e6.
    option_and_then_some _ (get (codes "expires") d) p e6 (λ end end_is e7.
    option_and_then_some _ (expiry_in end) p e7 (λ expires ends_is e8.
    subst (λ q. HasShape d q) (same_Some _ p e8) (
      raw_is ∙ ap Some (text_of raw raw_cookie text_is),
      pair_is ∙ ap Some (path_of pair path path_is),
      kind_is ∙ ap Some (domain_of kind domain domain_is),
      end_is ∙ ap Some (expires_of end expires ends_is),
      plain,
    )))))))))

-- ---- what is read, and what is an error

ok_or_ok : {B : Type 0} (r : Option B) (e : SavedError) (b : B) → ok_or r e ≡ Ok b → r ≡ Some b
ok_or_ok None e b h = cc
ok_or_ok (Some c) e b h = cc

-- what was read has the shape and no float
pub read_of : {A B : Type 0} (has : Bool) (read : A → Option B) (o : Option A) (b : B)
    → (if has then Err ErrorCase.Shape else then_read read o) ≡ Ok b → (a : A) × (has ≡ false) × (o ≡ Some a) × (read a ≡ Some b)
read_of true read o b e = cc
read_of false read None b e = cc
read_of false read (Some a) b e = (a, refl, refl, ok_or_ok (read a) ErrorCase.Moment b e)

-- if nothing has the shape, or there is a float, the error is `Shape`
pub rejected_by : {A B : Type 0} (has : Bool) (read : A → Option B) (o : Option A) → ((a : A) → has ≡ false → ¬ (o ≡ Some a))
    → (if has then Err ErrorCase.Shape else then_read read o) ≡ Err ErrorCase.Shape
rejected_by true read o none = refl
rejected_by false read None none = refl
rejected_by false read (Some a) none = absurd (none a refl refl)

pub shape_read : (d : Data) (p : Parts (List ℕ)) → HasShape d p → saved_at d ≡ ok_or (with_parsed_expiry p) ErrorCase.Moment
shape_read d p h = rw (h.4, parts_read d p h) refl

pub read_shaped : (d : Data) (q : Parts Moment) → saved_at d ≡ Ok q → (p : Parts (List ℕ)) × HasShape d p × (with_parsed_expiry p ≡ Some q)
read_shaped d q e =
    let r = read_of (has_float d) with_parsed_expiry (parts_in d) q e in
    (r.0, parts_shaped d r.0 r.1 r.2, r.3)

pub shapeless_rejected : (d : Data) → ((p : Parts (List ℕ)) → ¬ HasShape d p) → saved_at d ≡ Err ErrorCase.Shape
shapeless_rejected d none = rejected_by (has_float d) with_parsed_expiry (parts_in d) (λ p plain e. none p (parts_shaped d p plain e))
