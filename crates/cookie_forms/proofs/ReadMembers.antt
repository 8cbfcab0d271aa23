-- The members of a saved cookie, read one after the other.
use Rattle.std.proofs.Common.{◌≡◌, ◌≤◌, ◌-◌, ℕ, List, ◌∷◌, length, Bool, false, ◌||◌, Option, Some, None, option_map, Ordering, Less, Equal, Greater, nat_cmp, codes, Bor, refl, ap, ◌∙◌, arith}
use Rattle.std.specs.Cmp.Lexicographic.{slice_cmp}
use Rattle.std.specs.Ordering.{match_ordering}
use Rattle.json.specs.Token.{Token}
use Rattle.json.specs.Json as json
use Rattle.json.specs.Json.{members, parse_map, read_key, value}
use Rattle.json.proofs.Grammar.{members_end, members_more, read_key-shorter, value-begin_object}
use Rattle.serde_json.specs.Data.{Data, Members, member, no_members, object, put, string}
use Rattle.serde_json.specs.Find.{get_member}
use Rattle.serde_json.specs.Read.{of_json, of_members}
use Rattle.serde_json.specs.Written.{has_float, members_have_float}
use Rattle.serde_json.proofs.Views.{get_member-put, get_member-put_other}
use Rattle.cookie_forms.specs.Borrowed.{borrowed_domain, borrowed_parts}
use Rattle.cookie_forms.specs.Shape.{HasShape}
use Rattle.cookie_forms.specs.ToJson.{domain_tree, expiry_tree, path_tree}
use Rattle.cookie_forms.specs.Tokens.{AreFound, ReadsTo}
use Rattle.cookie_forms.specs.declared.text_reader.FoundMembers.{FoundMembers}
use Rattle.cookie_forms.specs.declared.value_reader.BorrowedDomain.{BorrowedDomain}
use Rattle.cookie_forms.specs.declared.value_reader.BorrowedParts.{BorrowedParts}
use Rattle.cookie_forms.proofs.ReadTokens.{expires_view, shorter}
use Rattle.cookie_forms.proofs.TreesPlain.{domain_plain, expires_plain, first_false, second_false}

-- ---- one more member

both_plain : (a b : Bool) → a ≡ false → b ≡ false → (a || b) ≡ false
both_plain a b e f = rw (e, f) refl

plain_at : (o : Ordering) (k l : List ℕ) (d e : Data) (ms : Members) → has_float d ≡ false → members_have_float (member l e ms) ≡ false → members_have_float (put k d ms) ≡ false
    → members_have_float (match_ordering o (member k d (member l e ms)) (member l d ms) (member l e (put k d ms))) ≡ false
plain_at Less k l d e ms here old later = both_plain _ _ here old
plain_at Equal k l d e ms here old later = both_plain _ _ here (second_false (has_float e) _ old)
plain_at Greater k l d e ms here old later = both_plain _ _ (first_false (has_float e) _ old) later

plain_put : (k : List ℕ) (d : Data) (ms : Members) → has_float d ≡ false → members_have_float ms ≡ false → members_have_float (put k d ms) ≡ false
plain_put k d no_members here old = both_plain _ _ here refl
plain_put k d (member l e ms) here old =
    plain_at (slice_cmp nat_cmp k l) k l d e ms here old (plain_put k d ms here (second_false (has_float e) _ old))

-- another name keeps its value
apart : (q k : List ℕ) (d : Data) (ms : Members) (o : Option Data) → (q ≡ k → ⊥) → get_member q ms ≡ o → get_member q (put k d ms) ≡ o
apart q k d ms o other e = get_member-put_other q k d ms other ∙ e

module _ (ms : Members) (found : FoundMembers) (at : AreFound ms found) where
  pub raw_cookie_found : (k : List ℕ) (text : Bor (List ℕ)) → k ≡ codes "raw_cookie"
      → AreFound (put k (string text.now) ms) (record { raw_cookie = Some text; path = found.path; domain = found.domain; expires = found.expires })
  raw_cookie_found k text is =
      rw is (
        get_member-put (codes "raw_cookie") (string text.now) ms,
        apart (codes "path") (codes "raw_cookie") (string text.now) ms _ (λ h. cc) at.1,
        apart (codes "domain") (codes "raw_cookie") (string text.now) ms _ (λ h. cc) at.2,
        apart (codes "expires") (codes "raw_cookie") (string text.now) ms _ (λ h. cc) at.3,
        plain_put (codes "raw_cookie") (string text.now) ms refl at.4,
      )

  pub path_found : (k : List ℕ) (p : Bor (List ℕ) × Bool) → k ≡ codes "path"
      → AreFound (put k (path_tree p.0.now p.1) ms) (record { raw_cookie = found.raw_cookie; path = Some p; domain = found.domain; expires = found.expires })
  path_found k p is =
      let d = path_tree p.0.now p.1 in
      rw is (
        apart (codes "raw_cookie") (codes "path") d ms _ (λ h. cc) at.0,
        get_member-put (codes "path") d ms,
        apart (codes "domain") (codes "path") d ms _ (λ h. cc) at.2,
        apart (codes "expires") (codes "path") d ms _ (λ h. cc) at.3,
        plain_put (codes "path") d ms refl at.4,
      )

  pub domain_found : (k : List ℕ) (domain : BorrowedDomain) → k ≡ codes "domain"
      → AreFound (put k (domain_tree (borrowed_domain domain)) ms) (record { raw_cookie = found.raw_cookie; path = found.path; domain = Some domain; expires = found.expires })
  domain_found k domain is =
      let d = domain_tree (borrowed_domain domain) in
      rw is (
        apart (codes "raw_cookie") (codes "domain") d ms _ (λ h. cc) at.0,
        apart (codes "path") (codes "domain") d ms _ (λ h. cc) at.1,
        get_member-put (codes "domain") d ms,
        apart (codes "expires") (codes "domain") d ms _ (λ h. cc) at.3,
        plain_put (codes "domain") d ms (domain_plain (borrowed_domain domain)) at.4,
      )

  pub expires_found : (k : List ℕ) (expires : Option (Bor (List ℕ))) → k ≡ codes "expires"
      → AreFound (put k (expiry_tree (expires_view expires)) ms) (record { raw_cookie = found.raw_cookie; path = found.path; domain = found.domain; expires = Some expires })
  expires_found k expires is =
      let d = expiry_tree (expires_view expires) in
      rw is (
        apart (codes "raw_cookie") (codes "expires") d ms _ (λ h. cc) at.0,
        apart (codes "path") (codes "expires") d ms _ (λ h. cc) at.1,
        apart (codes "domain") (codes "expires") d ms _ (λ h. cc) at.2,
        get_member-put (codes "expires") d ms,
        plain_put (codes "expires") d ms (expires_plain (expires_view expires)) at.4,
      )

-- ---- the loop over the members

-- Of the members that are the tokens `first`, those before `now` have been found: whatever members `now` goes on with go into `found`.
abbrev pub MembersRead : ℕ → List Token → List Token → FoundMembers → Type 0
MembersRead depth first now found =
    (n : ℕ) × (ms : Members) × (length now ≤ n)
    × ((more : json.Members) (rest : List Token) → members (value depth) n now ≡ Some (more, rest)
    → (all : json.Members) × (members (value depth) (length first) first ≡ Some (all, rest)) × (of_members all no_members ≡ of_members more ms))
    × AreFound ms found

pub no_member_read : (depth : ℕ) (first : List Token) → MembersRead depth first first (record { raw_cookie = None; path = None; domain = None; expires = None })
no_member_read depth first = (length first, no_members, omega arith, λ more rest e. (more, e, refl), (refl, refl, refl, refl, refl))

-- of_members of one more
with_member : (k : List ℕ) (j : json.Json) (d : Data) (more : json.Members) (ms : Members) → of_json j ≡ Some d
    → of_members (json.member k j more) ms ≡ of_members more (put k d ms)
with_member k j d more ms e = rw e refl

pub member_is_read : (depth : ℕ) (first now s r : List Token) (k : List ℕ) (tree : Data) (old new : FoundMembers)
    → MembersRead depth first now old → read_key now ≡ Some (Some k, s) → ReadsTo depth s tree r → ((ms : Members) → AreFound ms old → AreFound (put k tree ms) new)
    → MembersRead depth first r new
member_is_read depth first now s r k tree old new so_far key here then =
    let n = so_far.0 in
    let ms = so_far.1 in
    let enough = so_far.2 in
    let less = read_key-shorter now (Some k) s key in
    let lesser = shorter depth s r tree here in (
      n - 1,
      put k tree ms,
      omega arith,
      λ more rest e.
          let j = here.0 in
          let step = members_more (value depth) n k now s r j (omega arith) key here.1 ∙ ap (parse_map (json.member k j)) e in
          let all = so_far.3 (json.member k j more) rest step in
          (all.0, all.1, all.2 ∙ with_member k j tree more ms here.2),
      then ms so_far.4,
    )

pub members_are_read : (depth : ℕ) (first now r : List Token) (found : FoundMembers) → 1 ≤ depth
    → MembersRead (depth - 1) first now found → read_key now ≡ Some (None, r)
    → (ms : Members) × ReadsTo depth (Token.begin_object ∷ first) (object ms) r × AreFound ms found
members_are_read depth first now r found some so_far key =
    let p = value (depth - 1) in
    let all = so_far.3 json.no_members r (members_end p so_far.0 now r so_far.2 key) in (
      so_far.1,
      (json.object all.0, value-begin_object depth first (omega arith) ∙ ap (parse_map json.object) all.1, ap (option_map object) all.2),
      so_far.4,
    )

-- the four members make a saved cookie
pub shape_found : (ms : Members) (found : FoundMembers) (parts : BorrowedParts) → AreFound ms found
    → found.raw_cookie ≡ Some parts.raw_cookie → found.path ≡ Some (parts.path, parts.from_attr) → found.domain ≡ Some parts.domain → found.expires ≡ Some parts.expires
    → HasShape (object ms) (borrowed_parts parts)
shape_found ms found parts at raw path domain expires = (
  at.0 ∙ ap (option_map (λ text. string text.now)) raw,
  at.1 ∙ ap (option_map (λ p. path_tree p.0.now p.1)) path,
  at.2 ∙ ap (option_map (λ d. domain_tree (borrowed_domain d))) domain,
  at.3 ∙ ap (option_map (λ e. expiry_tree (expires_view e))) expires,
  at.4,
)
