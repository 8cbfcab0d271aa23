-- Calls for domains that are related to a URL, and the rows that are given for it.
use Rattle.std.proofs.Common.{◌≡◌, ℕ, Bool, true, List, [], ◌∷◌, ◌++◌, eqb, Option, Some, None, nat_eq, ◌∙◌, refl, sym, ap, subst, ⊎_elim, inl, inr, IsPermutation}
use Rattle.std.specs.List.{AllByRecursion, list_any, ends_with}
use Rattle.std.specs.Str.{bytes_eq}
use Rattle.std.proofs.lemmas.Bool.{and_parts, cases_Bool, or_cases, or_left, or_right, cond_both}
use Rattle.std.proofs.lemmas.List.Elements.{All-from_recursion}
use Rattle.std.proofs.lemmas.List.Sorted.{All-permutation}
use Rattle.std.proofs.lemmas.Slice.Eq.{bytes_eq-Decides}
use Rattle.url.specs.Parts.{Parts}
use Rattle.cookie_words.specs.Moments.{Moment}
use Rattle.cookie_parts.specs.Cookie.{Row}
use Rattle.cookie_parts.specs.Domain.{DomainValue, HostOnly, Suffix, NotPresent, Empty, domain_text, is_for_host}
use Rattle.cookie_parts.specs.Hosts.{host_of, passes}
use Rattle.cookie_laws.specs.Contents.{Contents}
use Rattle.cookie_laws.specs.Given.{given, is_given}
use Rattle.cookie_laws.specs.Header.{InHeaderOrder}
use Rattle.cookie_laws.specs.Rows.{Key, key_of}
use Rattle.cookie_laws.specs.Runs.{Call, replies, rows_after, store_after}
use Rattle.cookie_laws.specs.Related.{after_dots, is_related, passes_or_none, may_affect, calls_related_to, replies_to}
use Rattle.cookie_laws.proofs.CoveredHosts.{front-ends_with}
use Rattle.cookie_laws.proofs.Filtered.{filter-within}
use Rattle.cookie_laws.proofs.HeaderOrder.{same_order}
use Rattle.cookie_laws.proofs.RowsOfKeys.{IsByDomain}
use Rattle.cookie_laws.proofs.RunsOfKeys.{IsOfKeys, same_stores, same_replies}

-- the key's domain is related to the URL
abbrev is_key_related : Parts → Key → Bool
is_key_related url key = is_related url key.domain

-- keys of one domain are related alike
related_domains : (url : Parts) → IsByDomain (is_key_related url)
related_domains url a b same = ap (is_related url) ((bytes_eq-Decides a.domain b.domain).0 same)

-- the calls that concern a URL are those for related domains, and `Clear`
related_calls : (url : Parts) → IsOfKeys (is_key_related url) (may_affect url)
related_calls url = record {
  domains = related_domains url;
  calls = λ call key is. ap (passes_or_none (is_key_related url)) is;
  clear = refl;
}

-- what follows a dot of a string is among `after_dots` of it
after_dots-has : (domain prefix : List ℕ) → list_any (bytes_eq domain) (after_dots (prefix ++ 46 ∷ domain)) ≡ true
after_dots-has domain [] = or_left _ _ ((bytes_eq-Decides domain domain).1 refl)
after_dots-has domain (b ∷ prefix) =
    let rest = prefix ++ 46 ∷ domain in
    cond_both (eqb b 46) (rest ∷ after_dots rest) (after_dots rest) (λ texts. list_any (bytes_eq domain) texts ≡ true)
    (λ _. or_right _ _ (after_dots-has domain prefix))
    (λ _. after_dots-has domain prefix)

-- a domain that covers a host is the host, or follows one of its dots
below-related : (domain host : List ℕ) → ends_with nat_eq host (46 ∷ domain) ≡ true → list_any (bytes_eq domain) (after_dots host) ≡ true
below-related domain host below =
    let split = front-ends_with host (46 ∷ domain) below in
    subst (λ text. list_any (bytes_eq domain) (after_dots text) ≡ true) (sym split.1) (after_dots-has domain split.0)

-- a cookie for a host has such a domain
for_host-related : (domain : DomainValue) (host : List ℕ) → is_for_host domain host ≡ true → list_any (bytes_eq (domain_text domain)) (host ∷ after_dots host) ≡ true
for_host-related (HostOnly d) host is_for = or_left _ _ is_for
for_host-related (Suffix d) host is_for =
    ⊎_elim (λ same. or_left _ _ same)
    (λ below. or_right _ _ (below-related d host (and_parts _ _ below).0))
    (or_cases (bytes_eq d host) _ is_for)
for_host-related NotPresent host is_for = cc
for_host-related Empty host is_for = cc

-- what passes a test passes one that allows more
passes-weaker : {T : Type 0} (test more : T → Bool) → ((x : T) → test x ≡ true → more x ≡ true) → (value : Option T) → passes test value ≡ true → passes more value ≡ true
passes-weaker test more allows None is = cc
passes-weaker test more allows (Some x) is = allows x is

-- a row that is given for a URL is of a related domain
pub given-related : (url : Parts) (now : Moment) (row : Row) → is_given url now row ≡ true → is_key_related url (key_of row) ≡ true
given-related url now row is =
    let matches = (and_parts _ _ (and_parts _ _ (and_parts _ _ is).0).0).1 in
    let for_url = (and_parts _ _ (and_parts _ _ (and_parts _ _ matches).0).0).0 in
    passes-weaker (is_for_host row.domain) (λ host. list_any (bytes_eq (domain_text row.domain)) (host ∷ after_dots host)) (for_host-related row.domain) (host_of url) for_url

-- each of those that are given is
all_related : (url : Parts) (now : Moment) (rows : List Row) → AllByRecursion (λ row. is_key_related url (key_of row) ≡ true) (given url now rows)
all_related url now [] = tt
all_related url now (row ∷ rows) = elim (cases_Bool (is_given url now row)) [
  | inl is ↦ rw is (given-related url now row is, all_related url now rows)
  | inr is ↦ rw is (all_related url now rows)
]

-- what is given for a URL depends on the calls for related domains alone
pub same_given : (url : Parts) (now : Moment) (calls : List Call) (store : Contents)
    → given url now (rows_after calls store) ≡ given url now (rows_after (calls_related_to url calls) store)
same_given url now calls store =
    let test = is_key_related url in
    let within = filter-within (λ row. test (key_of row)) (is_given url now) (given-related url now) in
    sym (within (rows_after calls store))
    ∙ ap (λ after. given url now after.rows) (same_stores (related_calls url) calls store)
    ∙ within (rows_after (calls_related_to url calls) store)

-- so does its order in the header
pub same_header : (url : Parts) (now : Moment) (calls : List Call) (store : Contents) (cookies : List Row)
    → InHeaderOrder url now (store_after calls store) cookies → InHeaderOrder url now (store_after (calls_related_to url calls) store) cookies
same_header url now calls store cookies ordered =
    let IsRelated : Row → Type 0 = λ row. is_key_related url (key_of row) ≡ true in
    let after = store_after calls store in
    let alone = store_after (calls_related_to url calls) store in
    let created = ap (λ passing. passing.created) (same_stores (related_calls url) calls store) in
    let related = All-from_recursion IsRelated (given url now after.rows) (all_related url now after.rows) in (
      subst (λ rows. IsPermutation rows cookies) (same_given url now calls store) ordered.0,
      same_order (is_key_related url) after.created alone.created created cookies
          (All-permutation IsRelated (given url now after.rows) cookies ordered.0 related) ordered.1,
    )

-- so do the replies to them
pub same_related_replies : (url : Parts) (calls : List Call) (store : Contents) → replies_to (may_affect url) calls store ≡ replies (calls_related_to url calls) store
same_related_replies url calls store = same_replies (related_calls url) calls store
