-- Calls for one domain, and its rows.
use Rattle.std.proofs.Common.{◌≡◌, ℕ, Bool, List, Some, refl, ap}
use Rattle.std.specs.Str.{bytes_eq}
use Rattle.std.proofs.lemmas.Slice.Eq.{bytes_eq-Decides}
use Rattle.cookie_parts.specs.Hosts.{passes}
use Rattle.cookie_laws.specs.Contents.{Contents}
use Rattle.cookie_laws.specs.Rows.{Key}
use Rattle.cookie_laws.specs.Runs.{Call, Set, Insert, Remove, Clear, replies, rows_after, store_after}
use Rattle.cookie_laws.specs.Related.{call_key, domain_calls, domain_keys, domain_rows, is_of_domain, replies_to}
use Rattle.cookie_laws.proofs.RowsOfKeys.{IsByDomain}
use Rattle.cookie_laws.proofs.RunsOfKeys.{IsOfKeys, same_stores, same_replies}

-- the key is of the domain
abbrev pub is_in : List ℕ → Key → Bool
is_in domain key = bytes_eq domain key.domain

-- keys of one domain are of it alike
one_domain : (domain : List ℕ) → IsByDomain (is_in domain)
one_domain domain a b same = ap (bytes_eq domain) ((bytes_eq-Decides a.domain b.domain).0 same)

-- a call for a key is of the domain as the key is
call-of_domain : (domain : List ℕ) (call : Call) (key : Key) → call_key call ≡ Some key → is_of_domain domain call ≡ is_in domain key
call-of_domain domain (Set text url now) key is = ap (passes (is_in domain)) is
call-of_domain domain (Insert cookie url now) key is = ap (passes (is_in domain)) is
call-of_domain domain (Remove removed) key is = ap (passes (is_in domain)) is
call-of_domain domain Clear key is = cc

-- the calls for a domain, and `Clear`
of_domain : (domain : List ℕ) → IsOfKeys (is_in domain) (is_of_domain domain)
of_domain domain = record { domains = one_domain domain; calls = call-of_domain domain; clear = refl }

-- the rows of a domain depend on the calls for it alone
pub same_domain_rows : (domain : List ℕ) (calls : List Call) (store : Contents)
    → domain_rows domain (rows_after calls store) ≡ domain_rows domain (rows_after (domain_calls domain calls) store)
same_domain_rows domain calls store = ap (λ after. after.rows) (same_stores (of_domain domain) calls store)

-- so does their creation order
pub same_domain_keys : (domain : List ℕ) (calls : List Call) (store : Contents)
    → domain_keys domain (store_after calls store).created ≡ domain_keys domain (store_after (domain_calls domain calls) store).created
same_domain_keys domain calls store = ap (λ after. after.created) (same_stores (of_domain domain) calls store)

-- and the replies to those calls
pub same_domain_replies : (domain : List ℕ) (calls : List Call) (store : Contents)
    → replies_to (is_of_domain domain) calls store ≡ replies (domain_calls domain calls) store
same_domain_replies domain calls store = same_replies (of_domain domain) calls store
