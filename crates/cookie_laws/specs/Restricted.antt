-- A store restricted to the domains that pass a test.
use Rattle.std.specs.Prelude.{ℕ, Bool, List, filter}
use Rattle.cookie_parts.specs.Cookie.{Row}
use Rattle.cookie_parts.specs.Domain.{domain_text}
use Rattle.cookie_laws.specs.Contents.{Contents}
use Rattle.cookie_laws.specs.Related.{call_key, passes_or_none}
use Rattle.cookie_laws.specs.Rows.{Key}
use Rattle.cookie_laws.specs.Runs.{Call, Step}

-- the domain of the row passes
abbrev pub is_row_of : (List ℕ → Bool) → Row → Bool
is_row_of test row = test (domain_text row.domain)

-- the domain of the call's key passes, or it has no key
abbrev pub is_call_of : (List ℕ → Bool) → Call → Bool
is_call_of test call = passes_or_none (λ (key : Key). test key.domain) (call_key call)

-- the store with the rows of these domains alone, and their keys in creation order
abbrev pub restricted : (List ℕ → Bool) → Contents → Contents
restricted test store = record store {
  rows = filter (is_row_of test) store.rows;
  created = filter (λ (key : Key). test key.domain) store.created;
}

-- a reply, and the store after the call, restricted
abbrev pub restricted_step : (List ℕ → Bool) → Step → Step
restricted_step test after = record { reply = after.reply; store = restricted test after.store }
