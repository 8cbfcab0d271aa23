-- The index of the Secure rows of a store.
use Rattle.std.specs.Prelude.{◌≡◌, Bool, true, List, Option, Some, None, ⊤}
use Rattle.std.specs.List.{All}
use Rattle.cookie_parts.specs.Cookie.{Row, is_secure_only}
use Rattle.cookie_parts.specs.Hosts.{passes}
use Rattle.cookie_laws.specs.Rows.{Key, key_of, row_of}
use Rattle.cookie_rows.specs.SecureKeys.{NamedScopes, lists_key}

-- the key of the row is one of these if the row is Secure
abbrev pub IsKeyed : NamedScopes → Row → Type 0
IsKeyed keys row = is_secure_only row.raw ≡ true → lists_key keys (key_of row) ≡ true

-- the index, if there is one, has the key of each Secure row
abbrev pub Indexes : Option NamedScopes → List Row → Type 0
Indexes None rows = ⊤
Indexes (Some keys) rows = All (IsKeyed keys) rows

-- the row of the key exists and is Secure
abbrev pub is_secure_stored : Key → List Row → Bool
is_secure_stored key rows = passes (λ row. is_secure_only row.raw) (row_of key rows)
