-- The keys of Secure rows, by name.
use Rattle.std.specs.Prelude.{ℕ, Bool, ◌&&◌, List, [], ◌∷◌, bytes_eq, if◌then◌else◌}
use Rattle.std.specs.List.{list_any}
use Rattle.cookie_parts.specs.Cookie.{Row}
use Rattle.cookie_parts.specs.Domain.{domain_text}
use Rattle.cookie_laws.specs.Rows.{Key}

-- the domain and the path of a cookie, its scope
pub record ScopeValue : Type 0 where
  pub domain : List ℕ
  pub path : List ℕ

-- the scopes of Secure rows, by name
abbrev pub NamedScopes : Type 0
NamedScopes = List (List ℕ × List ScopeValue)

-- the scope of a cookie
abbrev pub scope_of : Row → ScopeValue
scope_of cookie = record { domain = domain_text cookie.domain; path = cookie.path.text }

-- the scopes of this name
abbrev pub scopes_named : List ℕ → NamedScopes → List ScopeValue
scopes_named name [] = []
scopes_named name (g ∷ gs) = if bytes_eq name g.0 then g.1 else scopes_named name gs

-- the key has this domain and path
abbrev pub is_in_scope : Key → ScopeValue → Bool
is_in_scope key scope = bytes_eq scope.domain key.domain && bytes_eq scope.path key.path

-- the key is one of these
abbrev pub lists_key : NamedScopes → Key → Bool
lists_key keys key = list_any (is_in_scope key) (scopes_named key.name keys)
