-- Insertions in either order of eviction.
use Rattle.std.specs.Prelude.{◌≡◌, Bool, Ok, if◌then◌else◌}
use Rattle.url.specs.Parts.{Parts}
use Rattle.cookie_words.specs.Moments.{Moment}
use Rattle.cookie_parts.specs.Cookie.{Row}
use Rattle.cookie_parts.specs.Domain.{HostOnly, domain_text}
use Rattle.cookie_parts.specs.declared.store_action.StoreAction.{StoreAction}
use Rattle.cookie_laws.specs.Acceptance.{accept, admitted, reply_at, store_by}
use Rattle.cookie_laws.specs.Contents.{Contents}
use Rattle.cookie_laws.specs.Rows.{key_of, row_of}
use Rattle.cookie_laws.specs.SecureLast.{accept_secure_last, store_secure_last_by}
use Rattle.cookie_rows.specs.declared.eviction_order.EvictionOrder.{EvictionOrder}
use Rattle.cookie_rows.specs.declared.eviction_order.EvictionOrder.TheVariants.{ExpiredFirst, SecureLast}
use Rattle.cookie_core.specs.declared.insertion.Acceptance.{Acceptance}

-- RFC 6265 5.3: the store after inserting a cookie received from the URL at this time, if rows are evicted in this order
abbrev pub store_in : EvictionOrder → Contents → Row → Parts → Moment → Contents
store_in ExpiredFirst store cookie url now = (accept store cookie url now).store
store_in SecureLast store cookie url now = accept_secure_last store cookie url now

-- the store after this action on an admitted cookie, if rows are evicted in this order
abbrev pub stored_in : EvictionOrder → StoreAction → Contents → Row → Moment → Contents
stored_in ExpiredFirst action store cookie now = store_by (Ok action) store cookie now
stored_in SecureLast action store cookie now = store_secure_last_by (Ok action) store cookie now

-- 5.3 step 5: the cookie as it is stored: host-only if its domain is a listed public suffix
abbrev pub as_stored : Bool → Row → Row
as_stored host_only cookie = if host_only then record cookie { domain = HostOnly (domain_text cookie.domain) } else cookie

-- the store accepts the cookie from the URL at this time, and this is how
pub record IsAccepted (url : Parts) (store : Contents) (cookie : Row) (now : Moment) (acceptance : Acceptance) : Type 0 where
  pub is_admitted : admitted store.suffixes url cookie ≡ Ok (as_stored acceptance.is_host_only cookie)
  pub is_replied : reply_at (row_of (key_of cookie) store.rows) cookie url now ≡ Ok acceptance.action
