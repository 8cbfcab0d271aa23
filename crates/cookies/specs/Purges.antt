-- Which cookies `purge` removes.
use Rattle.std.specs.Prelude.{ℕ, Bool, not, ◌&&◌, ◌||◌, List, bytes_eq, Option, Some, None}
use Rattle.cookie_words.specs.Moments.{Moment}
use Rattle.cookie_parts.specs.Cookie.{Row, is_expired, is_persistent}
use Rattle.cookie_parts.specs.Domain.{domain_text}
use Rattle.cookie_store.specs.Contents.{Contents, retained}
use Rattle.cookies.specs.declared.purge.Purge.{Purge}

-- the cookie has expired, or is a session cookie, and such cookies are removed
abbrev pub is_stale : Bool → Bool → Moment → Row → Bool
is_stale expired session now row = (expired && is_expired now row) || (session && not (is_persistent row.expires))

-- the store without these
abbrev pub without_stale : Purge → Moment → Contents → Contents
without_stale purge now store = retained (λ row. not (is_stale purge.is_expired purge.is_session now row)) store

-- the store without the cookies of the domain, if one is named
abbrev pub without_domain : Option (List ℕ) → Contents → Contents
without_domain None store = store
without_domain (Some named) store = retained (λ row. not (bytes_eq named (domain_text row.domain))) store
