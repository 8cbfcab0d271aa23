-- The cookies of one store inserted into another, each as if it was received from its own domain.
use Rattle.std.specs.Prelude.{◌≡◌, Bool, true, false, List, [], ◌∷◌, ◌++◌, codes, flat_map, Option, Some, None, Ok, Err}
use Rattle.url.specs.Parts.{Parts}
use Rattle.cookie_words.specs.Moments.{Moment}
use Rattle.cookie_parts.specs.Cookie.{Row}
use Rattle.cookie_parts.specs.Domain.{domain_text}
use Rattle.cookie_parts.specs.Hosts.{url_at}
use Rattle.cookie_laws.specs.Contents.{Contents}
use Rattle.cookie_laws.specs.Runs.{Call, Insert, Reply, Stored, Removed, Cleared, store_after}

-- the page `https://DOMAIN/` of the cookie's domain, if that is a URL
abbrev pub own_page : Row → Option Parts
own_page cookie = url_at (codes "https://" ++ domain_text cookie.domain ++ codes "/")

-- the insertion of the cookie, received from its own page; none if it has no page
abbrev pub own_insertion : Moment → Row → List Call
own_insertion now cookie = elim (own_page cookie) [ None ↦ [] | Some page ↦ Insert cookie page now ∷ [] ]

-- the insertions of cookies, each received from its own page
abbrev pub own_insertions : Moment → List Row → List Call
own_insertions now cookies = flat_map (own_insertion now) cookies

-- the reply is that a cookie was stored
abbrev pub is_stored : Reply → Bool
is_stored (Stored (Ok action)) = true
is_stored (Stored (Err error)) = false
is_stored (Removed cookie) = false
is_stored Cleared = false

-- memory ran out: some of the cookies are inserted, and those behind them are not
abbrev pub MergesSome : Moment → List Row → Contents → Contents → Type 0
MergesSome now cookies old new =
    (done : List Row) × (others : List Row) × (cookies ≡ done ++ others) × (new ≡ store_after (own_insertions now done) old)
