-- The Cookie header of a request, RFC 6265 4.2.1 and 5.4.
use Rattle.std.specs.Prelude.{◌≡◌, ℕ, List, [], ◌∷◌, ◌++◌, codes, flat_map, length, Option, Some, None}
use Rattle.std.specs.List.{position_or_len}
use Rattle.std.specs.List.Sorted.{IsPermutation, IsSorted}
use Rattle.std.specs.Ordering.{nat_cmp, ordering_then}
use Rattle.std.specs.declared.cmp.Ordering.{Ordering}
use Rattle.url.specs.Parts.{Parts}
use Rattle.cookie_words.specs.Moments.{Moment}
use Rattle.cookie_parts.specs.Cookie.{Row}
use Rattle.cookie_laws.specs.Contents.{Contents}
use Rattle.cookie_laws.specs.Given.{given}
use Rattle.cookie_laws.specs.Rows.{Key, key_of, same_key}

-- 4.2.1: a cookie-pair
abbrev pub pair_text : Row → List ℕ
pair_text cookie = cookie.raw.name ++ codes "=" ++ cookie.raw.value

-- "; " and a cookie-pair
abbrev pub later_pair : Row → List ℕ
later_pair cookie = codes "; " ++ pair_text cookie

-- 4.2.1: the cookie-string of these cookies, in their order
abbrev pub cookie_string : List Row → List ℕ
cookie_string [] = []
cookie_string (cookie ∷ cookies) = pair_text cookie ++ flat_map later_pair cookies

-- how many cookies were created before this one; `created` holds the keys in creation order
abbrev pub creation : List Key → Row → ℕ
creation created cookie = position_or_len (same_key (key_of cookie)) created

-- 5.4 step 2: longer paths first, and of equally long ones the cookie that was created first
abbrev pub header_order : List Key → Row → Row → Ordering
header_order created a b =
    ordering_then (nat_cmp (length b.path.text) (length a.path.text)) (nat_cmp (creation created a) (creation created b))

-- 5.4: the cookies of a request, each once, in the order of step 2
abbrev pub InHeaderOrder : Parts → Moment → Contents → List Row → Type 0
InHeaderOrder url now store cookies =
    IsPermutation (given url now store.rows) cookies × IsSorted (header_order store.created) cookies

-- 4.2.1: the value of a Cookie header with these cookies; without cookies there is no header
abbrev pub header_value : List Row → Option (List ℕ)
header_value [] = None
header_value (c ∷ cs) = Some (cookie_string (c ∷ cs))

-- 4.2.1: the value of the Cookie header of a request, if it has one
abbrev pub IsCookieHeader : Parts → Moment → Contents → Option (List ℕ) → Type 0
IsCookieHeader url now store header = (cookies : List Row) × InHeaderOrder url now store cookies × (header ≡ header_value cookies)
