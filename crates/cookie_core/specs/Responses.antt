-- The cookies of a response.
use Rattle.std.specs.Prelude.{◌≡◌, ℕ, ◌++◌, List, codes, Option, None, Some, if◌then◌else◌}
use Rattle.std.specs.Iterator.{Drains, YieldsThen}
use Rattle.std.specs.List.{fold}
use Rattle.url.specs.Parts.{Parts}
use Rattle.cookie_words.specs.Moments.{Moment}
use Rattle.cookie_raw.specs.CookieText.{cookie_text}
use Rattle.cookie_raw.specs.Raw.{Raw}
use Rattle.cookie_parts.specs.Cookie.{cookie_of, early_error, is_secure_only}
use Rattle.cookie_laws.specs.Acceptance.{received}
use Rattle.cookie_laws.specs.Contents.{Contents}

-- the store after inserting the raw cookies received from the URL, in order; a rejected one changes nothing
abbrev pub store_after_response : Parts → Moment → List Raw → Contents → Contents
store_after_response url now raws store =
    fold (λ before raw. (received before (cookie_of raw url now) url now).store) store raws

-- the new store is the one after inserting these raw cookies, in order
abbrev pub Inserts : Parts → Moment → List Raw → Contents → Contents → Type 0
Inserts url now raws old new = new ≡ store_after_response url now raws old

-- the same with all items of the iterator
abbrev pub InsertsAll : {S : Type 0} → (S → Option Raw → S → Type 0) → S → Parts → Moment → Contents → Contents → Type 0
InsertsAll steps items url now old new = (raws : List Raw) × Drains steps items raws × Inserts url now raws old new

-- the same, and `rest` is left of the iterator after its `None`
abbrev pub InsertsToEnd : {S : Type 0} → (S → Option Raw → S → Type 0) → S → S → Parts → Moment → Contents → Contents → Type 0
InsertsToEnd steps items rest url now old new =
    (raws : List Raw) × YieldsThen steps items raws None rest × Inserts url now raws old new

-- the same with the items before one that is not rejected early, and `rest` is left of the iterator after that one
abbrev pub InsertsUntil : {S : Type 0} → (S → Option Raw → S → Type 0) → S → S → Parts → Moment → Contents → Contents → Type 0
InsertsUntil steps items rest url now old new =
    (raws : List Raw) × (next : Raw) × YieldsThen steps items raws (Some next) rest × (early_error next url ≡ None)
    × Inserts url now raws old new

-- the same with the items before one that is not rejected early, whatever is left
abbrev pub InsertsSome : {S : Type 0} → (S → Option Raw → S → Type 0) → S → Parts → Moment → Contents → Contents → Type 0
InsertsSome {S} steps items url now old new = (rest : S) × InsertsUntil steps items rest url now old new

-- the log line of a received cookie: of a Secure cookie the name only
abbrev pub received_line_text : Raw → List ℕ
received_line_text raw =
    if is_secure_only raw then codes "inserting secure cookie '" ++ raw.name ++ codes "'"
    else codes "inserting Set-Cookie '" ++ cookie_text raw ++ codes "'"
