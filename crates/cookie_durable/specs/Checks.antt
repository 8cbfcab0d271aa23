-- Cookies that cannot be written, and why calls fail.
use Rattle.std.specs.Prelude.{◌≡◌, ◌<◌, ℕ, ◌+◌, ℤ, pos, Bool, ◌||◌, IsTrue, List, length, nat_lt, is_some, Option, Some, None, slice_get}
use Rattle.std.specs.List.{list_any}
use Rattle.std.specs.Result.{result_ok}
use Rattle.cookie_words.specs.Moments.{Moment}
use Rattle.cookie_parts.specs.Cookie.{Row, cookie_from_header}
use Rattle.cookie_parts.specs.Domain.{domain_text}
use Rattle.cookie_parts.specs.Hosts.{passes}
use Rattle.cookie_laws.specs.Runs.{Call, Insert, Set}
use Rattle.cookie_table.specs.WholeSeconds.{has_early_time, is_early}
use Rattle.cookie_durable.specs.Durable.{Durable}
use Rattle.cookie_durable.specs.declared.durable_error.DurableError.{DurableError}
use Rattle.cookie_durable.specs.declared.durable_error.DurableError.TheVariants.{Failed, Full, NotWritten, OutOfMemory, Unstorable}

-- the length of a string, 0 if there is none
abbrev pub len_if_any : Option (List ℕ) → ℕ
len_if_any None = 0
len_if_any (Some text) = length text

-- the bytes of all strings of a cookie
abbrev pub text_len : Row → ℕ
text_len cookie =
    length (domain_text cookie.domain) + length cookie.path.text + length cookie.raw.name + length cookie.raw.value
    + len_if_any cookie.raw.domain + len_if_any cookie.raw.path

-- the most bytes that the strings of a cookie may have: the row fits the billion bytes of SQLite
abbrev pub most_text : ℕ
most_text = 999_999_000

-- the strings are too long, or a time is before the year 0
abbrev pub is_unstorable : Row → Bool
is_unstorable cookie = nat_lt most_text (text_len cookie) || has_early_time cookie

-- the cookie that a call is to insert: for `Set` that of the header value, unless it is rejected
abbrev pub cookie_of_call : Call → Option Row
cookie_of_call (Set text url now) = result_ok (cookie_from_header text url now)
cookie_of_call (Insert cookie url now) = Some cookie
cookie_of_call other = None

-- how many rowids there are from 1 on
abbrev pub most_rowids : ℕ
most_rowids = 9_223_372_036_854_775_807

-- the greatest rowid that there is
abbrev pub greatest_rowid : ℤ
greatest_rowid = pos most_rowids

-- why a call may fail that is to insert this cookie, if there is one; only such a call finds it unstorable, or no rowid left
abbrev pub IsReasonFor : {S : Type 0} → DurableError → Durable S → (Row → Bool) → Option Row → Type 0
IsReasonFor Failed d unstorable cookie = IsTrue d.is_failed
IsReasonFor Unstorable d unstorable cookie = IsTrue (passes unstorable cookie)
IsReasonFor Full d unstorable cookie = IsTrue (is_some cookie) × (d.next ≡ greatest_rowid)
IsReasonFor OutOfMemory d unstorable cookie = Unit {0}
IsReasonFor (NotWritten cause) d unstorable cookie = Unit {0}

-- why a call may fail
abbrev pub IsReasonOf : {S : Type 0} → DurableError → Durable S → Call → Type 0
IsReasonOf error d call = IsReasonFor error d is_unstorable (cookie_of_call call)

-- the test passes of the cookie that the call after the first `done` is to insert
abbrev pub IsNext : (Option Row → Bool) → ℕ → List Call → Type 0
IsNext test done calls = (call : Call) × (slice_get calls done ≡ Some call) × IsTrue (test (cookie_of_call call))

-- why calls stop after the first `done`: as the next may fail alone, but not that no rowid is left then
abbrev pub IsReasonAfter : {S : Type 0} → DurableError → Durable S → ℕ → List Call → Type 0
IsReasonAfter Failed d done calls = IsTrue d.is_failed
IsReasonAfter Unstorable d done calls = IsNext (passes is_unstorable) done calls
IsReasonAfter Full d done calls = IsNext is_some done calls
IsReasonAfter OutOfMemory d done calls = Unit {0}
IsReasonAfter (NotWritten cause) d done calls = Unit {0}

-- a cookie cannot be written that is received at this time under the rules of browsers, by which it expires at most 400 days
-- later
abbrev pub is_unstorable_at : Moment → Row → Bool
is_unstorable_at now cookie = is_early now || is_unstorable cookie

-- why cookies cannot be the rows of a table
abbrev pub IsReasonAgainstRows : DurableError → List Row → Type 0
IsReasonAgainstRows Unstorable cookies = IsTrue (list_any is_unstorable cookies)
IsReasonAgainstRows Full cookies = most_rowids < length cookies
IsReasonAgainstRows OutOfMemory cookies = Unit {0}
IsReasonAgainstRows other cookies = ⊥

-- why cookies may not replace those of a store
abbrev pub IsReasonAgainst : {S : Type 0} → DurableError → Durable S → List Row → Type 0
IsReasonAgainst Failed d cookies = IsTrue d.is_failed
IsReasonAgainst (NotWritten cause) d cookies = Unit {0}
IsReasonAgainst other d cookies = IsReasonAgainstRows other cookies
