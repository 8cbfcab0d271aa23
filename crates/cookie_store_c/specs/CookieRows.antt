-- Rows as C programs read them.
use Rattle.std.specs.Prelude.{◌≡◌, ◌⊎◌, ℕ, ◌^◌, ◌≤◌, Bool, true, false, ◌&&◌, List, ◌++◌, flat_map, length, map, nat_le, Option, Some, None, Result, Ok, Err, if◌then◌else◌, ℤ, pos}
use Rattle.url.specs.Parts.{Parts}
use Rattle.cookie_words.specs.Moments.{Moment}
use Rattle.cookie_words.specs.Seconds.{epoch_second}
use Rattle.cookie_raw.specs.declared.same_site.SameSite.{SameSite}
use Rattle.cookie_raw.specs.declared.same_site.SameSite.TheVariants as same_site
use Rattle.cookie_parts.specs.Cookie.{Row, is_http_only, is_persistent, is_secure_only}
use Rattle.cookie_parts.specs.Domain.{DomainValue, HostOnly, domain_text}
use Rattle.cookie_parts.specs.Expiry.{Expiry, AtUtc, SessionEnd}
use Rattle.cookie_laws.specs.Contents.{Contents}
use Rattle.cookie_strict.specs.declared.context.Context.{Context}
use Rattle.cookie_store_c.specs.Headers.{AreCookiesOf}
use Rattle.cookie_store_c.specs.Buffers.{at_start}
use Rattle.cookie_store_c.specs.Inputs.{request}
use Rattle.cookie_store_c.specs.declared.cookie_row.CookieRow.{CookieRow}
use Rattle.cookie_store_c.specs.declared.status.Status.{Status}
use Rattle.cookie_store_c.specs.declared.status.Status.TheVariants.{Done, NoMemory, NoRoom, NoStore}

-- the second of the expiry, counted from the epoch and rounded down; 0 for a session cookie
abbrev pub expiry_second : Expiry → ℤ
expiry_second (AtUtc end) = epoch_second end
expiry_second SessionEnd = pos 0

-- RFC 6265 5.3 step 6: the host-only-flag
abbrev pub is_host_only : DomainValue → Bool
is_host_only (HostOnly d) = true
is_host_only other = false

-- a flag as a byte
abbrev pub flag : Bool → ℕ
flag set = if set then 1 else 0

-- the number of a SameSite attribute; 0 without one
abbrev pub same_site_code : Option SameSite → ℕ
same_site_code None = 0
same_site_code (Some same_site.Strict) = 1
same_site_code (Some same_site.Lax) = 2
same_site_code (Some same_site.None) = 3

-- a row without its strings
abbrev pub cookie_row : Row → CookieRow
cookie_row row = record {
  domain_len = length (domain_text row.domain);
  path_len = length row.path.text;
  name_len = length row.raw.name;
  value_len = length row.raw.value;
  expires = expiry_second row.expires;
  persistent = flag (is_persistent row.expires);
  host_only = flag (is_host_only row.domain);
  has_path = flag (row.path.is_from_attribute);
  secure = flag (is_secure_only row.raw);
  http_only = flag (is_http_only row.raw);
  same_site = same_site_code row.raw.same_site;
}

-- the strings of a row
abbrev pub row_strings : Row → List ℕ
row_strings row = domain_text row.domain ++ row.path.text ++ row.raw.name ++ row.raw.value

-- the status, the two buffers after the call, and the lengths that they need
pub record BufferOutcome : Type 0 where
  pub status : Status
  pub rows : List CookieRow
  pub strings : List ℕ
  pub rows_needed : ℕ
  pub strings_needed : ℕ

-- a status alone: nothing is written, and both lengths are 0
abbrev pub nothing_written : Status → List CookieRow → List ℕ → BufferOutcome
nothing_written status rows strings =
    record { status = status; rows = rows; strings = strings; rows_needed = 0; strings_needed = 0 }

-- the lengths that the buffers need
abbrev pub lengths_outcome : List Row → List CookieRow → List ℕ → BufferOutcome
lengths_outcome all rows strings =
    record (nothing_written NoRoom rows strings) { rows_needed = length all; strings_needed = length (flat_map row_strings all) }

-- rows and strings are written if both fit
abbrev pub rows_outcome : List Row → List CookieRow → List ℕ → BufferOutcome
rows_outcome all rows strings =
    if nat_le (length all) (length rows) && nat_le (length (flat_map row_strings all)) (length strings) then record (lengths_outcome all rows strings) {
      status = Done;
      rows = at_start (map cookie_row all) rows;
      strings = at_start (flat_map row_strings all) strings;
    }
    else lengths_outcome all rows strings

-- the strings of the rows together have 2^64 bytes or more
abbrev pub IsTooLong : List Row → Type 0
IsTooLong rows = 2 ^ 64 ≤ length (flat_map row_strings rows)

-- the rows of a store are written if they fit; `NoMemory` if the strings are too long, `NoStore` without a store
abbrev pub ReportsRows : Option Contents → List CookieRow → List ℕ → BufferOutcome → Type 0
ReportsRows None rows strings reported = reported ≡ nothing_written NoStore rows strings
ReportsRows (Some store) rows strings reported =
    (reported ≡ rows_outcome store.rows rows strings)
    ⊎ (IsTooLong store.rows × (reported ≡ nothing_written NoMemory rows strings))

-- the cookies of a request, in the order of the Cookie header, or the error
abbrev pub IsRequestRows : Option Context → Contents → Result (Parts × Moment) Status → Result (List Row) Status → Type 0
IsRequestRows context store (Ok inputs) expected =
    (cookies : List Row) × AreCookiesOf context inputs.0 inputs.1 store cookies × (expected ≡ Ok cookies)
IsRequestRows context store (Err status) expected = expected ≡ Err status

-- the same for the string of a URL and a time in seconds, or `NoStore` if there is no store
abbrev pub IsRequestRowsIn : Option Context → Option Contents → List ℕ → ℤ → Result (List Row) Status → Type 0
IsRequestRowsIn context None url now expected = expected ≡ Err NoStore
IsRequestRowsIn context (Some store) url now expected = IsRequestRows context store (request url now) expected

-- these rows are written if they fit; on an error nothing is written, and both lengths are 0
abbrev pub request_outcome : Result (List Row) Status → List CookieRow → List ℕ → BufferOutcome
request_outcome (Ok cookies) rows strings = rows_outcome cookies rows strings
request_outcome (Err status) rows strings = nothing_written status rows strings

-- the outcome is that of a result with this property; or memory ran out, which it may if `MayAllocate` holds
abbrev pub WritesSomeRows : (Result (List Row) Status → Type 0) → Type 0 → List CookieRow → List ℕ → BufferOutcome → Type 0
WritesSomeRows IsResult MayAllocate rows strings reported =
    ((expected : Result (List Row) Status) × IsResult expected × (reported ≡ request_outcome expected rows strings))
    ⊎ (MayAllocate × (reported ≡ nothing_written NoMemory rows strings))
