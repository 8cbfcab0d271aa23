-- Rows that can be saved and loaded again, with each expiry cut to whole seconds.
use Rattle.std.specs.Prelude.{◌≡◌, List, map, Ok}
use Rattle.cookie_raw.specs.CookieText.{cookie_text}
use Rattle.cookie_raw.specs.SetCookie.{reading}
use Rattle.cookie_forms.specs.MomentText.{whole_seconds}
use Rattle.cookie_forms.specs.Saved.{saved_view}
use Rattle.cookie_forms.specs.declared.saved.Saved.{Saved}
use Rattle.cookie_parts.specs.Cookie.{Row}
use Rattle.cookie_parts.specs.Expiry.{Expiry, AtUtc, SessionEnd}
use Rattle.cookie_parts.specs.SavedConversion.{saved_of}

-- the row has a saved form, and the string of its raw cookie parses as that raw cookie
abbrev pub ReadsBack : Row → Type 0
ReadsBack row = (reading (cookie_text row.raw) ≡ Ok row.raw) × (form : Saved) × (saved_view form ≡ saved_of row)

-- an expiry, cut to whole seconds
abbrev pub cut_expiry : Expiry → Expiry
cut_expiry (AtUtc end) = AtUtc (whole_seconds end)
cut_expiry SessionEnd = SessionEnd

-- a row, with its expiry cut to whole seconds
abbrev pub cut_row : Row → Row
cut_row row = record row { expires = cut_expiry row.expires }

-- rows, with their expiries cut to whole seconds
abbrev pub cut_rows : List Row → List Row
cut_rows rows = map cut_row rows
