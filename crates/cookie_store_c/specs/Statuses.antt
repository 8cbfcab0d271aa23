-- The statuses that calls return, and their numbers.
use Rattle.std.specs.Prelude.{◌≡◌, ℕ, Some, None, Ok, Err}
use Rattle.cookie_forms.specs.declared.error.SavedError.TheVariants as SavedCase
use Rattle.cookie_parts.specs.declared.cookie_error.CookieError.{CookieError}
use Rattle.cookie_parts.specs.declared.cookie_error.CookieError.TheVariants as CookieCase
use Rattle.cookie_parts.specs.declared.error.Error.{Error}
use Rattle.cookie_parts.specs.declared.error.Error.TheVariants as ErrorCase
use Rattle.cookie_parts.specs.declared.store_action.StoreAction.TheVariants as ActionCase
use Rattle.cookie_laws.specs.Runs.{Reply, Stored, Removed, Cleared}
use Rattle.cookie_serde.specs.declared.format_error.FormatError.{FormatError}
use Rattle.cookie_serde.specs.declared.format_error.FormatError.TheVariants as FormatCase
use Rattle.cookie_strict.specs.declared.error.StrictError.{StrictError}
use Rattle.cookie_strict.specs.declared.error.StrictError.TheVariants as StrictCase
use Rattle.cookie_store_c.specs.declared.status.Status.{Status}
use Rattle.cookie_store_c.specs.declared.status.Status.TheVariants.{Done, Inserted, Updated, ExpiredExisting, NonHttpScheme, NonRelativeScheme, DomainMismatch, Expired, Parse, PublicSuffix, UnspecifiedDomain, NoMemory, BadUrl, NotUtf8, BadTime, NoStore, HasStore, NoRoom, NotFound, BadLimit, BadOption, BadRule, BadJson, BadShape, BadRon, BadExpiry, BadLine, Unrepresentable, NoRules, NoList, ControlCharacter, TooLong, InsecureUrl, InsecureSameSiteNone, Prefix, SecureStored, SecureLimit, CrossSiteResponse}

-- the number of a status
abbrev pub status_code : Status → ℕ
status_code Done = 0
status_code Inserted = 1
status_code Updated = 2
status_code ExpiredExisting = 3
status_code NonHttpScheme = 10
status_code NonRelativeScheme = 11
status_code DomainMismatch = 12
status_code Expired = 13
status_code Parse = 14
status_code PublicSuffix = 15
status_code UnspecifiedDomain = 16
status_code NoMemory = 20
status_code BadUrl = 21
status_code NotUtf8 = 22
status_code BadTime = 23
status_code NoStore = 24
status_code HasStore = 25
status_code NoRoom = 26
status_code NotFound = 27
status_code BadLimit = 28
status_code BadOption = 29
status_code BadRule = 30
status_code BadJson = 31
status_code BadShape = 32
status_code BadRon = 33
status_code BadExpiry = 34
status_code BadLine = 35
status_code Unrepresentable = 36
status_code NoRules = 37
status_code NoList = 38
status_code ControlCharacter = 40
status_code TooLong = 41
status_code InsecureUrl = 42
status_code InsecureSameSiteNone = 43
status_code Prefix = 44
status_code SecureStored = 45
status_code SecureLimit = 46
status_code CrossSiteResponse = 47

-- the status of an insertion error
abbrev pub cookie_error_status : CookieError → Status
cookie_error_status CookieCase.NonHttpScheme = NonHttpScheme
cookie_error_status CookieCase.NonRelativeScheme = NonRelativeScheme
cookie_error_status CookieCase.DomainMismatch = DomainMismatch
cookie_error_status CookieCase.Expired = Expired
cookie_error_status CookieCase.Parse = Parse
cookie_error_status CookieCase.PublicSuffix = PublicSuffix
cookie_error_status CookieCase.UnspecifiedDomain = UnspecifiedDomain
cookie_error_status CookieCase.Memory = NoMemory

-- the status of an insertion error under the rules of browsers
abbrev pub strict_error_status : StrictError → Status
strict_error_status StrictCase.ControlCharacter = ControlCharacter
strict_error_status StrictCase.TooLong = TooLong
strict_error_status (StrictCase.Cookie error) = cookie_error_status error
strict_error_status StrictCase.CrossSite = CrossSiteResponse
strict_error_status StrictCase.InsecureUrl = InsecureUrl
strict_error_status StrictCase.InsecureSameSiteNone = InsecureSameSiteNone
strict_error_status StrictCase.Prefix = Prefix
strict_error_status StrictCase.SecureStored = SecureStored
strict_error_status StrictCase.SecureLimit = SecureLimit

-- the status of a reply of the store
abbrev pub reply_status : Reply → Status
reply_status (Stored (Ok ActionCase.Inserted)) = Inserted
reply_status (Stored (Ok ActionCase.UpdatedExisting)) = Updated
reply_status (Stored (Ok ActionCase.ExpiredExisting)) = ExpiredExisting
reply_status (Stored (Err rejection)) = cookie_error_status rejection
reply_status (Removed (Some row)) = Done
reply_status (Removed None) = NotFound
reply_status Cleared = Done

-- the status of a failed save or load; no list fails with `Io`, `Idna` or `Other`
abbrev pub error_status : Error → Status
error_status (ErrorCase.Cookie rejection) = cookie_error_status rejection
error_status (ErrorCase.Saved SavedCase.Json) = BadJson
error_status (ErrorCase.Saved SavedCase.Shape) = BadShape
error_status (ErrorCase.Saved SavedCase.Ron) = BadRon
error_status (ErrorCase.Saved SavedCase.Moment) = BadExpiry
error_status ErrorCase.NotUtf8 = NotUtf8
error_status (ErrorCase.Saved SavedCase.Memory) = NoMemory
error_status ErrorCase.Memory = NoMemory
error_status ErrorCase.Io = NoMemory
error_status (ErrorCase.Idna why) = NoMemory
error_status (ErrorCase.Other text) = NoMemory

-- the status of a failed save or load in a format
abbrev pub format_error_status : FormatError → Status
format_error_status (FormatCase.Store error) = error_status error
format_error_status (FormatCase.BadLine line) = BadLine
format_error_status FormatCase.Unrepresentable = Unrepresentable

-- the number is that of a status with this property
abbrev pub IsCodeOf : ℕ → (Status → Type 0) → Type 0
IsCodeOf code Holds = (status : Status) × (code ≡ status_code status) × Holds status
