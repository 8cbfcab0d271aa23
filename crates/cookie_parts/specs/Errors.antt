-- The error messages, and the conversions between error types.
use Rattle.std.specs.Prelude.{ℕ, List, codes, Option, Some, None, string_bytes}
use Rattle.idna.specs.Errors.{errors_text}
use Rattle.idna.specs.declared.Errors.{Errors}
use Rattle.idna.specs.declared.Errors.TheVariants as Idna
use Rattle.cookie_forms.specs.Errors.{saved_error_text}
use Rattle.cookie_forms.specs.declared.error.SavedError.{SavedError}
use Rattle.cookie_forms.specs.declared.error.SavedError.TheVariants as Saved
use Rattle.cookie_parts.specs.declared.cookie_error.CookieError.{CookieError}
use Rattle.cookie_parts.specs.declared.cookie_error.CookieError.TheVariants.{NonHttpScheme, NonRelativeScheme, DomainMismatch, Expired, Parse, PublicSuffix, UnspecifiedDomain, Memory}
use Rattle.cookie_parts.specs.declared.error.Error.{Error}
use Rattle.cookie_parts.specs.declared.error.Error.TheVariants as ErrorCase

-- the message of an error about one cookie
abbrev pub cookie_error_text : CookieError → List ℕ
cookie_error_text NonHttpScheme = codes "request-uri is not an http scheme but HttpOnly attribute set"
cookie_error_text NonRelativeScheme = codes "request-uri is not a relative scheme; cannot determine host"
cookie_error_text DomainMismatch = codes "request-uri does not domain-match the cookie"
cookie_error_text Expired = codes "attempted to utilize an Expired Cookie"
cookie_error_text Parse = codes "unable to parse string as cookie::Cookie"
cookie_error_text PublicSuffix = codes "domain-attribute value is a public suffix"
cookie_error_text UnspecifiedDomain = codes "domain-attribute is not specified"
cookie_error_text Memory = codes "out of memory"

-- the message of an error of other calls; those of `idna`, saved forms and the caller have their own
abbrev pub store_error_text : Error → List ℕ
store_error_text (ErrorCase.Cookie rejection) = cookie_error_text rejection
store_error_text (ErrorCase.Idna errors) = errors_text errors.fault
store_error_text ErrorCase.Io = codes "a read or a write failed"
store_error_text (ErrorCase.Saved fault) = saved_error_text fault
store_error_text (ErrorCase.Other text) = string_bytes text
store_error_text ErrorCase.Memory = codes "out of memory"
store_error_text ErrorCase.NotUtf8 = codes "the input is not UTF-8"

-- the same if printed with a width or other options, which have no effect; not specified for `Idna`
abbrev pub styled_error_text : Error → Option (List ℕ)
styled_error_text (ErrorCase.Idna errors) = None
styled_error_text other = Some (store_error_text other)

-- the conversion from `CookieError`: out of memory is `Memory`, not `Cookie`
abbrev pub error_from_cookie : CookieError → Error
error_from_cookie Memory = ErrorCase.Memory
error_from_cookie rejection = ErrorCase.Cookie rejection

-- the conversion from `idna::Errors`: out of memory is `Memory`, not `Idna`
abbrev pub error_from_idna : Errors → Error
error_from_idna Idna.Invalid = ErrorCase.Idna (record { fault = Idna.Invalid })
error_from_idna Idna.OutOfMemory = ErrorCase.Memory

-- the conversion from `SavedError`: out of memory is `Memory`, not `Saved`
abbrev pub error_from_saved : SavedError → Error
error_from_saved Saved.Memory = ErrorCase.Memory
error_from_saved fault = ErrorCase.Saved fault
