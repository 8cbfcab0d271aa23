-- How a function's result relates to what a definition expects: equal to that, unless out of memory.
use Rattle.std.specs.Prelude.{◌≡◌, ℕ, List, Option, Some, None, Result, Ok, Err, ⊤}
use Rattle.std.specs.Cow.{cow_str_bytes}
use Rattle.std.specs.declared.alloc.Global.{Global}
use Rattle.std.specs.declared.borrow.CowStr.{CowStr}
use Rattle.cookie_parts.specs.Domain.{DomainValue}
use Rattle.cookie_parts.specs.Views.{domain_value}
use Rattle.cookie_parts.specs.declared.cookie_domain.CookieDomain.{CookieDomain}
use Rattle.cookie_parts.specs.declared.cookie_error.CookieError.{CookieError}
use Rattle.cookie_parts.specs.declared.cookie_error.CookieError.TheVariants.{Memory}
use Rattle.cookie_parts.specs.declared.error.Error.{Error}
use Rattle.cookie_parts.specs.declared.error.Error.TheVariants as ErrorCase

-- the result, with its value seen by `view`, is as expected, error included, unless it is `Memory`
abbrev pub ReturnsOrMemory : {T U : Type 0} → (T → U) → Result T CookieError → Result U CookieError → Type 0
ReturnsOrMemory view (Ok value) expected = expected ≡ Ok (view value)
ReturnsOrMemory view (Err Memory) expected = ⊤
ReturnsOrMemory view (Err rejection) expected = expected ≡ Err rejection

-- the result is the domain, or `Idna` if there is none, unless it is `Memory`
abbrev pub ReturnsDomain : Result CookieDomain Error → Option DomainValue → Type 0
ReturnsDomain (Ok domain) expected = expected ≡ Some (domain_value domain)
ReturnsDomain (Err (ErrorCase.Idna fault)) expected = expected ≡ None
ReturnsDomain (Err ErrorCase.Memory) expected = ⊤
ReturnsDomain (Err other) expected = ⊥

-- the same for a domain name in ASCII
abbrev pub ReturnsAscii : Result (CowStr Global) Error → Option (List ℕ) → Type 0
ReturnsAscii (Ok text) expected = expected ≡ Some (cow_str_bytes text)
ReturnsAscii (Err (ErrorCase.Idna fault)) expected = expected ≡ None
ReturnsAscii (Err ErrorCase.Memory) expected = ⊤
ReturnsAscii (Err other) expected = ⊥
