-- The messages of the draft's errors.
use Rattle.std.specs.Prelude.{ℕ, List, codes}
use Rattle.cookie_parts.specs.Errors.{cookie_error_text}
use Rattle.cookie_strict.specs.declared.error.StrictError.{StrictError}
use Rattle.cookie_strict.specs.declared.error.StrictError.TheVariants.{ControlCharacter, TooLong, Cookie, CrossSite, InsecureUrl, InsecureSameSiteNone, Prefix, SecureStored, SecureLimit}

-- the message of an error
abbrev pub strict_error_text : StrictError → List ℕ
strict_error_text ControlCharacter = codes "Set-Cookie value has a control character"
strict_error_text TooLong = codes "name and value are longer than 4096 bytes"
strict_error_text (Cookie error) = cookie_error_text error
strict_error_text CrossSite = codes "cookie of a cross-site response is not SameSite=None"
strict_error_text InsecureUrl = codes "cookie is Secure but request-uri is not secure"
strict_error_text InsecureSameSiteNone = codes "cookie has SameSite=None but is not Secure"
strict_error_text Prefix = codes "cookie lacks what the prefix of its name demands"
strict_error_text SecureStored = codes "cookie would overlay a stored Secure cookie"
strict_error_text SecureLimit = codes "domain has its limit of Secure cookies"
