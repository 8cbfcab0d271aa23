-- The error messages of saved cookies.
use Rattle.std.specs.Prelude.{ℕ, List, codes}
use Rattle.cookie_forms.specs.declared.error.SavedError.{SavedError}
use Rattle.cookie_forms.specs.declared.error.SavedError.TheVariants.{Json, Shape, Ron, Moment, Memory}

-- the message of an error
abbrev pub saved_error_text : SavedError → List ℕ
saved_error_text Json = codes "the input is not JSON"
saved_error_text Shape = codes "a value is not a saved cookie"
saved_error_text Ron = codes "the input is not a list in RON"
saved_error_text Moment = codes "an expiry is not a valid time, or is before the year 0"
saved_error_text Memory = codes "out of memory"
