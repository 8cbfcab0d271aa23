-- How a C program asks for a store to be saved or loaded: a format, and which cookies, each by a number.
use Rattle.std.specs.Prelude.{ℕ, ◌==◌, Bool, true, false, nat_lt, Result, Ok, Err, if◌then◌else◌, ℤ}
use Rattle.cookie_words.specs.Moments.{Moment}
use Rattle.cookie_parts.specs.Cookie.{Row, and_then}
use Rattle.cookie_laws.specs.Rows.{is_unexpired}
use Rattle.cookie_serde.specs.Saving.{is_saved}
use Rattle.cookie_serde.specs.Selections.{is_selected}
use Rattle.cookie_serde.specs.declared.format.Format.{Format}
use Rattle.cookie_serde.specs.declared.format.Format.TheVariants.{Json, Ron, Netscape}
use Rattle.cookie_store_c.specs.Inputs.{moment_in}
use Rattle.cookie_store_c.specs.declared.options.Options.{Options}
use Rattle.cookie_store_c.specs.declared.status.Status.{Status}
use Rattle.cookie_store_c.specs.declared.status.Status.TheVariants.{BadOption}

-- a format, whether what does not fit it is left out, and which cookies are saved or loaded
pub record Chosen : Type 0 where
  pub format : Format
  pub is_lenient : Bool
  pub selects : Row → Bool

-- what these options choose
abbrev pub view : Options → Chosen
view options = record { format = options.format; is_lenient = options.is_lenient; selects = is_selected options.which }

-- the format of a number, and whether what does not fit it is left out
abbrev pub format_in : ℕ → Result (Format × Bool) Status
format_in number =
    if number == 0 then Ok (Json, false) else
    if number == 1 then Ok (Ron, false) else
    if number == 2 then Ok (Netscape, false) else
    if number == 3 then Ok (Netscape, true) else Err BadOption

-- the cookies of a number at a time: all, those that have not expired, or the persistent ones of these
abbrev pub selection : ℕ → Moment → Row → Bool
selection number now =
    if number == 0 then (λ row. true) else
    if number == 1 then is_unexpired now else is_saved now

-- the same for a time in seconds
abbrev pub selection_in : ℕ → ℤ → Result (Row → Bool) Status
selection_in number now =
    if nat_lt 2 number then Err BadOption else and_then (moment_in now) (λ moment. Ok (selection number moment))

-- what two numbers choose at a time
abbrev pub options_in : ℕ → ℕ → ℤ → Result Chosen Status
options_in format which now =
    and_then (format_in format) (λ form. and_then (selection_in which now)
    (λ selects. Ok (record { format = form.0; is_lenient = form.1; selects = selects })))
