-- The cookies of saved forms.
use Rattle.std.specs.Prelude.{◌≡◌, List, [], ◌∷◌, Result, Ok}
use Rattle.std.specs.Result.{result_map_both}
use Rattle.cookie_words.specs.Moments.{Moment}
use Rattle.cookie_forms.specs.Saved.{Parts}
use Rattle.cookie_forms.specs.declared.error.SavedError.{SavedError}
use Rattle.cookie_parts.specs.Cookie.{Row, and_then}
use Rattle.cookie_parts.specs.SavedConversion.{cookie_of_saved}
use Rattle.cookie_parts.specs.declared.cookie_error.CookieError.{CookieError}
use Rattle.cookie_parts.specs.declared.error.Error.{Error}
use Rattle.cookie_parts.specs.declared.error.Error.TheVariants.{Cookie, Saved}
use Rattle.cookie_laws.specs.Rows.{RowsInOrder}
use Rattle.cookie_serde.specs.Selections.{built_from}
use Rattle.cookie_serde.specs.declared.which.Which.{Which}

-- the cookie of a saved form that was read, or the error
abbrev pub read_cookie : Result (Parts Moment) SavedError → Result Row Error
read_cookie reported =
    and_then (result_map_both (λ saved. saved) Saved reported)
    (λ saved. result_map_both (λ cookie. cookie) Cookie (cookie_of_saved saved))

-- the cookies of saved forms, or the error of the first that has no cookie
abbrev pub cookies_of_saved : List (Parts Moment) → Result (List Row) CookieError
cookies_of_saved [] = Ok []
cookies_of_saved (form ∷ forms) =
    and_then (cookie_of_saved form) (λ cookie.
    result_map_both (λ cookies. cookie ∷ cookies) (λ fault. fault) (cookies_of_saved forms))

-- the cookies of a list that was read, or the error
abbrev pub read_cookies : Result (List (Parts Moment)) SavedError → Result (List Row) Error
read_cookies reported =
    and_then (result_map_both (λ list. list) Saved reported)
    (λ list. result_map_both (λ cookies. cookies) Cookie (cookies_of_saved list))

-- the rows built from those of the cookies of saved forms that are loaded
abbrev pub BuildsFromSaved : List (Parts Moment) → Which → RowsInOrder → Type 0
BuildsFromSaved forms which kept =
    (cookies : List Row) × (cookies_of_saved forms ≡ Ok cookies) × (kept ≡ built_from which cookies)
