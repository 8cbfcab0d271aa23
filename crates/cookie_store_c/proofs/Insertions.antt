-- The insertion of a cookie whose parts were read.
use Rattle.std.proofs.Common.{◌≡◌, ℕ, List, Result, Ok, ap, ◌∙◌, ℤ}
use Rattle.url.specs.Parts.{Parts}
use Rattle.cookie_words.specs.Moments.{Moment}
use Rattle.cookie_parts.specs.Cookie.{Row, and_then}
use Rattle.cookie_store_c.specs.InsertedCookies.{cookie_and_time, expressible, host_page, insertion}
use Rattle.cookie_store_c.specs.declared.cookie_row.CookieRow.{CookieRow}
use Rattle.cookie_store_c.specs.declared.status.Status.{Status}

-- a cookie that a server could set is inserted from its page, or there is the error of the page
pub from_page : (domain path name value : List ℕ) (row : CookieRow) (now : ℤ) (read : Row × Moment) (cookie : Row) (page : Result Parts Status)
    → cookie_and_time domain path name value row now ≡ Ok read → expressible read.0 ≡ Ok cookie → host_page cookie ≡ page
    → insertion domain path name value row now ≡ and_then page (λ p. Ok (cookie, p, read.1))
from_page domain path name value row now read cookie page is made found =
    ap (λ r. and_then r (λ inputs. and_then (expressible inputs.0) (λ c. and_then (host_page c) (λ p. Ok (c, p, inputs.1))))) is
    ∙ ap (λ r. and_then r (λ c. and_then (host_page c) (λ p. Ok (c, p, read.1)))) made
    ∙ ap (λ r. and_then r (λ p. Ok (cookie, p, read.1))) found
