-- Rows that are built from all cookies.
use Rattle.std.proofs.Common.{◌≡◌, List, ap, true}
use Rattle.cookie_words.specs.Moments.{epoch}
use Rattle.cookie_parts.specs.Cookie.{Row}
use Rattle.cookie_laws.specs.Rows.{built}
use Rattle.cookie_serde.specs.Selections.{built_from, built_of}
use Rattle.cookie_serde.specs.declared.which.Which.TheVariants.{All}
use Rattle.cookie_serde.proofs.SavedLines.{filter-all}

-- they are built from each of them
pub built_all : (cookies : List Row) → built_from All cookies ≡ built true epoch cookies
built_all cookies = ap built_of (filter-all cookies)
