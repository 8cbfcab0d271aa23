-- A cookie that is inserted has no row yet.
use Rattle.std.proofs.Common.{◌≡◌, Option, Ok, None, Some, arith, refl}
use Rattle.url.specs.Parts.{Parts}
use Rattle.cookie_words.specs.Moments.{Moment}
use Rattle.cookie_parts.specs.Cookie.{Row}
use Rattle.cookie_parts.specs.declared.store_action.StoreAction.TheVariants.{Inserted}
use Rattle.cookie_laws.specs.Acceptance.{reply_at}

pub inserted_is_new : (row : Option Row) (cookie : Row) (url : Parts) (now : Moment) → reply_at row cookie url now ≡ Ok Inserted → row ≡ None
inserted_is_new None cookie url now is = refl
inserted_is_new (Some row) cookie url now is = absurd (grind (arith, is))
