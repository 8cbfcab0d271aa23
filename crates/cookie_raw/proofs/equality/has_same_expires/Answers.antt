-- `jiff` compares times by their nanoseconds.
use Rattle.std.proofs.Common.{◌≡◌, Option, Some, None, refl, option_map, ◌∙◌}
use Rattle.std.specs.Option.{option_eq}
use Rattle.jiff_core.specs.DateTime.{civil_nanos}
use Rattle.cookie_words.specs.Moments.{nanoseconds}
use Rattle.cookie_raw.specs.SameParts.{same_expires}
use Rattle.cookie_raw.specs.Views.{expires_value}
use Rattle.cookie_raw.specs.contracts.expiration.ExpirationPartialEq.TheImpl.{eq-value}
use Rattle.cookie_raw.specs.declared.expiration.Expiration.{Expiration}
use Rattle.cookie_raw.specs.declared.expiration.Expiration.TheVariants.{DateTime, Session}
use Rattle.cookie_raw.proofs.equality.has_same_expires.Goals as goal

same_end : (a b : Option Expiration) → option_eq eq-value.it a b ≡ option_eq same_expires (option_map expires_value a) (option_map expires_value b)
unfolding civil_nanos nanoseconds
same_end None None = refl
same_end None (Some b) = refl
same_end (Some a) None = refl
same_end (Some (DateTime a)) (Some (DateTime b)) = refl
same_end (Some (DateTime a)) (Some Session) = refl
same_end (Some Session) (Some (DateTime b)) = refl
same_end (Some Session) (Some Session) = refl

pub returns : goal.returns
returns c = c.eq.ensures ∙ same_end c.args.expires c.args.other
