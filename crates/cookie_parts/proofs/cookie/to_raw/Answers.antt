use Rattle.std.proofs.Common.{◌≡◌, Option, Some, None, refl, rules}
use Rattle.std.specs.Option.{option_or}
use Rattle.cookie_parts.specs.Cookie.{domain_attribute, expires_attribute, path_attribute}
use Rattle.cookie_parts.specs.Views.{domain_value, expiry_value}
use Rattle.cookie_parts.proofs.cookie.to_raw.Goals as goal

-- `option_or` with `None` is the value itself
or_nothing : {T : Type 0} (value : Option T) → option_or value None ≡ value
or_nothing None = refl
or_nothing (Some x) = refl

pub returns : goal.returns
returns c =
    rw (
      c.build.ensures,
      c.with_domain.ensures,
      c.with_path.ensures,
      c.with_expiration-builder.ensures,
      c.in_ok-builder.ensures,
      or_nothing (expires_attribute (expiry_value c.cookie.inside.expires)),
      or_nothing (path_attribute c.cookie.inside.path),
      or_nothing (domain_attribute (domain_value c.cookie.inside.domain)),
    )
    (search rules)
