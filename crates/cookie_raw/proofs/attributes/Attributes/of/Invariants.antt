use Rattle.std.proofs.Common.{◌≡◌, map, option_map}
use Rattle.std.specs.Option.{option_copied}
use Rattle.jiff.specs.Words.{signed_nanos}
use Rattle.cookie_raw.specs.Rfc6265bis.{domain_by, last_by, max_age_by, same_site_by}
use Rattle.cookie_raw.specs.SetCookie.{expires_from, http_only_from, path_from, secure_from}
use Rattle.cookie_raw.specs.Views.{expires_value}
use Rattle.cookie_raw.proofs.attributes.Attributes.of.Given as goal

abbrev pub invariant-loop-piece : goal.invariant-loop-piece
invariant-loop-piece l = record {
  domain : option_copied l.found.domain ≡ domain_by l.syntax (map (λ x. x.now) l.yielded);
  path : option_copied l.found.path ≡ last_by l.syntax path_from (map (λ x. x.now) l.yielded);
  secure : l.found.secure ≡ last_by l.syntax secure_from (map (λ x. x.now) l.yielded);
  http_only : l.found.http_only ≡ last_by l.syntax http_only_from (map (λ x. x.now) l.yielded);
  same_site : l.found.same_site ≡ same_site_by l.syntax (map (λ x. x.now) l.yielded);
  max_age : option_map signed_nanos l.found.max_age ≡ last_by l.syntax (max_age_by l.syntax) (map (λ x. x.now) l.yielded);
  expires : option_map expires_value l.found.expires ≡ last_by l.syntax expires_from (map (λ x. x.now) l.yielded);
}
