use Rattle.std.proofs.Common.{◌≡◌, map, sym, ap, ◌∙◌}
use Rattle.std.specs.Option.{option_copied}
use Rattle.std.proofs.lemmas.Iterator.Consumers.{YieldsList-end}
use Rattle.cookie_raw.specs.Rfc6265bis.{domain_by, last_by, max_age_by, same_site_by}
use Rattle.cookie_raw.specs.SetCookie.{attributes_after, expires_from, http_only_from, path_from, secure_from}
use Rattle.cookie_raw.proofs.LastGiven.{domain_by-push, last_by-push, same_site_by-push}
use Rattle.cookie_raw.proofs.Pieces.{yields_pieces}
use Rattle.cookie_raw.proofs.attributes.Attributes.of.Goals as goal

pub loop-piece-preserved : goal.loop-piece-preserved
loop-piece-preserved c = record {
  domain = rw (c.take.ensures.domain, domain_by-push c.args.syntax c.loop-piece.yielded c.in-Some-piece.piece, c.loop-piece.invariant.domain);
  path = rw (c.take.ensures.path, last_by-push c.args.syntax path_from c.loop-piece.yielded c.in-Some-piece.piece, c.loop-piece.invariant.path);
  secure = rw (c.take.ensures.secure, last_by-push c.args.syntax secure_from c.loop-piece.yielded c.in-Some-piece.piece, c.loop-piece.invariant.secure);
  http_only = rw (c.take.ensures.http_only, last_by-push c.args.syntax http_only_from c.loop-piece.yielded c.in-Some-piece.piece, c.loop-piece.invariant.http_only);
  same_site = rw (c.take.ensures.same_site, same_site_by-push c.args.syntax c.loop-piece.yielded c.in-Some-piece.piece, c.loop-piece.invariant.same_site);
  max_age = rw (c.take.ensures.max_age, last_by-push c.args.syntax (max_age_by c.args.syntax) c.loop-piece.yielded c.in-Some-piece.piece, c.loop-piece.invariant.max_age);
  expires = rw (c.take.ensures.expires, last_by-push c.args.syntax expires_from c.loop-piece.yielded c.in-Some-piece.piece, c.loop-piece.invariant.expires);
}

-- the pieces that the loop visited are the attributes
walked : (c : goal.In-None) → map (λ x. x.now) c.loop-piece.yielded ≡ attributes_after (option_copied c.args.rest)
walked c =
    let road = yields_pieces c.in-Some.text.now c.split-piece-items.ensures.text c.split-piece-items.ensures.has_more c.split-piece-items.ensures.pattern c.into_iter-piece-iterator.ensures.into_iter_gives in
    (YieldsList-end road c.loop-piece.yielded _ c.loop-piece.yielded_by _ _ c.in-None.is c.next.ensures.steps).0
    ∙ ap (λ rest. attributes_after (option_copied rest)) (sym c.in-Some.is)

pub returns-clause-domain : goal.returns-clause-domain
returns-clause-domain c = c.loop-piece.invariant.domain ∙ ap (domain_by c.args.syntax) (walked c)

pub returns-clause-path : goal.returns-clause-path
returns-clause-path c = c.loop-piece.invariant.path ∙ ap (last_by c.args.syntax path_from) (walked c)

pub returns-clause-secure : goal.returns-clause-secure
returns-clause-secure c = c.loop-piece.invariant.secure ∙ ap (last_by c.args.syntax secure_from) (walked c)

pub returns-clause-http_only : goal.returns-clause-http_only
returns-clause-http_only c = c.loop-piece.invariant.http_only ∙ ap (last_by c.args.syntax http_only_from) (walked c)

pub returns-clause-same_site : goal.returns-clause-same_site
returns-clause-same_site c = c.loop-piece.invariant.same_site ∙ ap (same_site_by c.args.syntax) (walked c)

pub returns-clause-max_age : goal.returns-clause-max_age
returns-clause-max_age c = c.loop-piece.invariant.max_age ∙ ap (last_by c.args.syntax (max_age_by c.args.syntax)) (walked c)

pub returns-clause-expires : goal.returns-clause-expires
returns-clause-expires c = c.loop-piece.invariant.expires ∙ ap (last_by c.args.syntax expires_from) (walked c)
