use Rattle.std.proofs.Common.{sym, subst}
use Rattle.std.specs.List.{All}
use Rattle.std.proofs.lemmas.List.Elements.{All-weaker}
use Rattle.cookie_laws.specs.Confinement.{IsConfined}
use Rattle.cookie_laws.specs.Contents.{Contents}
use Rattle.cookie_laws.specs.Given.{given}
use Rattle.cookie_laws.specs.Runs.{rows_after}
use Rattle.cookie_strict.specs.SiteRule.{IsConfinedToSite}
use Rattle.cookie_strict.specs.StrictRuns.{allowed_calls}
use Rattle.cookie_strict.proofs.SiteCookies.{confined-to_site}
use Rattle.cookie_strict.proofs.laws.confined_to_site.Goals as goal

pub returns : goal.returns
returns c rules url now calls store empty list =
    let allowed = allowed_calls calls store in
    subst (λ (s : Contents). All (IsConfinedToSite rules allowed store url) (given url now s.rows)) (sym (c.strict_is_a_filter.ensures calls store))
    (All-weaker (IsConfined allowed store url) (IsConfinedToSite rules allowed store url) (λ cookie. confined-to_site rules url calls store cookie list)
    (given url now (rows_after allowed store)) (c.confined.ensures.given url now allowed store empty))
