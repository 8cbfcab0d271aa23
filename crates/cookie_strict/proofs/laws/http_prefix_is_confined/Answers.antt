use Rattle.std.proofs.Common.{sym, subst}
use Rattle.std.specs.List.{All}
use Rattle.std.proofs.lemmas.List.Elements.{All-weaker}
use Rattle.cookie_laws.specs.Confinement.{WasAccepted}
use Rattle.cookie_laws.specs.Contents.{Contents}
use Rattle.cookie_laws.specs.Runs.{rows_after}
use Rattle.cookie_strict.specs.HttpPrefix.{IsSetByHttpIfNamed}
use Rattle.cookie_strict.specs.StrictRuns.{allowed_calls}
use Rattle.cookie_strict.proofs.HttpCookies.{accepted_http}
use Rattle.cookie_strict.proofs.laws.http_prefix_is_confined.Goals as goal

pub returns : goal.returns
returns c calls store empty =
    let allowed = allowed_calls calls store in
    subst (λ (s : Contents). All (IsSetByHttpIfNamed allowed store) s.rows) (sym (c.strict_is_a_filter.ensures calls store))
    (All-weaker (WasAccepted allowed store) (IsSetByHttpIfNamed allowed store) (accepted_http calls store) (rows_after allowed store) (c.accepted.ensures allowed store empty))
