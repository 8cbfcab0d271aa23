use Rattle.std.proofs.Common.{◌==◌, ap, ◌∙◌}
use Rattle.std.specs.List.{before_first}
use Rattle.cookie_inputs.specs.Urls.{host_end}
use Rattle.cookie_inputs.proofs.urls.host_in.Goals as goal

pub returns : goal.returns
returns c =
    c.before_first.ensures ∙ ap (λ end. before_first (λ b. b == end) c.after_last-place.result.now) c.host_end.ensures
    ∙ ap (λ place. before_first (λ b. b == host_end place) place) c.after_last-place.ensures
