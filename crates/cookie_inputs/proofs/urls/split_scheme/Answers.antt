use Rattle.std.proofs.Common.{lit<}
use Rattle.cookie_inputs.specs.Urls.{is_colon}
use Rattle.cookie_inputs.proofs.Positions.{nothing_after, whole_before}
use Rattle.cookie_inputs.proofs.urls.split_scheme.Goals as goal

pub returns-in-Some : goal.returns-in-Some
returns-in-Some c =
    let split = c.in-Some.ensures.byte (lit< tt) (λ text found finds. finds) in
    record { scheme = split.0; rest = split.1 }

pub returns-in-None : goal.returns-in-None
returns-in-None c =
    let none = c.in-None.ensures.byte (lit< tt) (λ text found finds. finds) in
    record { scheme = whole_before is_colon c.args.url.now none; rest = nothing_after is_colon c.args.url.now none }
