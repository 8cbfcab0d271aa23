use Rattle.std.proofs.Common.{lit<}
use Rattle.cookie_raw.proofs.Pieces.{attributes-after_first, attributes-none}
use Rattle.cookie_raw.proofs.raw_cookie.pair_and_rest.Goals as goal

pub returns-in-Some-clause-rest : goal.returns-in-Some-clause-rest
returns-in-Some-clause-rest c =
    let split = c.in-Some.ensures.byte (lit< tt) (λ text found finds. finds) in
    rw split.1 (attributes-after_first c.args.text.now split.2)

pub returns-in-None-clause-rest : goal.returns-in-None-clause-rest
returns-in-None-clause-rest c =
    attributes-none c.args.text.now (c.in-None.ensures.byte (lit< tt) (λ text found finds. finds))
