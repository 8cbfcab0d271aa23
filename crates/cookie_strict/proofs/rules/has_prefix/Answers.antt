use Rattle.std.proofs.Common.{◌≡◌, length, take}
use Rattle.std.proofs.Math.Nat.{min_comm}
use Rattle.std.proofs.lemmas.List.{take_min}
use Rattle.cookie_strict.proofs.Letters.{same_letters}
use Rattle.cookie_strict.proofs.rules.has_prefix.Goals as goal

pub returns : goal.returns
returns c =
    let name = c.args.name.now in
    let n = length c.args.prefix.now in
    let prefix : take c.min.result name ≡ take n name = rw (c.min.ensures, min_comm (length name) n) (take_min n name) in
    rw prefix at (same_letters c.eq_ignore_ascii_case.result (take c.min.result name) c.args.prefix.now c.eq_ignore_ascii_case.ensures.test)
