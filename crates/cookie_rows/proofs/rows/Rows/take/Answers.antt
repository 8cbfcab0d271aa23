use Rattle.std.proofs.Common.{◌≡◌, [], ◌∷◌, rules}
use Rattle.std.proofs.lemmas.Result.{on_ok_weaker}
use Rattle.cookie_words.specs.Moments.{moment_of}
use Rattle.cookie_laws.specs.Rows.{included}
use Rattle.cookie_rows.proofs.Built.{takes_put}
use Rattle.cookie_rows.proofs.rows.Rows.take.Goals as goal
use Rattle.cookie_rows.proofs.rows.Rows.take.Goals.{then-include_expired-via-then-include_expired, then-include_expired-via-else-include_expired+then-not-is_expired}

pub returns-then-include_expired-clause-built : goal.returns-then-include_expired-clause-built
returns-then-include_expired-clause-built c =
    let counts : included c.args.include_expired (moment_of c.args.now) (c.args.cookie ∷ []) ≡ c.args.cookie ∷ []
    = elim c.then-include_expired.branch [
      | then-include_expired-via-then-include_expired w ↦ search rules
      | then-include_expired-via-else-include_expired+then-not-is_expired w ↦ search rules
    ] in
    on_ok_weaker c.put.result (takes_put _ _ c.args.cookie c.args.self.now c.put.new.self counts) c.put.ensures.put
