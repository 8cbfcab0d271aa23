use Rattle.cookie_strict.specs.HeaderValue.{strict_cookie}
use Rattle.cookie_strict.proofs.SecureRows.{calls-left, insertion-left, set-left}
use Rattle.cookie_strict.proofs.laws.secure_is_left_alone.Goals as goal

pub returns-clause-inserted : goal.returns-clause-inserted
returns-clause-inserted c cookie url now store key row insecure held unexpired secure =
    insertion-left c.path_match_is_tested.ensures c.keeps_other_rows.ensures c.evictions_are_removals.ensures.evicts_no_more c.evictions_are_removals.ensures.secure_stays
    url now key row insecure unexpired secure store cookie held

pub returns-clause-set : goal.returns-clause-set
returns-clause-set c text url now store key row insecure held unexpired secure =
    set-left c.path_match_is_tested.ensures c.keeps_other_rows.ensures c.evictions_are_removals.ensures.evicts_no_more c.evictions_are_removals.ensures.secure_stays
    url now key row insecure unexpired secure store (strict_cookie text url now) held

pub returns-clause-runs : goal.returns-clause-runs
returns-clause-runs c calls store key row all secure held =
    calls-left c.path_match_is_tested.ensures c.keeps_other_rows.ensures c.evictions_are_removals.ensures.evicts_no_more c.evictions_are_removals.ensures.secure_stays
    calls store key row all secure held
