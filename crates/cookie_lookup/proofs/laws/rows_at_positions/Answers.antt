use Rattle.cookie_laws.specs.Given.{is_given}
use Rattle.cookie_lookup.proofs.Bounds.{found_are}
use Rattle.cookie_lookup.proofs.FoundPairs.{pairs_are}
use Rattle.cookie_lookup.proofs.GivenRows.{rows_given, as_many_given}
use Rattle.cookie_lookup.proofs.laws.rows_at_positions.Goals as goal

pub returns-clause-rows : goal.returns-clause-rows
returns-clause-rows c = λ url now groups. rows_given (is_given url now) groups

pub returns-clause-count : goal.returns-clause-count
returns-clause-count c = λ url now groups. as_many_given (is_given url now) groups

pub returns-clause-found : goal.returns-clause-found
returns-clause-found c = found_are

pub returns-clause-pairs_found : goal.returns-clause-pairs_found
returns-clause-pairs_found c = pairs_are
