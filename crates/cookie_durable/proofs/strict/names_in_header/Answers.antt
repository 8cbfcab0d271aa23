use Rattle.cookie_durable.proofs.strict.names_in_header.Goals as goal

pub returns-clause-key : goal.returns-clause-key
returns-clause-key g c = rw c.in_ok-created.ensures c.names_if_created.ensures.key

pub returns-clause-none : goal.returns-clause-none
returns-clause-none g c = rw c.in_ok-created.ensures c.names_if_created.ensures.none

pub returns-clause-reason : goal.returns-clause-reason
returns-clause-reason g c = rw c.in_ok-created.ensures c.names_if_created.ensures.reason

pub returns-clause-early : goal.returns-clause-early
returns-clause-early g c = c.names_if_created.ensures.early
