use Rattle.cookie_rows.proofs.paths.Paths.put.Goals as goal

pub returns-then-is_some-clause-put : goal.returns-then-is_some-clause-put
returns-then-is_some-clause-put c = c.replace.ensures c.args.number
