use Rattle.cookie_words.specs.Moments.{moment_of}
use Rattle.cookie_lookup.proofs.FoundPositions.{found_sorted}
use Rattle.cookie_lookup.proofs.finding.found.Goals as goal

pub returns-clause-positions : goal.returns-clause-positions
returns-clause-positions g c =
    found_sorted c.args.url.now (moment_of c.args.now) (g.S.Search.view_of c.args.search.now).groups c.in_ok-positions.positions.items c.sort_unstable.new.self.items
    c.in_ok-positions.ensures.positions c.sort_unstable.ensures.permutation c.sort_unstable.ensures.sorted
