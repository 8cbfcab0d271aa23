use Rattle.std.proofs.Common.{◌∙◌}
use Rattle.cookie_rows.proofs.StoredPositions.{domains_counted}
use Rattle.cookie_rows.proofs.map_search.MapSearchListedSearch.domain_count.Goals as goal

pub returns : goal.returns
returns c = c.len.ensures.len ∙ domains_counted c.args.self.now.groups.now
