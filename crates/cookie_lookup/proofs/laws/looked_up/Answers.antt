use Rattle.cookie_parts.specs.Domain.{domain_text}
use Rattle.cookie_lookup.proofs.CandidateDomains.{related_differ, length_related, related_texts_are}
use Rattle.cookie_lookup.proofs.CandidatePaths.{path_differ, length_paths}
use Rattle.cookie_lookup.proofs.CoveringPaths.{covering_among, path_texts_are}
use Rattle.cookie_lookup.proofs.RelatedRows.{given_path, related_among}
use Rattle.cookie_lookup.proofs.laws.looked_up.Goals as goal

pub returns-clause-domains : goal.returns-clause-domains
returns-clause-domains c = related_texts_are

pub returns-clause-paths : goal.returns-clause-paths
returns-clause-paths c = path_texts_are

pub returns-clause-domains_differ : goal.returns-clause-domains_differ
returns-clause-domains_differ c = related_differ

pub returns-clause-paths_differ : goal.returns-clause-paths_differ
returns-clause-paths_differ c = path_differ

pub returns-clause-most_domains : goal.returns-clause-most_domains
returns-clause-most_domains c = length_related

pub returns-clause-most_paths : goal.returns-clause-most_paths
returns-clause-most_paths c = length_paths

pub returns-clause-given : goal.returns-clause-given
returns-clause-given c = λ url now row is. (
  related_among url (domain_text row.domain) (c.given_is_related.ensures url now row is),
  covering_among row.path.text url.path ((c.path_match_is_tested.ensures row.path.text url.path).0 (given_path url now row is).0) (given_path url now row is).1,
)
