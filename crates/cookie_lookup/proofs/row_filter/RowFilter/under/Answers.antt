use Rattle.std.proofs.Common.{sym}
use Rattle.cookie_words.specs.Moments.{moment_of}
use Rattle.cookie_lookup.proofs.RowFilters.{candidates_given}
use Rattle.cookie_lookup.proofs.row_filter.RowFilter.under.Goals as goal

pub returns-clause-agrees : goal.returns-clause-agrees
returns-clause-agrees c =
    rw (c.is_host.ensures, c.covers_host.ensures)
    (candidates_given c.args.url.now (moment_of c.args.time) c.args.host.now c.args.text.now (sym c.requires.host) c.requires.related
    (λ path request. (c.path_match_is_tested.ensures path request).1))
