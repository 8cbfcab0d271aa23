use Rattle.cookie_forms.proofs.LineFeeds.{read_before_line_feed}
use Rattle.cookie_forms.proofs.laws.line_feeds_are_blank.Goals as goal

pub returns : goal.returns
returns c = read_before_line_feed
