use Rattle.cookie_laws.proofs.RelatedCalls.{same_given, same_header, same_related_replies}
use Rattle.cookie_laws.proofs.isolated.Goals as goal

pub returns : goal.returns
returns c = record { given = same_given; header = same_header; replies = same_related_replies }
