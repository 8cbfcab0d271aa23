use Rattle.cookie_device.proofs.Scanning.{position-first}
use Rattle.cookie_device.proofs.lines.first_line_feed.Goals as goal

pub returns : goal.returns
returns c = position-first c.args.bytes.now c.memchr.result c.memchr.ensures
