use denote.Text.{Utf8}
use denote.Shadow.{shadow}
use Rattle.cookie_psl.proofs.LastLabels.{HasPassed}
use Rattle.cookie_psl.proofs.suffix.labels_start.Given as goal

abbrev pub invariant-loop : goal.invariant-loop
invariant-loop l = shadow (Utf8 l.prefix) × HasPassed l.domain l.prefix l.counter l.start
