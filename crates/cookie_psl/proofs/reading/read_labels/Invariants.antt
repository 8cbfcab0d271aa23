use Rattle.std.proofs.Common.{◌≡◌, map, Some}
use Rattle.cookie_psl.specs.ParsedRules.{label_texts}
use Rattle.cookie_psl.specs.ListFormat.{labels_from}
use Rattle.cookie_psl.proofs.reading.read_labels.Given as goal

abbrev pub invariant-loop-label : goal.invariant-loop-label
invariant-loop-label l = labels_from (map (λ x. x.now) l.yielded) ≡ Some (label_texts l.labels)
