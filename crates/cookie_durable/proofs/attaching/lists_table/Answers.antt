use Rattle.std.proofs.Common.{◌≡◌, [], sym, ◌∙◌, true≢false, rules}
use Rattle.std.proofs.lemmas.List.{nil_from_length}
use Rattle.cookie_durable.proofs.attaching.lists_table.Goals as goal

pub returns-in-empty-clause-lists : goal.returns-in-empty-clause-lists
returns-in-empty-clause-lists g c clean =
    let read = c.in_ok-rows.ensures.ok clean in
    let none : c.as_slice.result.now ≡ [] = nil_from_length _ (search rules) in
    record {
      pages = read.pages;
      found = read.found;
      again = read.again;
      alone = λ is. absurd (true≢false (sym is));
      nothing = λ _. sym read.lists ∙ sym c.as_slice.ensures.value ∙ none;
    }
