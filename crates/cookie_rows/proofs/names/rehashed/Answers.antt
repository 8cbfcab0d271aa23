use Rattle.std.proofs.Common.{◌∙◌, sym, ap, subst}
use Rattle.ordered_map.specs.Entries.{entries}
use Rattle.cookie_rows.specs.GroupChanges.{texts_of}
use Rattle.cookie_rows.specs.NameMaps.{items_of, HasNames}
use Rattle.cookie_rows.proofs.Copies.{copied_texts, same_values}
use Rattle.cookie_rows.proofs.Named.{named_texts}
use Rattle.cookie_rows.proofs.names.rehashed.Goals as goal

pub returns-in_ok-new-in-Table-clause-items : goal.returns-in_ok-new-in-Table-clause-items
returns-in_ok-new-in-Table-clause-items c =
    same_values (entries c.in-Table.rows.value) (entries c.in_ok-new-in-Table.field-0.value)
    (ap (λ m. texts_of (entries m)) c.in_ok-new-in-Table.ensures.ok ∙ copied_texts (λ x. x) _ _ c.in_ok-copies-in-Table.ensures.copies ∙ ap (λ m. texts_of (entries m)) c.deref.ensures)
    ∙ ap items_of (sym c.in-Table.is)

pub returns-in_ok-new-in-Table-clause-named : goal.returns-in_ok-new-in-Table-clause-named
returns-in_ok-new-in-Table-clause-named c =
    named_texts (entries c.in-Table.rows.value) (entries c.in_ok-new-in-Table.field-0.value)
    (ap (λ m. texts_of (entries m)) c.in_ok-new-in-Table.ensures.ok ∙ copied_texts (λ x. x) _ _ c.in_ok-copies-in-Table.ensures.copies ∙ ap (λ m. texts_of (entries m)) c.deref.ensures)
    (subst HasNames c.in-Table.is c.requires.named)
