use Rattle.std.proofs.Common.{◌≢◌, ◌∙◌, List, String, [], ◌∷◌, ap, refl, subst, sym}
use Rattle.ordered_map.specs.Entries.{entries}
use Rattle.cookie_laws.specs.Rows.{RowsInOrder}
use Rattle.cookie_lookup.specs.Positions.{paths_in_order}
use Rattle.cookie_rows.specs.GroupChanges.{texts_by}
use Rattle.cookie_rows.specs.Items.{AreItems, groups_in_order}
use Rattle.cookie_rows.specs.Stored.{StoredPaths, domains_in}
use Rattle.cookie_rows.proofs.AreItems.{some_rows}
use Rattle.cookie_rows.proofs.Copies.{copied_texts}
use Rattle.cookie_rows.proofs.Results.{either_way}
use Rattle.cookie_rows.proofs.RowLengths.{row_count}
use Rattle.cookie_rows.proofs.rows.Rows.rehashed.Goals as goal

-- there are groups if there are entries
some_texts : {A : Type 0} (es : List (String A × StoredPaths)) → es ≢ [] → texts_by paths_in_order es ≢ []
some_texts [] some none = some refl
some_texts (e ∷ es) some none = absurd (cc)

pub returns-in_err-groups-clause-memory : goal.returns-in_err-groups-clause-memory
returns-in_err-groups-clause-memory c =
    either_way c.from_residual.result
    (λ none. some_rows (domains_in c.self.inside.groups) c.self.invariant.0.0 (some_texts (entries c.self.inside.groups) c.in_err-groups.ensures.memory)
    (ap (λ (k : RowsInOrder). k.rows) c.self.view_is ∙ none))

pub invariant_of-result : goal.invariant_of-result
invariant_of-result c =
    let same = copied_texts paths_in_order (entries c.self.inside.groups) (entries c.in_ok-groups.groups) c.in_ok-groups.ensures.copies in
    (subst (AreItems c.self.inside.created) (sym same) c.self.invariant.0, c.self.invariant.1 ∙ ap row_count (sym same))

pub returns-clause-rows : goal.returns-clause-rows
returns-clause-rows c =
    ap groups_in_order (copied_texts paths_in_order (entries c.self.inside.groups) (entries c.in_ok-groups.groups) c.in_ok-groups.ensures.copies) ∙ c.self.view_is
