use Rattle.std.proofs.Common.{◌≡◌, ◌∙◌, ap, bytes_eq, subst, sym, []}
use Rattle.std.specs.Prelude.{slice_get, string_bytes}
use Rattle.std.specs.Option.{unwrap_or}
use Rattle.cookie_laws.specs.Rows.{removed}
use Rattle.ordered_map.specs.Entries.{entries, in_order, text_at}
use Rattle.cookie_rows.specs.GroupChanges.{texts_by}
use Rattle.cookie_rows.specs.Least.{RemovesAt}
use Rattle.cookie_rows.specs.Stored.{paths_in}
use Rattle.cookie_rows.proofs.Maps.{texts_removed}
use Rattle.cookie_rows.proofs.Results.{known_some}
use Rattle.cookie_rows.proofs.TakenOut.{group_gone, group_left, some_other, stored_path}
use Rattle.cookie_rows.proofs.path_table.remove_at_in.Goals as goal

pub returns-then-take_at : goal.returns-then-take_at
returns-then-take_at c text item there =
    let m = c.args.groups.now in
    let left = c.take_at.new.groups in
    let at = c.args.path in
    let key = c.take_at.ensures.keys ∙ stored_path c.args.row text item m.by_position at there in
    let same : text_at left at ≡ text = ap (λ o. unwrap_or o []) key in
    let some = some_other (λ e. string_bytes e.1.0) (λ e. e.1.1) (slice_get left.by_position at) text key in
    let gone = known_some c.remove_at.result (c.remove_at.ensures.value ∙ some.1) c.remove_at.ensures.removed in
    let is = ap (texts_by in_order) gone ∙ texts_removed in_order (text_at left at) (entries left) ∙ ap (λ t. removed (λ g. bytes_eq t g.0) (paths_in left)) same in
    subst (RemovesAt item (paths_in m)) (sym is)
    (group_gone text item (paths_in m) (paths_in left) (c.take_at.ensures.taken text item there) (sym (c.take_at.ensures.is_empty text item there) ∙ c.if-take_at.true))

pub returns-else-take_at : goal.returns-else-take_at
returns-else-take_at c text item there =
    group_left text item (paths_in c.args.groups.now) (paths_in c.take_at.new.groups) (c.take_at.ensures.taken text item there)
    (sym (c.take_at.ensures.is_empty text item there) ∙ c.if-take_at.false)
