use Rattle.std.proofs.Common.{◌≡◌, ◌∙◌, ◌∷◌, ◌++◌, ◌<◌, ap, arith, length, map, string_bytes, subst, sym, true}
use Rattle.std.specs.Map.{values_of}
use Rattle.std.specs.Vec.Iter.{into_iter_items}
use Rattle.ordered_map.specs.Entries.{entries}
use Rattle.cookie_rows.specs.Items.{AreNamed}
use Rattle.cookie_rows.specs.NameMaps.{names_differ, names_in}
use Rattle.cookie_rows.proofs.Named.{named_push}
use Rattle.cookie_rows.proofs.NamedItems.{next_new, next_rows}
use Rattle.cookie_rows.proofs.Results.{known_ok}
use Rattle.cookie_rows.proofs.name_list.fill_table.Goals as goal

pub push-requires : goal.push-requires
push-requires c =
    let left = into_iter_items c.next.new.self in
    let all = into_iter_items c.into_iter-row-iterator.result in
    let next : into_iter_items c.loop-row.row-iterator ≡ c.in-Some.row ∷ left = c.in-Some.ensures.steps.0 in
    let names : map string_bytes (c.in-Some-next.name ∷ into_iter_items c.next-in-loop-row.new.self) ≡ names_in (c.in-Some.row ∷ left) =
    sym (ap (map string_bytes) c.in-Some-next.ensures.items) ∙ c.loop-row.invariant.names ∙ ap names_in next in
    let key : string_bytes c.in-Some-next.name ≡ c.in-Some.row.row.raw.name = cc in
    let whole = ap (λ items. values_of (entries c.loop-row.table) ++ items) (sym next) ∙ c.loop-row.invariant.rows in
    let d : names_differ all ≡ true = subst (λ items. names_differ items ≡ true) (sym c.into_iter-row-iterator.ensures.into_iter_gives.0) c.requires.differ in
    record { new = next_new (entries c.loop-row.table) left all c.in-Some.row c.in-Some-next.name c.loop-row.invariant.named key whole d }

pub loop-row-preserved-in-Some-next : goal.loop-row-preserved-in-Some-next
loop-row-preserved-in-Some-next c =
    let left = into_iter_items c.next.new.self in
    let all = into_iter_items c.into_iter-row-iterator.result in
    let next : into_iter_items c.loop-row.row-iterator ≡ c.in-Some.row ∷ left = c.in-Some.ensures.steps.0 in
    let names : map string_bytes (c.in-Some-next.name ∷ into_iter_items c.next-in-loop-row.new.self) ≡ names_in (c.in-Some.row ∷ left) =
    sym (ap (map string_bytes) c.in-Some-next.ensures.items) ∙ c.loop-row.invariant.names ∙ ap names_in next in
    let key : string_bytes c.in-Some-next.name ≡ c.in-Some.row.row.raw.name = cc in
    let whole = ap (λ items. values_of (entries c.loop-row.table) ++ items) (sym next) ∙ c.loop-row.invariant.rows in
    let d : names_differ all ≡ true = subst (λ items. names_differ items ≡ true) (sym c.into_iter-row-iterator.ensures.into_iter_gives.0) c.requires.differ in
    let room : 0 < c.loop-row.table.room = omega (arith, c.loop-row.invariant.room, ap length next) in
    let pushed = known_ok c.push.result (c.push.ensures.succeeds room) c.push.ensures.pushed in
    record {
      iterator = (tt, tt);
      rows = ap (λ es. values_of es ++ left) pushed
          ∙ next_rows (entries c.loop-row.table) left all c.in-Some.row c.in-Some-next.name c.loop-row.invariant.named key whole d;
      names = cc;
      named = subst AreNamed (sym pushed) (named_push c.in-Some-next.name c.in-Some.row (entries c.loop-row.table) key c.loop-row.invariant.named);
      room = omega (arith, c.push.ensures.room, c.loop-row.invariant.room, ap length next);
    }
