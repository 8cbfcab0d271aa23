use Rattle.std.proofs.Common.{vec_capacity, vec_len, ℕ, List, length, sym, ap, subst, ◌∙◌, arith}
use Rattle.indexmap.specs.IndexMap.{hasher_of, spare}
use Rattle.ordered_map.specs.Layout.{IsStored}
use Rattle.ordered_map.proofs.ClosedViews.{closed_entries, closed_length, closed_stored, step_entry, step_gap}
use Rattle.ordered_map.proofs.gaps.close_gaps.Goals as goal
use Rattle.ordered_map.proofs.gaps.close_gaps.Goals.{in-Some, in_default}

pub loop-place-preserved : goal.loop-place-preserved
loop-place-preserved g c = elim c.match-get_index_mut.branch [
  | in-Some w ↦ record {
    closing = step_entry c.args.entries.now.entries c.args.order.now.items c.requires c.loop-place.entries.entries c.loop-place.order.items c.loop-place.next_place c.loop-place.place c.loop-place.invariant.closing
        c.match-get_index_mut.entries.entries c.match-get_index_mut.order.items c.match-get_index_mut.next_place c.index-position.result.now (omega (arith, c.loop-place.invariant.end, c.loop-place.invariant.len)) c.index-position.ensures
        w.in-Some.placed.now w.in-Some.ensures.value (ap (λ m. m.entries) w.entries-is) (ap (λ v. v.items) w.order-is) w.next_place-is;
    end = c.loop-place.invariant.end;
    len = ap vec_len w.order-is ∙ c.loop-place.invariant.len;
    capacity = ap vec_capacity w.order-is ∙ c.loop-place.invariant.capacity;
    spare = ap spare w.entries-is ∙ c.loop-place.invariant.spare;
    hasher = ap hasher_of w.entries-is ∙ c.loop-place.invariant.hasher;
  }
  | in_default w ↦ record {
    closing = step_gap c.args.entries.now.entries c.args.order.now.items c.requires c.loop-place.entries.entries c.loop-place.order.items c.loop-place.next_place c.loop-place.place c.loop-place.invariant.closing
        c.match-get_index_mut.entries.entries c.match-get_index_mut.order.items c.match-get_index_mut.next_place c.index-position.result.now (omega (arith, c.loop-place.invariant.end, c.loop-place.invariant.len)) c.index-position.ensures
        w.in_default.ensures.value (ap (λ m. m.entries) w.entries-is) (ap (λ v. v.items) w.order-is) w.next_place-is;
    end = c.loop-place.invariant.end;
    len = ap vec_len w.order-is ∙ c.loop-place.invariant.len;
    capacity = ap vec_capacity w.order-is ∙ c.loop-place.invariant.capacity;
    spare = ap spare w.entries-is ∙ c.loop-place.invariant.spare;
    hasher = ap hasher_of w.entries-is ∙ c.loop-place.invariant.hasher;
  }
]

pub returns-clause-stored : goal.returns-clause-stored
returns-clause-stored g c =
    subst (IsStored c.loop-place.entries.entries) (sym c.truncate.ensures.items)
    (closed_stored c.args.entries.now.entries c.args.order.now.items c.requires c.loop-place.entries.entries c.loop-place.order.items c.loop-place.next_place c.loop-place.place c.loop-place.invariant.closing (omega (arith, c.loop-place.invariant.end)))

pub returns-clause-entries : goal.returns-clause-entries
returns-clause-entries g c =
    closed_entries c.args.entries.now.entries c.args.order.now.items c.requires c.loop-place.entries.entries c.loop-place.order.items c.loop-place.next_place c.loop-place.place c.loop-place.invariant.closing (omega (arith, c.loop-place.invariant.end))

pub returns-clause-closed : goal.returns-clause-closed
returns-clause-closed g c =
    omega (arith, ap (λ (xs : List ℕ). length xs) c.truncate.ensures.items, closed_length c.args.entries.now.entries c.args.order.now.items c.requires c.loop-place.entries.entries c.loop-place.order.items c.loop-place.next_place c.loop-place.place c.loop-place.invariant.closing (omega (arith, c.loop-place.invariant.end)))
