use Rattle.std.proofs.Common.{◌∙◌}
use Rattle.ordered_map.specs.Entries.{entries}
use Rattle.cookie_rows.proofs.Copies.{copied_all, new_key, none_copied, pushed_one, some_left}
use Rattle.cookie_rows.proofs.Results.{either_way}
use Rattle.cookie_rows.proofs.copying.rehashed_map.Goals as goal

pub loop-text-init : goal.loop-text-init
loop-text-init g c = record { copied = none_copied g.V.Rehash.is_copy c.into_iter-text-iterator.result (entries c.with_hasher-copy.result) c.with_hasher-copy.ensures.empty }

pub push-requires : goal.push-requires
push-requires g c =
    let same = c.into_iter-text-iterator.ensures.into_iter_gives ∙ c.iter-text-items.ensures in
    record {
      new = new_key g.V.Rehash.is_copy (entries c.args.map.now) c.into_iter-text-iterator.result same c.loop-text.text-iterator c.next.new.self (entries c.loop-text.copy)
          (c.in-Some.text.now, c.in-Some.value.now) c.loop-text.invariant.copied c.in-Some.ensures.steps c.in_ok-clone.field-0 c.len.ensures.distinct.in_order c.in_ok-clone.ensures.cases;
    }

pub loop-text-preserved : goal.loop-text-preserved
loop-text-preserved g c =
    let same = c.into_iter-text-iterator.ensures.into_iter_gives ∙ c.iter-text-items.ensures in
    record {
      copied = pushed_one g.V.Rehash.is_copy (entries c.args.map.now) c.into_iter-text-iterator.result same c.loop-text.text-iterator c.next.new.self (entries c.loop-text.copy)
          (c.in-Some.text.now, c.in-Some.value.now) c.loop-text.invariant.copied c.in-Some.ensures.steps
          (entries c.push.new.self) c.in_ok-clone.field-0 c.in_ok-rehashed.field-0 c.in_ok-push.ensures.pushed c.in_ok-clone.ensures.cases c.in_ok-rehashed.ensures;
    }

pub returns-clause-copies : goal.returns-clause-copies
returns-clause-copies g c =
    let same = c.into_iter-text-iterator.ensures.into_iter_gives ∙ c.iter-text-items.ensures in
    copied_all g.V.Rehash.is_copy (entries c.args.map.now) c.into_iter-text-iterator.result c.loop-text.text-iterator (entries c.loop-text.copy) same
    c.loop-text.invariant.copied c.in-None.ensures.steps.0

pub returns-in_err-rehashed-clause-memory : goal.returns-in_err-rehashed-clause-memory
returns-in_err-rehashed-clause-memory g c =
    let same = c.into_iter-text-iterator.ensures.into_iter_gives ∙ c.iter-text-items.ensures in
    either_way c.from_residual-in_err-rehashed.result
    (some_left g.V.Rehash.is_copy (entries c.args.map.now) c.into_iter-text-iterator.result same c.loop-text.text-iterator c.next.new.self (entries c.loop-text.copy)
    (c.in-Some.text.now, c.in-Some.value.now) c.loop-text.invariant.copied c.in-Some.ensures.steps)

pub returns-in_err-push-clause-memory : goal.returns-in_err-push-clause-memory
returns-in_err-push-clause-memory g c =
    let same = c.into_iter-text-iterator.ensures.into_iter_gives ∙ c.iter-text-items.ensures in
    either_way c.from_residual-in_err-push.result
    (some_left g.V.Rehash.is_copy (entries c.args.map.now) c.into_iter-text-iterator.result same c.loop-text.text-iterator c.next.new.self (entries c.loop-text.copy)
    (c.in-Some.text.now, c.in-Some.value.now) c.loop-text.invariant.copied c.in-Some.ensures.steps)

pub returns-in_err-clone-clause-memory : goal.returns-in_err-clone-clause-memory
returns-in_err-clone-clause-memory g c =
    let same = c.into_iter-text-iterator.ensures.into_iter_gives ∙ c.iter-text-items.ensures in
    either_way c.from_residual.result
    (some_left g.V.Rehash.is_copy (entries c.args.map.now) c.into_iter-text-iterator.result same c.loop-text.text-iterator c.next.new.self (entries c.loop-text.copy)
    (c.in-Some.text.now, c.in-Some.value.now) c.loop-text.invariant.copied c.in-Some.ensures.steps)
