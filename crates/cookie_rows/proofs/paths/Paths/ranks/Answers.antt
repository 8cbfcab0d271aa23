use Rattle.std.proofs.Common.{◌∙◌, List, ap, append-nil, append_assoc, map, sym, ◌++◌}
use Rattle.std.specs.List.{flat_map}
use Rattle.ordered_map.specs.Entries.{in_order}
use Rattle.cookie_words.specs.Moments.{moment_of}
use Rattle.cookie_rows.specs.Eviction.{EvictionRank, rank_of}
use Rattle.cookie_rows.specs.Stored.{StoredItems}
use Rattle.cookie_rows.proofs.StoredPaths.{each_path}
use Rattle.cookie_rows.proofs.paths.Paths.ranks.Goals as goal

pub loop-names-preserved : goal.loop-names-preserved
loop-names-preserved c =
    let ranks : StoredItems → List EvictionRank = λ items. map (rank_of c.args.order (moment_of c.args.now)) (in_order items) in
    let before = c.loop-names.ranks.items in
    record {
      pushed = ap (λ ts. ts ++ flat_map ranks c.next.new.self) c.in_ok-push_ranks.ensures
          ∙ append_assoc before (ranks c.in-Some.names.now) (flat_map ranks c.next.new.self)
          ∙ ap (λ gs. before ++ flat_map ranks gs) (sym c.in-Some.ensures.steps) ∙ c.loop-names.invariant.pushed;
    }

pub returns : goal.returns
returns c =
    let rank = rank_of c.args.order (moment_of c.args.now) in
    let ranks : StoredItems → List EvictionRank = λ items. map rank (in_order items) in
    let pushed = c.loop-names.ranks.items in
    sym (append-nil pushed) ∙ ap (λ gs. pushed ++ flat_map ranks gs) (sym c.in-None.ensures.steps.0) ∙ c.loop-names.invariant.pushed
    ∙ ap (flat_map ranks) (c.into_iter-names-iterator.ensures.into_iter_gives ∙ c.groups-names-items.ensures) ∙ each_path (map rank) (in_order c.args.self.now)
