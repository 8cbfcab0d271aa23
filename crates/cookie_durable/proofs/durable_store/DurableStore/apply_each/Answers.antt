use Rattle.std.proofs.Common.{true≢false, ◌≡◌, ◌∙◌, ◌+◌, ap, refl, sym, [], ◌∷◌, ◌++◌, ⊎_elim, inl, inr, length, map, append_assoc, arith}
use Rattle.std.proofs.Math.Nat.{le_trans}
use Rattle.std.proofs.lemmas.List.{length-append, length-map, map-append}
use Rattle.cookie_core.specs.CallViews.{call_view, reply_view}
use Rattle.cookie_laws.specs.Contents.{Contents}
use Rattle.cookie_laws.specs.Runs.{Reply, replies, step, store_after}
use Rattle.cookie_core.proofs.LongerRuns.{replies_more, store_after_more}
use Rattle.cookie_durable.proofs.CallPrefixes.{prefix_done, prefix_one_more, replies-length}
use Rattle.cookie_durable.proofs.CommittedCalls.{found_again}
use Rattle.cookie_durable.proofs.StoppedCalls.{reason_after}
use Rattle.cookie_durable.proofs.durable_store.DurableStore.apply_each.Goals as goal

pub loop-call-preserved : goal.loop-call-preserved
loop-call-preserved g c =
    let begun = c.loop-call.invariant in
    let store = c.args.self.now.store in
    let calls = map call_view c.loop-call.yielded in
    let call = call_view c.in-Some.call in
    let more = map-append call_view c.loop-call.yielded (c.in-Some.call ∷ []) in
    let pushed = rw c.unwrap.ensures at c.push.ensures.items in
    let reply : reply_view c.in-Ok-apply.reply ≡ (step call (store_after calls store)).reply
    = c.in-Ok-apply.ensures.reply ∙ ap (λ (s : Contents). (step call s).reply) begun.store in
    record {
      can = tt;
      ends = tt;
      reported =
          ap (map reply_view) pushed ∙ map-append reply_view c.loop-call.replies.items (c.in-Ok-apply.reply ∷ [])
          ∙ ap (λ reported. reported ++ reply_view c.in-Ok-apply.reply ∷ []) begun.reported
          ∙ ap (λ (r : Reply). replies calls store ++ r ∷ []) reply
          ∙ sym (replies_more calls call store)
          ∙ ap (λ cs. replies cs store) (sym more);
      store =
          c.in-Ok-apply.ensures.change.0
          ∙ ap (λ (s : Contents). (step call s).store) begun.store
          ∙ sym (store_after_more calls call store) ∙ ap (λ cs. store_after cs store) (sym more);
      in_step = c.apply.ensures.in_step;
      works = c.in-Ok-apply.ensures.change.1 ∙ begun.works;
      failed = λ failed. absurd (true≢false (sym (begun.works ∙ failed) ∙ c.in-Ok-apply.ensures.works));
      table = c.apply.ensures.table ∙ begun.table;
      clean = omega (arith, begun.clean, c.apply.ensures.clean);
      all =
          append_assoc c.loop-call.yielded (c.in-Some.call ∷ []) _
          ∙ ap (λ xs. c.loop-call.yielded ++ xs) (sym c.in-Some.ensures.steps.0) ∙ begun.all;
      count =
          rw c.unwrap.ensures at c.push.ensures.len ∙ ap (λ n. n + 1) begun.count
          ∙ sym (length-append c.loop-call.yielded (c.in-Some.call ∷ []));
      room = le_trans begun.room c.push.ensures.capacity;
    }

pub returns-in_default-clause-crash : goal.returns-in_default-clause-crash
returns-in_default-clause-crash g c = λ works clean db may.
    prefix_done call_view reply_view _ _ _ _ db [] c.args.calls.items c.new.result.items (ap (map reply_view) c.new.ensures.items) refl refl
    c.args.calls.items refl
    (found_again g.S.Store.view g.S.Store.recovers g.met.S.Store.settled c.args.self.now c.requires works clean db may)

pub returns-in-Err-clause-crash : goal.returns-in-Err-clause-crash
returns-in-Err-clause-crash g c = λ works clean db may.
    let begun = c.loop-call.invariant in
    prefix_one_more call_view reply_view _ _ _ _ db _ _ _ begun.reported begun.store begun.table
    c.in-Some.call _ (sym begun.all ∙ ap (λ xs. c.loop-call.yielded ++ xs) c.in-Some.ensures.steps.0)
    (⊎_elim
    (λ same. inl (found_again g.S.Store.view g.S.Store.recovers g.met.S.Store.settled c.loop-call.self begun.in_step (begun.works ∙ works)
    (omega (arith, clean, c.apply.ensures.clean)) db same))
    inr (c.apply.ensures.crash clean db may))

pub returns-in-Err-clause-reason : goal.returns-in-Err-clause-reason
returns-in-Err-clause-reason g c =
    let begun = c.loop-call.invariant in
    let executed = map call_view c.loop-call.yielded in
    reason_after c.in-Err.error _ _ executed (call_view c.in-Some.call) _ _ _ begun.works
    (ap (map call_view) (sym begun.all ∙ ap (λ xs. c.loop-call.yielded ++ xs) c.in-Some.ensures.steps.0)
    ∙ map-append call_view c.loop-call.yielded (c.in-Some.call ∷ _))
    (sym (replies-length executed c.args.self.now.store) ∙ sym (ap length begun.reported) ∙ length-map c.loop-call.replies.items reply_view)
    c.in-Err.ensures.reason

pub returns-clause-crash : goal.returns-clause-crash
returns-clause-crash g c = λ works clean db may.
    let begun = c.loop-call.invariant in
    prefix_done call_view reply_view _ _ _ _ db _ _ _ begun.reported begun.store begun.table _ (sym begun.all)
    (found_again g.S.Store.view g.S.Store.recovers g.met.S.Store.settled c.loop-call.self begun.in_step (begun.works ∙ works) clean db may)
