use Rattle.std.proofs.Common.{◌≡◌, ◌∙◌, ◌+◌, ap, sym, [], ◌∷◌, ◌++◌, map, append_assoc}
use Rattle.std.proofs.Math.Nat.{le_trans}
use Rattle.std.proofs.lemmas.List.{length-append, map-append}
use Rattle.cookie_core.specs.CallViews.{call_view, reply_view}
use Rattle.cookie_laws.specs.Contents.{Contents}
use Rattle.cookie_laws.specs.Runs.{Reply, replies, step, store_after}
use Rattle.cookie_core.proofs.LongerRuns.{replies_more, store_after_more}
use Rattle.cookie_core.proofs.cookie_store.CookieStore.apply_all.Goals as goal

pub loop-call-preserved : goal.loop-call-preserved
loop-call-preserved c =
    let begun = c.loop-call.invariant in
    let store = c.args.self.now in
    let calls = map call_view c.loop-call.yielded in
    let call = call_view c.in-Some.call in
    let more = map-append call_view c.loop-call.yielded (c.in-Some.call ∷ []) in
    let pushed = rw c.unwrap.ensures at c.push.ensures.items in
    let reply : reply_view c.in-Ok-apply.reply ≡ (step call (store_after calls store)).reply
    = c.in-Ok-apply.ensures.reply ∙ ap (λ (s : Contents). (step call s).reply) begun.store in
    record {
      can = tt;
      ends = tt;
      reported =
          ap (map reply_view) pushed ∙ map-append reply_view c.loop-call.reported.items (c.in-Ok-apply.reply ∷ [])
          ∙ ap (λ reported. reported ++ reply_view c.in-Ok-apply.reply ∷ []) begun.reported
          ∙ ap (λ (r : Reply). replies calls store ++ r ∷ []) reply
          ∙ sym (replies_more calls call store)
          ∙ ap (λ cs. replies cs store) (sym more);
      store =
          c.in-Ok-apply.ensures.store
          ∙ ap (λ (s : Contents). (step call s).store) begun.store
          ∙ sym (store_after_more calls call store) ∙ ap (λ cs. store_after cs store) (sym more);
      all =
          append_assoc c.loop-call.yielded (c.in-Some.call ∷ []) _
          ∙ ap (λ xs. c.loop-call.yielded ++ xs) (sym c.in-Some.ensures.steps.0) ∙ begun.all;
      count =
          rw c.unwrap.ensures at c.push.ensures.len ∙ ap (λ n. n + 1) begun.count
          ∙ sym (length-append c.loop-call.yielded (c.in-Some.call ∷ []));
      room = le_trans begun.room c.push.ensures.capacity;
    }
