use Rattle.std.proofs.Common.{[], ◌∷◌, ◌++◌, map, option_map, ap, sym, ◌∙◌}
use Rattle.std.proofs.lemmas.List.{map-append}
use Rattle.std.specs.Vec.Iter.{into_iter_items}
use Rattle.cookie_forms.specs.Saved.{saved_view}
use Rattle.cookie_forms.specs.FromJson.{all_with_parsed_expiry}
use Rattle.cookie_ron.specs.Views.{entry_view}
use Rattle.cookie_ron.proofs.EndsRead.{end_read}
use Rattle.cookie_ron.proofs.reading.with_parsed_expiries.Goals as goal

pub loop-entry-preserved : goal.loop-entry-preserved
loop-entry-preserved c =
    let l = c.loop-entry in
    let done = map saved_view l.list.items in
    let left = map entry_view (into_iter_items c.next.new.self) in
    record {
      can = tt;
      ends = tt;
      whole =
          l.invariant.whole
          ∙ ap (λ entries. option_map (λ rest. done ++ rest) (all_with_parsed_expiry (map entry_view entries))) c.in-Some.ensures.steps.0
          ∙ end_read done (entry_view c.in-Some.entry) left (saved_view c.in_ok-saved_from.field-0) c.in_ok-saved_from.ensures.read
          ∙ ap (λ items. option_map (λ rest. items ++ rest) (all_with_parsed_expiry left))
          (sym (ap (map saved_view) c.in_ok-push.ensures.items ∙ map-append saved_view l.list.items (c.in_ok-saved_from.field-0 ∷ [])));
    }
