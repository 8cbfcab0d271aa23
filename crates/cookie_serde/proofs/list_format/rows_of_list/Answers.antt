use Rattle.std.proofs.Common.{[], ◌∷◌, ◌++◌, map, ap, append_assoc, sym, ◌∙◌}
use Rattle.std.specs.Result.{result_map_both}
use Rattle.std.specs.Vec.Iter.{into_iter_items}
use Rattle.cookie_forms.specs.Saved.{saved_view}
use Rattle.cookie_serde.specs.SavedForms.{cookies_of_saved}
use Rattle.cookie_serde.proofs.ListedRows.{form_done}
use Rattle.cookie_serde.proofs.list_format.rows_of_list.Goals as goal

pub loop-saved-preserved : goal.loop-saved-preserved
loop-saved-preserved c =
    let l = c.loop-saved in
    let (done, built, whole) = l.invariant.built in
    let cookie = c.in_ok-from_saved.field-0 in
    let left = map saved_view (into_iter_items c.next.new.self) in
    record {
      can = tt;
      ends = tt;
      built = (
        done ++ cookie ∷ [],
        c.in_ok-take.ensures.taken done built,
        whole
            ∙ ap (λ forms. result_map_both (λ cookies. done ++ cookies) (λ fault. fault) (cookies_of_saved (map saved_view forms))) c.in-Some.ensures.steps.0
            ∙ form_done done cookie (saved_view c.in-Some.saved) left c.in_ok-from_saved.ensures.cookie,
      );
      all =
          append_assoc l.yielded (c.in-Some.saved ∷ []) (into_iter_items c.next.new.self)
          ∙ ap (λ forms. l.yielded ++ forms) (sym c.in-Some.ensures.steps.0)
          ∙ l.invariant.all;
    }
