use Rattle.std.proofs.Common.{◌≡◌, ℕ, List, [], ◌∷◌, ◌++◌, ◌+◌, drop, take, flat_map, get_or, map, string_bytes, sym, ap, ◌∙◌}
use Rattle.std.specs.List.{list_any}
use Rattle.std.proofs.lemmas.List.{drop_more, flat_map_more, map_push, take_more}
use Rattle.cookie_forms.specs.Saved.{saved_view}
use Rattle.cookie_forms.specs.ToJson.{is_early, with_expiry_text}
use Rattle.cookie_forms.specs.declared.saved.Saved.{Saved}
use Rattle.cookie_ron.specs.Printed.{printed_cookie}
use Rattle.cookie_ron.proofs.Bools.{both_false}
use Rattle.cookie_ron.proofs.printing.push_cookies.Goals as goal

abbrev printed : List Saved → List ℕ
printed list = flat_map printed_cookie (map with_expiry_text (map saved_view list))

-- one more cookie
more : (front : List ℕ) (list : List Saved) (saved : Saved)
    → (front ++ printed list) ++ printed_cookie (with_expiry_text (saved_view saved)) ≡ front ++ printed (list ++ saved ∷ [])
more front list saved =
    flat_map_more printed_cookie front (map with_expiry_text (map saved_view list)) (with_expiry_text (saved_view saved))
    ∙ ap (λ ps. front ++ flat_map printed_cookie ps) (sym (map_push with_expiry_text (map saved_view list) (saved_view saved)) ∙ ap (map with_expiry_text) (sym (map_push saved_view list saved)))

pub loop-saved-preserved : goal.loop-saved-preserved
loop-saved-preserved c =
    let list = c.args.list.now in
    let at = c.loop-saved.saved-index in
    let saved = c.saved-item.result in
    let left : drop at list ≡ get_or list at saved ∷ drop (at + 1) list = drop_more list at saved c.loop-saved-test.true in
    let taken = take_more list at saved c.loop-saved-test.true in (
      (both_false (is_early (saved_view (get_or list at saved))) (list_any is_early (map saved_view (drop (at + 1) list))) (sym (ap (λ l. list_any is_early (map saved_view l)) left) ∙ c.loop-saved.invariant.0)).1,
      c.in_ok-push_cookie.ensures
          ∙ ap (λ front. front ++ printed_cookie (with_expiry_text (saved_view saved))) c.loop-saved.invariant.1
          ∙ more (string_bytes c.args.text.now) (take at list) saved
          ∙ ap (λ l. string_bytes c.args.text.now ++ printed l) (ap (λ s. take at list ++ s ∷ []) c.saved-item.is ∙ sym taken),
    )
