use Rattle.std.proofs.Common.{◌≡◌, ◌<◌, ◌-◌, ◌++◌, inr, [], ◌∷◌, length, map, Some, None, sym, ap, ◌∙◌, subst, arith, rules}
use Rattle.std.proofs.lemmas.List.{map-append}
use Rattle.json.specs.Token.{Token}
use Rattle.json.specs.Json.{after_end_array}
use Rattle.cookie_forms.specs.Saved.{saved_view}
use Rattle.cookie_forms.proofs.ReadItems.{ItemsRead, item_is_read, items_are_read}
use Rattle.cookie_forms.proofs.ReadTexts.{begin_saved, first_saved, on_err}
use Rattle.cookie_forms.proofs.ReadTokens.{shorter}
use Rattle.cookie_forms.proofs.text_reader.read_list.Goals as goal

pub items-smaller : goal.items-smaller
items-smaller c =
    let going : (after_end_array c.items.reader ≡ None) × (c.take_end_array.new.self ≡ c.items.reader) = grind arith in
    let here = (rw c.in-Some.is at c.in_ok-saved.ensures.saved) 2 (omega arith) in
    let less : length c.read_saved.new.reader < length c.items.reader = rw (← going.1) (shorter 2 c.take_end_array.new.self c.read_saved.new.reader here.0 here.1) in
    less

pub items-preserved : goal.items-preserved
items-preserved c =
    let l = c.items in
    let going : (after_end_array l.reader ≡ None) × (c.take_end_array.new.self ≡ l.reader) = grind arith in
    let saved = c.in-Some.saved in
    let pushed : c.push.new.self.items ≡ l.list.items ++ saved ∷ [] = search rules in (
      λ depth two.
          let here = (rw c.in-Some.is at c.in_ok-saved.ensures.saved) depth two in
          subst (λ list. ItemsRead depth c.next_token.new.reader c.read_saved.new.reader list) (sym (ap (map saved_view) pushed ∙ map-append saved_view l.list.items (saved ∷ [])))
          (item_is_read depth c.next_token.new.reader l.reader c.read_saved.new.reader here.0 (map saved_view l.list.items) (saved_view saved)
          (l.invariant.0 depth two) going.0 (rw (← going.1) here.1) here.2),
      inr (first_saved l.invariant.1 (λ depth two.
          let here = (rw c.in-Some.is at c.in_ok-saved.ensures.saved) depth two in
          begin_saved depth l.reader c.read_saved.new.reader here.0 (saved_view saved) (rw (← going.1) here.1) here.2)),
    )

pub returns-in_err-saved-clause-memory : goal.returns-in_err-saved-clause-memory
returns-in_err-saved-clause-memory c =
    let opened : c.args.reader.now ≡ Token.begin_array ∷ c.next_token.new.reader = grind arith in
    let going : c.take_end_array.new.self ≡ c.items.reader = grind arith in
    on_err c.from_residual.result _ (c.next_token.new.reader, opened, first_saved c.items.invariant.1 (rw (← going) c.in_err-saved.ensures.memory))

pub returns-in_err-push-in-Some-clause-memory : goal.returns-in_err-push-in-Some-clause-memory
returns-in_err-push-in-Some-clause-memory c =
    let opened : c.args.reader.now ≡ Token.begin_array ∷ c.next_token.new.reader = grind arith in
    let going : c.take_end_array.new.self ≡ c.items.reader = grind arith in
    on_err c.from_residual-in_err-push-in-Some.result _ (
      c.next_token.new.reader,
      opened,
      first_saved c.items.invariant.1 (λ depth two.
          let here = (rw c.in-Some.is at c.in_ok-saved.ensures.saved) depth two in
          begin_saved depth c.items.reader c.read_saved.new.reader here.0 (saved_view c.in-Some.saved) (rw (← going) here.1) here.2),
    )

pub returns-clause-saved : goal.returns-clause-saved
returns-clause-saved c =
    let l = c.items in
    let opened : c.args.reader.now ≡ Token.begin_array ∷ c.next_token.new.reader = grind arith in
    let closed : after_end_array l.reader ≡ Some c.take_end_array.new.self = grind arith in
    λ depth three.
    let all = items_are_read depth c.next_token.new.reader l.reader c.take_end_array.new.self (map saved_view l.list.items) (omega arith)
    (l.invariant.0 (depth - 1) (omega arith)) closed in
    (all.0, rw opened all.1, all.2)
