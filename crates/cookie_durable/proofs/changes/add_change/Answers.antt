use Rattle.std.proofs.Common.{◌≡◌, ◌∙◌, ◌++◌, ap, append-nil, sym}
use Rattle.std.specs.Prelude.{option_to_list}
use Rattle.cookie_laws.specs.Rows.{key_at}
use Rattle.cookie_durable.specs.Numbering.{key_in}
use Rattle.cookie_durable.proofs.StagedRows.{added-numbered}
use Rattle.cookie_durable.proofs.changes.add_change.Goals as goal

pub returns-in_ok-push-clause-numbered : goal.returns-in_ok-push-clause-numbered
returns-in_ok-push-clause-numbered c = λ before rows touches numbered.
    let key : key_at c.as_str.result.now c.as_str-2.result.now c.as_str-3.result.now ≡ key_in c.args.names =
    λ i. key_at (c.as_str.ensures.value i) (c.as_str-2.ensures.value i) (c.as_str-3.ensures.value i) in
    added-numbered before c.args.store.now c.args.ids.now.entries _ c.args.next.now rows c.args.changes.now.items _ numbered
    c.args.names _ _ _ _ _ _ touches c.get_any-cookie.ensures key c.in_ok-change.ensures.change
    (c.in_ok-push.ensures.items ∙ ap (λ o. c.args.changes.now.items ++ option_to_list o) (sym c.in-Some.is))

pub returns-in_default-clause-numbered : goal.returns-in_default-clause-numbered
returns-in_default-clause-numbered c = λ before rows touches numbered.
    let key : key_at c.as_str.result.now c.as_str-2.result.now c.as_str-3.result.now ≡ key_in c.args.names =
    λ i. key_at (c.as_str.ensures.value i) (c.as_str-2.ensures.value i) (c.as_str-3.ensures.value i) in
    added-numbered before c.args.store.now c.args.ids.now.entries _ c.args.next.now rows c.args.changes.now.items _ numbered
    c.args.names _ _ _ _ _ _ touches c.get_any-cookie.ensures key c.in_ok-change.ensures.change
    (sym (append-nil c.args.changes.now.items) ∙ ap (λ o. c.args.changes.now.items ++ option_to_list o) (sym c.in_default.is))
