use Rattle.std.proofs.Common.{List, ◌≡◌, ◌∙◌, ◌++◌, ◌∷◌, [], sym, ap, rules}
use Rattle.std.specs.Prelude.{string_bytes}
use Rattle.std.specs.String.{string_eq}
use Rattle.indexmap.specs.IndexMap.{insert_entry}
use Rattle.cookie_rows.specs.GroupChanges.{put_at, texts_of}
use Rattle.cookie_rows.specs.SecureKeys.{ScopeValue, scope_of}
use Rattle.cookie_rows.proofs.Maps.{put_insert, put_set, same_set}
use Rattle.cookie_rows.proofs.Results.{on_err_map, on_ok_map}
use Rattle.cookie_rows.proofs.secure_keys.add_to.Goals as goal

pub returns-in-Some-clause-added : goal.returns-in-Some-clause-added
returns-in-Some-clause-added c =
    let es = c.args.names.now.entries in
    let q = c.name.result.now in
    let named = c.in-Some.named.now in
    let f = λ (scopes : List ScopeValue). scopes ++ scope_of c.args.cookie.now ∷ [] in
    on_ok_map c.push.result
    (λ new. ap texts_of (c.get_mut.follows.holds c.push.new.self).0
    ∙ put_set (λ v. v) f q es named c.push.new.self c.in-Some.ensures.value (new ∙ ap (λ (s : ScopeValue). named ++ s ∷ []) c.in_ok-scope.ensures)
    ∙ ap (λ t. put_at f t (texts_of es)) c.name.ensures)
    c.push.ensures.added

pub returns-in-Some-clause-unchanged : goal.returns-in-Some-clause-unchanged
returns-in-Some-clause-unchanged c =
    on_err_map c.push.result
    (λ same. ap texts_of (c.get_mut.follows.holds c.push.new.self).0 ∙ same_set (λ v. v) _ c.args.names.now.entries c.in-Some.named.now c.push.new.self c.in-Some.ensures.value same)
    c.push.ensures.unchanged

pub returns-in_ok-insert-in-None-clause-added : goal.returns-in_ok-insert-in-None-clause-added
returns-in_ok-insert-in-None-clause-added c =
    let es = c.args.names.now.entries in
    let q = c.name.result.now in
    let f = λ (scopes : List ScopeValue). scopes ++ scope_of c.args.cookie.now ∷ [] in
    let key = c.in_ok-name-in-None.name in
    let is : string_bytes key ≡ c.args.cookie.now.raw.name = search rules in
    let value : c.in_ok-of_one-in-None.field-0 ≡ f [] = c.in_ok-of_one-in-None.ensures ∙ ap (λ (s : ScopeValue). s ∷ []) c.in_ok-scope.ensures in
    ap texts_of c.in_ok-insert-in-None.ensures.entries
    ∙ ap (λ m. texts_of (insert_entry string_eq m.entries key c.in_ok-of_one-in-None.field-0)) c.get_mut.follows.holds-at-none
    ∙ put_insert (λ v. v) f q key es c.in_ok-of_one-in-None.field-0 (is ∙ sym c.name.ensures) c.in-None.ensures.value value
    ∙ ap (λ t. put_at f t (texts_of es)) c.name.ensures
