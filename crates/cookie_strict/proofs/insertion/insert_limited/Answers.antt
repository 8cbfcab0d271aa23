use Rattle.std.proofs.Common.{◌≡◌, Ok, sym, ap, subst, ◌∙◌}
use Rattle.cookie_words.specs.Moments.{moment_of}
use Rattle.cookie_parts.specs.declared.store_action.StoreAction.TheVariants.{Inserted}
use Rattle.cookie_laws.specs.Contents.{Contents}
use Rattle.cookie_laws.specs.Acceptance.{accept}
use Rattle.cookie_laws.specs.Runs.{Insert, Stored}
use Rattle.cookie_laws.specs.SecureLast.{accept_secure_last}
use Rattle.cookie_core.specs.Insertions.{IsAccepted}
use Rattle.cookie_strict.specs.StrictRules.{broken_rule}
use Rattle.cookie_strict.specs.StrictRuns.{allowed_insertion, if_accepted, store_after_call, unless_broken}
use Rattle.cookie_strict.proofs.SecureRows.{keeps_rules, not_full}
use Rattle.cookie_strict.proofs.insertion.insert_limited.Goals as goal

pub insert_accepted-requires : goal.insert_accepted-requires
insert_accepted-requires c =
    let cookie = c.args.cookie in
    let url = c.args.url.now in
    let now = moment_of c.args.now in
    let store = c.index_secure.new.store in
    let indexed : store ≡ c.args.store.now = c.index_secure.ensures in
    let acceptance = c.in_ok-acceptance.acceptance in
    record {
      accepted = (url, subst (λ (s : Contents). IsAccepted url s cookie now acceptance) (sym indexed) c.in_ok-acceptance.ensures.accepted);
      room = λ inserted plain.
          let replied : Stored (accept store cookie url now).reply ≡ Stored (Ok Inserted) =
          ap (λ (s : Contents). Stored (accept s cookie url now).reply) indexed ∙ c.in_ok-acceptance.ensures.inserted
          ∙ ap (λ action. Stored (Ok action)) inserted in
          let new : (accept store cookie url now).reply ≡ Ok Inserted = cc in
          not_full cookie url now store (keeps_rules cookie url now store (sym c.in_default.ensures.value)) plain new;
    }

pub returns-clause-store : goal.returns-clause-store
returns-clause-store c =
    let cookie = c.args.cookie in
    let url = c.args.url.now in
    let now = moment_of c.args.now in
    let store = c.args.store.now in
    let call = Insert cookie url now in
    let acceptance = c.in_ok-acceptance.acceptance in
    let indexed : c.index_secure.new.store ≡ store = c.index_secure.ensures in
    let allowed : allowed_insertion cookie url now store ≡ Ok call =
    ap (λ reply. if_accepted reply (broken_rule cookie url now store) call) c.in_ok-acceptance.ensures.reply
    ∙ ap (λ broken. unless_broken broken call) (sym (c.in_default.ensures.value ∙ ap (broken_rule cookie url now) indexed)) in
    c.in_ok-insert_accepted.ensures.store url (subst (λ (s : Contents). IsAccepted url s cookie now acceptance) (sym indexed) c.in_ok-acceptance.ensures.accepted)
    ∙ ap (λ (s : Contents). accept_secure_last s cookie url now) indexed
    ∙ sym (c.evictions_are_removals.ensures.store store cookie url now c.in_ok-acceptance.ensures.in_order c.in_ok-acceptance.ensures.has_creation_order)
    ∙ ap (λ (a : _). store_after_call a store) (sym allowed)
