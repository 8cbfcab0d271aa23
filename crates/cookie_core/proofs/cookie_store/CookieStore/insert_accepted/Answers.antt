use Rattle.std.proofs.Common.{◌∷◌, ◌∙◌, ap, subst, sym}
use Rattle.cookie_words.specs.Moments.{moment_of}
use Rattle.cookie_laws.specs.Acceptance.{accept}
use Rattle.cookie_laws.specs.Contents.{Contents, contents_of, rows_in_order}
use Rattle.cookie_laws.specs.Rows.{RowsInOrder}
use Rattle.cookie_laws.specs.SecureLast.{accept_secure_last}
use Rattle.cookie_rows.specs.Eviction.{HasRoom}
use Rattle.cookie_core.specs.Insertions.{IsAccepted, as_stored, store_in, stored_in}
use Rattle.cookie_core.proofs.Inserted.{accepted_is_stored, in_order_has, ok_then, stored_keeps, stored_reply, stored_room}
use Rattle.cookie_core.proofs.KeyedRows.{IsKept, indexes_inserted, kept_inserted}
use Rattle.cookie_core.proofs.cookie_store.CookieStore.insert_accepted.Goals as goal

pub store_row-requires : goal.store_row-requires
store_row-requires c =
    let now = moment_of c.args.now in
    let acceptance = c.args.acceptance in
    let begun = contents_of c.self.inside.rows c.self.inside.suffixes c.self.inside.limit in
    let (url, given) = c.requires.accepted in
    let accepted = subst (λ (store : Contents). IsAccepted url store c.args.cookie now acceptance) (sym c.self.view_is) given in
    record {
      action = rw c.as_stored-cookie.ensures (url, stored_reply acceptance.is_host_only begun c.args.cookie url now ∙ accepted.is_replied);
      room = λ inserted. rw c.as_stored-cookie.ensures
          (stored_room c.args.order acceptance.is_host_only c.self.inside.rows c.self.inside.suffixes c.self.inside.limit c.args.cookie now
          (subst (λ (store : Contents). HasRoom c.args.order store c.args.cookie now) (sym c.self.view_is) (c.requires.room inserted)));
    }

pub returns-clause-store : goal.returns-clause-store
returns-clause-store c =
    let now = moment_of c.args.now in
    let acceptance = c.args.acceptance in
    let order = c.args.order in
    let suffixes = c.self.inside.suffixes in
    let limit = c.self.inside.limit in
    let stored = as_stored acceptance.is_host_only c.args.cookie in
    ok_then c.store_row.result
    (λ is url accepted.
    ap (λ (kept : RowsInOrder). contents_of kept suffixes limit) is
    ∙ stored_keeps order acceptance.action c.self.inside.rows suffixes limit stored now
    ∙ ap (λ (store : Contents). stored_in order acceptance.action store stored now) c.self.view_is
    ∙ sym (accepted_is_stored order url c.args.self.now c.args.cookie now acceptance accepted))
    (rw c.as_stored-cookie.ensures at c.store_row.ensures.stored)

pub invariant_of-self : goal.invariant_of-self
invariant_of-self c =
    let now = moment_of c.args.now in
    let acceptance = c.args.acceptance in
    let order = c.args.order in
    let cookie = c.args.cookie in
    let suffixes = c.self.inside.suffixes in
    let limit = c.self.inside.limit in
    let begun = contents_of c.self.inside.rows suffixes limit in
    let (url, given) = c.requires.accepted in
    let accepted = subst (λ (store : Contents). IsAccepted url store cookie now acceptance) (sym c.self.view_is) given in
    let after = store_in order begun cookie url now in
    let kept = in_order_has (λ (store : Contents). IsKept (cookie ∷ begun.rows) store.rows) order begun cookie url now
    (kept_inserted begun (accept begun cookie url now).store cookie (λ test. c.preserved_by_calls.ensures.inserted test begun cookie url now))
    (kept_inserted begun (accept_secure_last begun cookie url now) cookie (λ test. c.preserved_by_calls.ensures.inserted_secure_last test begun cookie url now)) in
    indexes_inserted c.with_cookie.result begun after cookie c.store_row.result c.store_row.new.rows kept
    (ok_then c.store_row.result
    (λ is. is ∙ ap rows_in_order (stored_keeps order acceptance.action c.self.inside.rows suffixes limit (as_stored acceptance.is_host_only cookie) now
    ∙ sym (accepted_is_stored order url begun cookie now acceptance accepted)))
    (rw c.as_stored-cookie.ensures at c.store_row.ensures.stored))
    c.store_row.ensures.unchanged c.with_cookie.ensures
