use Rattle.std.proofs.Common.{◌∙◌, ◌+◌, ◌<◌, ap, arith, inl, refl, subst, sym, None, Some}
use Rattle.cookie_words.specs.Moments.{moment_of}
use Rattle.cookie_laws.specs.Contents.{contents_of, rows_in_order}
use Rattle.cookie_laws.specs.Rows.{RowsInOrder, key_of, add_created, put, row_of}
use Rattle.cookie_rows.specs.Items.{AreItems, Item, find_items, groups_in_order, put_items}
use Rattle.cookie_rows.specs.Eviction.{HasRoom, InsertsInDomains, with_inserted}
use Rattle.cookie_rows.specs.Stored.{domains_in}
use Rattle.cookie_rows.proofs.AreItems.{found_items, items_put, kept_put}
use Rattle.cookie_rows.proofs.Inserted.{items_inserted, kept_at_least_one, kept_inserted, kept_unlimited}
use Rattle.cookie_rows.proofs.KeyClasses.{room_at_least_one}
use Rattle.cookie_rows.proofs.RowLengths.{count_items, count_new, few_rows, row_count}
use Rattle.cookie_rows.proofs.rows.Rows.insert_within_limit.Goals as goal

pub add_row-requires : goal.add_row-requires
add_row-requires c =
    let n = c.self.inside.created in
    let gs = domains_in c.self.inside.groups in
    let key = key_of c.args.cookie in
    record {
      new = ap (λ (i : Item). find_items (key_of i.row) gs) c.in_ok-row.ensures ∙ found_items n gs c.self.invariant.0 key
          ∙ ap (λ (k : RowsInOrder). row_of key k.rows) c.self.view_is ∙ c.requires.new;
    }

pub overflow_add-self : goal.overflow_add-self
overflow_add-self c =
    let few = few_rows c.self.inside.created (domains_in c.self.inside.groups) c.self.invariant.0 in
    omega (arith, few, c.self.invariant.1, c.in-Some.ensures)

pub invariant_of-self-in-None : goal.invariant_of-self-in-None
invariant_of-self-in-None c =
    let n = c.self.inside.created in
    let gs = domains_in c.self.inside.groups in
    let added = c.in_ok-add_row-in-None.ensures.added ∙ ap (λ (i : Item). put_items i.row i.number gs) c.in_ok-row.ensures in
    let new = ap (λ (k : RowsInOrder). row_of (key_of c.args.cookie) k.rows) c.self.view_is ∙ c.requires.new in
    let count = ap row_count added ∙ count_new n gs c.self.invariant.0 c.args.cookie (found_items n gs c.self.invariant.0 (key_of c.args.cookie) ∙ new) in (
      subst (λ m. AreItems m (domains_in c.add_row.new.groups)) (sym c.in-Some.ensures.1)
          (subst (AreItems (n + 1)) (sym added) (items_put n gs c.self.invariant.0 c.args.cookie (n + 1) (inl refl))),
      ap (λ l. l + 1) c.self.invariant.1 ∙ sym count,
    )

pub returns-in_ok-add_row-in-None-clause-inserted : goal.returns-in_ok-add_row-in-None-clause-inserted
returns-in_ok-add_row-in-None-clause-inserted c =
    let n = c.self.inside.created in
    let gs = domains_in c.self.inside.groups in
    let row = c.args.cookie in
    rw c.in-None.is
    (ap groups_in_order (c.in_ok-add_row-in-None.ensures.added ∙ ap (λ (i : Item). put_items i.row i.number gs) c.in_ok-row.ensures)
    ∙ kept_put n gs c.self.invariant.0 row
    ∙ ap (λ (k : RowsInOrder). record { rows = put k.rows row; created = add_created k.created (key_of row) }) c.self.view_is
    ∙ kept_unlimited c.args.order c.args.self.now row (moment_of c.args.now))

pub insert_row_within_limit-requires-clause-new : goal.insert_row_within_limit-requires-clause-new
insert_row_within_limit-requires-clause-new c =
    let n = c.self.inside.created in
    let gs = domains_in c.self.inside.groups in
    let key = key_of c.args.cookie in
    ap (λ (i : Item). find_items (key_of i.row) gs) c.in_ok-row.ensures ∙ found_items n gs c.self.invariant.0 key
    ∙ ap (λ (k : RowsInOrder). row_of key k.rows) c.self.view_is ∙ c.requires.new

pub insert_row_within_limit-requires-clause-numbered : goal.insert_row_within_limit-requires-clause-numbered
insert_row_within_limit-requires-clause-numbered c =
    subst (λ (i : Item). AreItems i.number (domains_in c.self.inside.groups)) (sym c.in_ok-row.ensures) c.self.invariant.0

pub overflow_add-self-in-Some-limit : goal.overflow_add-self-in-Some-limit
overflow_add-self-in-Some-limit c =
    let few = few_rows c.self.inside.created (domains_in c.self.inside.groups) c.self.invariant.0 in
    omega (arith, few, c.self.invariant.1, c.in-Some.ensures)

pub overflow_sub-self : goal.overflow_sub-self
overflow_sub-self c =
    let less = c.in_ok-evicted-in-Some-limit.ensures.evicted in
    omega (arith, c.self.invariant.1, less, count_items (domains_in c.self.inside.groups))

pub invariant_of-self-in-Some-limit : goal.invariant_of-self-in-Some-limit
invariant_of-self-in-Some-limit c =
    let n = c.self.inside.created in
    let gs = domains_in c.self.inside.groups in
    let row = c.args.cookie in
    let new = domains_in c.insert_row_within_limit.new.groups in
    let fresh = ap (λ (k : RowsInOrder). row_of (key_of row) k.rows) c.self.view_is ∙ c.requires.new in
    let live = rw c.in-Some-limit.is at c.requires.unexpired in
    let some : 0 < c.max.result = omega (arith, c.max.ensures) in
    let given = rw c.in-Some-limit.is at c.requires.room in
    let room : HasRoom c.args.order (contents_of (groups_in_order gs) None (Some c.max.result)) row (moment_of c.args.now)
    = subst (λ (k : RowsInOrder). HasRoom c.args.order (contents_of k None (Some c.max.result)) row (moment_of c.args.now)) (sym c.self.view_is)
    (subst (λ l. HasRoom c.args.order (contents_of c.args.self.now None (Some l)) row (moment_of c.args.now)) (sym c.max.ensures)
    (room_at_least_one c.args.order c.args.self.now c.in-Some-limit.limit row (moment_of c.args.now) given)) in
    let inserted = subst (λ (i : Item). InsertsInDomains c.max.result c.args.order (moment_of c.args.now) i.row i.number gs new) c.in_ok-row.ensures c.in_ok-evicted-in-Some-limit.ensures.inserted in
    let less = c.in_ok-evicted-in-Some-limit.ensures.evicted in (
      subst (λ m. AreItems m new) (sym c.in-Some.ensures.1)
          (items_inserted n c.max.result gs c.self.invariant.0 row c.args.order (moment_of c.args.now) fresh live some room new inserted),
      omega (arith, c.self.invariant.1, less, count_items new, count_items gs),
    )

pub returns-in_ok-evicted-in-Some-limit-clause-inserted : goal.returns-in_ok-evicted-in-Some-limit-clause-inserted
returns-in_ok-evicted-in-Some-limit-clause-inserted c =
    let n = c.self.inside.created in
    let gs = domains_in c.self.inside.groups in
    let row = c.args.cookie in
    let now = moment_of c.args.now in
    let new = domains_in c.insert_row_within_limit.new.groups in
    let fresh = ap (λ (k : RowsInOrder). row_of (key_of row) k.rows) c.self.view_is ∙ c.requires.new in
    let live = rw c.in-Some-limit.is at c.requires.unexpired in
    let some : 0 < c.max.result = omega (arith, c.max.ensures) in
    let given = rw c.in-Some-limit.is at c.requires.room in
    let room : HasRoom c.args.order (contents_of (groups_in_order gs) None (Some c.max.result)) row (moment_of c.args.now)
    = subst (λ (k : RowsInOrder). HasRoom c.args.order (contents_of k None (Some c.max.result)) row (moment_of c.args.now)) (sym c.self.view_is)
    (subst (λ l. HasRoom c.args.order (contents_of c.args.self.now None (Some l)) row (moment_of c.args.now)) (sym c.max.ensures)
    (room_at_least_one c.args.order c.args.self.now c.in-Some-limit.limit row (moment_of c.args.now) given)) in
    let inserted = subst (λ (i : Item). InsertsInDomains c.max.result c.args.order now i.row i.number gs new) c.in_ok-row.ensures c.in_ok-evicted-in-Some-limit.ensures.inserted in
    rw c.in-Some-limit.is
    (kept_inserted n c.max.result gs c.self.invariant.0 row c.args.order now fresh live some room new inserted
    ∙ ap (λ (k : RowsInOrder). rows_in_order (with_inserted c.args.order (contents_of k None (Some c.max.result)) row now)) c.self.view_is
    ∙ ap (λ l. rows_in_order (with_inserted c.args.order (contents_of c.args.self.now None (Some l)) row now)) c.max.ensures
    ∙ kept_at_least_one c.args.order c.args.self.now c.in-Some-limit.limit row now)
