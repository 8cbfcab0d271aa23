use Rattle.std.proofs.Common.{◌≡◌, ◌∙◌, ℕ, ◌<◌, ◌≤◌, true, false, List, String, ap, arith, inl, inr, length, refl, subst, sym, Some, None}
use Rattle.std.specs.Prelude.{nat_lt}
use Rattle.std.specs.Map.{lookup, set_value}
use Rattle.std.proofs.lemmas.Bool.Decides.{nat_tests}
use Rattle.cookie_words.specs.Moments.{Moment, moment_of}
use Rattle.cookie_parts.specs.Cookie.{Row}
use Rattle.cookie_parts.specs.Domain.{domain_text}
use Rattle.cookie_lookup.specs.SearchView.{group_position}
use Rattle.ordered_map.specs.Entries.{entries}
use Rattle.cookie_lookup.specs.Positions.{paths_in_order}
use Rattle.cookie_rows.specs.GroupChanges.{found, texts_by}
use Rattle.cookie_rows.specs.Items.{find_item_paths, put_item_paths, put_items}
use Rattle.cookie_rows.specs.Eviction.{class_of, InsertsInDomains, EvictsInPaths, IsFirstSurvivor, insert_in_paths, is_single_paths, moved_to_end_if, survives, ranks_of}
use Rattle.cookie_rows.specs.declared.eviction_order.EvictionOrder.{EvictionOrder}
use Rattle.cookie_rows.specs.Least.{AreNumbered, items_in_groups, items_in_paths}
use Rattle.cookie_rows.specs.Stored.{StoredPaths, domains_in}
use Rattle.cookie_rows.proofs.DomainMaps.{paths_none, paths_some, position_none}
use Rattle.cookie_rows.proofs.LeastEvicted.{count_ranks, numbered_put}
use Rattle.cookie_rows.proofs.Maps.{at_text, found_some, put_set, same_set}
use Rattle.cookie_rows.proofs.RowCounts.{count_put, groups_evicted, groups_moved, groups_put}
use Rattle.cookie_rows.proofs.Results.{either_way, known_some}
use Rattle.cookie_rows.proofs.domains.insert_row_within_limit.Goals as goal

-- there are fewer rows than the limit
is_fewer : (count limit : ℕ) → nat_lt count limit ≡ true → count < limit
is_fewer count limit is = grind (arith, nat_tests, is)

-- there are at least as many
is_full : (count limit : ℕ) → nat_lt count limit ≡ false → limit ≤ count
is_full count limit is = grind (arith, nat_tests, is)

module _ {A : Type 0} (limit : ℕ) (order : EvictionOrder) (now : Moment) (row : Row) (n : ℕ) (es : List (String A × StoredPaths)) (old new : StoredPaths)
    (there : Some old ≡ lookup (at_text (domain_text row.domain)) es) where
  -- if a row was put into the groups of its domain and none was evicted, it was put into all
  enters_room : length (items_in_paths (paths_in_order old)) < limit → paths_in_order new ≡ put_item_paths row n (paths_in_order old)
      → InsertsInDomains limit order now row n (texts_by paths_in_order es) (texts_by paths_in_order (set_value (at_text (domain_text row.domain)) es new))
  enters_room less is =
      let d = domain_text row.domain in
      let fewer = subst (λ k. k < limit) (sym (count_ranks order now (paths_in_order old))) less in
      let room = subst (λ ps. length (ranks_of order now ps) < limit) (sym (paths_some paths_in_order d es old there)) fewer in
      inl (room, put_set paths_in_order (put_item_paths row n) d es old new there is)

  -- if rows were evicted, its domain is then moved to the end if the row is alone in it
  enters_left : EvictsInPaths limit order now row n (paths_in_order old) (paths_in_order new)
      → InsertsInDomains limit order now row n (texts_by paths_in_order es) (moved_to_end_if is_single_paths (domain_text row.domain) (texts_by paths_in_order (set_value (at_text (domain_text row.domain)) es new)))
  enters_left e =
      let d = domain_text row.domain in
      let here = sym (paths_some paths_in_order d es old there) in
      inr (
        e.0,
        subst (λ ps. IsFirstSurvivor limit order now (class_of order now row, n) ps e.0) here e.1,
        subst (λ ps. limit ≤ length (ranks_of order now ps)) here e.2,
        ap (moved_to_end_if is_single_paths d) (put_set paths_in_order (insert_in_paths (survives order now e.0) row n) d es old new there e.3),
      )

pub add_domain-requires : goal.add_domain-requires
add_domain-requires c =
    let es = entries c.args.groups.now in
    let domain = c.as_str.ensures ∙ ap (λ (r : Row). domain_text r.domain) c.behind-row.view_is ∙ ap (λ (r : Row). domain_text r.domain) c.cookie.ensures in
    record {
      absent = ap (λ m. group_position (domain_text c.args.row.row.domain) (domains_in m)) c.get_mut.follows.holds-at-none
          ∙ ap (λ t. group_position t (texts_by paths_in_order es)) (sym domain) ∙ position_none paths_in_order c.as_str.result.now es c.in-None.ensures.value;
    }

pub returns-in_err-add_domain-in-None-clause-unchanged : goal.returns-in_err-add_domain-in-None-clause-unchanged
returns-in_err-add_domain-in-None-clause-unchanged c =
    either_way c.from_residual.result (c.in_err-add_domain-in-None.ensures.unchanged ∙ ap domains_in c.get_mut.follows.holds-at-none)

pub returns-in-None-clause-inserted : goal.returns-in-None-clause-inserted
returns-in-None-clause-inserted c =
    let row = c.args.row.row in
    let es = entries c.args.groups.now in
    let domain = c.as_str.ensures ∙ ap (λ (r : Row). domain_text r.domain) c.behind-row.view_is ∙ ap (λ (r : Row). domain_text r.domain) c.cookie.ensures in
    let none = subst (λ t. None ≡ lookup (at_text t) es) domain c.in-None.ensures.value in
    let room = subst (λ ps. length (ranks_of c.args.order (moment_of c.args.now) ps) < c.args.limit) (sym (paths_none paths_in_order (domain_text row.domain) es none)) c.requires.limit in
    inl (room, c.in_ok-add_domain-in-None.ensures.added ∙ ap (λ m. put_items row c.args.row.number (domains_in m)) c.get_mut.follows.holds-at-none)

pub returns-in-None-clause-evicted : goal.returns-in-None-clause-evicted
returns-in-None-clause-evicted c =
    let row = c.args.row.row in
    let added = c.in_ok-add_domain-in-None.ensures.added ∙ ap (λ m. put_items row c.args.row.number (domains_in m)) c.get_mut.follows.holds-at-none in
    omega (arith, ap (λ gs. length (items_in_groups gs)) added, groups_put row c.args.row.number (domains_in c.args.groups.now) c.requires.new)

pub add-requires : goal.add-requires
add-requires c =
    let es = entries c.args.groups.now in
    let row = c.args.row.row in
    let named = find_item_paths row.path.text row.raw.name in
    let domain = c.as_str.ensures ∙ ap (λ (r : Row). domain_text r.domain) c.behind-row.view_is ∙ ap (λ (r : Row). domain_text r.domain) c.cookie.ensures in
    record { new = found_some paths_in_order named c.as_str.result.now es c.in-Some.group.now c.in-Some.ensures.value ∙ ap (λ t. found named t (texts_by paths_in_order es)) domain ∙ c.requires.new }

pub returns-in_err-add-in-Some-clause-unchanged : goal.returns-in_err-add-in-Some-clause-unchanged
returns-in_err-add-in-Some-clause-unchanged c =
    either_way c.from_residual-in_err-add-in-Some.result
    (ap (texts_by paths_in_order) (known_some c.get_mut.result c.in-Some.is (c.get_mut.follows.holds c.add.new.self)).written
    ∙ same_set paths_in_order _ (entries c.args.groups.now) c.in-Some.group.now c.add.new.self c.in-Some.ensures.value c.in_err-add-in-Some.ensures.unchanged)

pub returns-then-has_fewer_than-clause-inserted : goal.returns-then-has_fewer_than-clause-inserted
returns-then-has_fewer_than-clause-inserted c =
    let row = c.args.row.row in
    let es = entries c.args.groups.now in
    let domain = c.as_str.ensures ∙ ap (λ (r : Row). domain_text r.domain) c.behind-row.view_is ∙ ap (λ (r : Row). domain_text r.domain) c.cookie.ensures in
    let there = subst (λ t. Some c.in-Some.group.now ≡ lookup (at_text t) es) domain c.in-Some.ensures.value in
    let set = (known_some c.get_mut.result c.in-Some.is (c.get_mut.follows.holds c.add.new.self)).written ∙ ap (λ t. set_value (at_text t) es c.add.new.self) domain in
    let fewer = is_fewer (length (items_in_paths (paths_in_order c.in-Some.group.now))) c.args.limit (sym c.has_fewer_than.ensures ∙ c.if-has_fewer_than.true) in
    subst (InsertsInDomains c.args.limit c.args.order (moment_of c.args.now) row c.args.row.number (texts_by paths_in_order es)) (sym (ap (texts_by paths_in_order) set))
    (enters_room c.args.limit c.args.order (moment_of c.args.now) row c.args.row.number es c.in-Some.group.now c.add.new.self there fewer c.in_ok-add-in-Some.ensures.added)

pub returns-then-has_fewer_than-clause-evicted : goal.returns-then-has_fewer_than-clause-evicted
returns-then-has_fewer_than-clause-evicted c =
    let row = c.args.row.row in
    let es = entries c.args.groups.now in
    let domain = c.as_str.ensures ∙ ap (λ (r : Row). domain_text r.domain) c.behind-row.view_is ∙ ap (λ (r : Row). domain_text r.domain) c.cookie.ensures in
    let there = subst (λ t. Some c.in-Some.group.now ≡ lookup (at_text t) es) domain c.in-Some.ensures.value in
    let set = (known_some c.get_mut.result c.in-Some.is (c.get_mut.follows.holds c.add.new.self)).written ∙ ap (λ t. set_value (at_text t) es c.add.new.self) domain in
    let named = find_item_paths row.path.text row.raw.name in
    let fresh = found_some paths_in_order named c.as_str.result.now es c.in-Some.group.now c.in-Some.ensures.value ∙ ap (λ t. found named t (texts_by paths_in_order es)) domain ∙ c.requires.new in
    let one = ap (λ ps. length (items_in_paths ps)) c.in_ok-add-in-Some.ensures.added ∙ count_put row c.args.row.number (paths_in_order c.in-Some.group.now) fresh in
    omega (arith, ap (λ hs. length (items_in_groups (texts_by paths_in_order hs))) set, groups_evicted paths_in_order (domain_text row.domain) es c.in-Some.group.now c.add.new.self 0 there (omega (arith, one)))

pub insert_at_limit-requires : goal.insert_at_limit-requires
insert_at_limit-requires c =
    let es = entries c.args.groups.now in
    let row = c.args.row.row in
    let named = find_item_paths row.path.text row.raw.name in
    let domain = c.as_str.ensures ∙ ap (λ (r : Row). domain_text r.domain) c.behind-row.view_is ∙ ap (λ (r : Row). domain_text r.domain) c.cookie.ensures in
    let there = subst (λ t. Some c.in-Some.group.now ≡ lookup (at_text t) es) domain c.in-Some.ensures.value in
    record {
      limit = c.requires.limit;
      full = is_full (length (items_in_paths (paths_in_order c.in-Some.group.now))) c.args.limit (sym c.has_fewer_than.ensures ∙ c.if-has_fewer_than.false);
      numbered = subst (λ ps. AreNumbered (put_item_paths row c.args.row.number ps)) (paths_some paths_in_order (domain_text row.domain) es c.in-Some.group.now there)
          (numbered_put c.args.row.number (texts_by paths_in_order es) c.requires.numbered row);
      new = found_some paths_in_order named c.as_str.result.now es c.in-Some.group.now c.in-Some.ensures.value ∙ ap (λ t. found named t (texts_by paths_in_order es)) domain ∙ c.requires.new;
    }

pub returns-in_err-domain-in-Some-clause-unchanged : goal.returns-in_err-domain-in-Some-clause-unchanged
returns-in_err-domain-in-Some-clause-unchanged c =
    either_way c.from_residual-in_err-domain-in-Some.result
    (ap (texts_by paths_in_order) (known_some c.get_mut.result c.in-Some.is (c.get_mut.follows.holds c.in-Some.group.now)).written ∙ same_set paths_in_order _ (entries c.args.groups.now) c.in-Some.group.now c.in-Some.group.now c.in-Some.ensures.value refl)

pub returns-in_err-evicted-in-Some-clause-unchanged : goal.returns-in_err-evicted-in-Some-clause-unchanged
returns-in_err-evicted-in-Some-clause-unchanged c =
    either_way c.from_residual-in_err-evicted-in-Some.result
    (ap (texts_by paths_in_order) (known_some c.get_mut.result c.in-Some.is (c.get_mut.follows.holds c.insert_at_limit.new.self)).written
    ∙ same_set paths_in_order _ (entries c.args.groups.now) c.in-Some.group.now c.insert_at_limit.new.self c.in-Some.ensures.value c.in_err-evicted-in-Some.ensures.unchanged)

pub returns-clause-inserted : goal.returns-clause-inserted
returns-clause-inserted c =
    let row = c.args.row.row in
    let es = entries c.args.groups.now in
    let domain = c.as_str.ensures ∙ ap (λ (r : Row). domain_text r.domain) c.behind-row.view_is ∙ ap (λ (r : Row). domain_text r.domain) c.cookie.ensures in
    let there = subst (λ t. Some c.in-Some.group.now ≡ lookup (at_text t) es) domain c.in-Some.ensures.value in
    let new = c.insert_at_limit.new.self in
    let set = (known_some c.get_mut.result c.in-Some.is (c.get_mut.follows.holds new)).written ∙ ap (λ t. set_value (at_text t) es new) domain in
    let again = c.as_str-in-Some.ensures ∙ ap (λ (r : Row). domain_text r.domain) c.behind-row-in-Some.view_is ∙ ap (λ (r : Row). domain_text r.domain) c.cookie-in-Some.ensures in
    let copy = c.as_str-2.ensures.value ∙ c.in_ok-domain-in-Some.ensures.ok ∙ again in
    subst (InsertsInDomains c.args.limit c.args.order (moment_of c.args.now) row c.args.row.number (texts_by paths_in_order es))
    (sym (c.move_domain_to_end.ensures
    ∙ ap (λ t. moved_to_end_if is_single_paths t (domains_in (c.get_mut.follows.lender new))) copy
    ∙ ap (λ hs. moved_to_end_if is_single_paths (domain_text row.domain) (texts_by paths_in_order hs)) set))
    (enters_left c.args.limit c.args.order (moment_of c.args.now) row c.args.row.number es c.in-Some.group.now new there c.in_ok-evicted-in-Some.ensures.evicts)

pub returns-clause-evicted : goal.returns-clause-evicted
returns-clause-evicted c =
    let row = c.args.row.row in
    let es = entries c.args.groups.now in
    let domain = c.as_str.ensures ∙ ap (λ (r : Row). domain_text r.domain) c.behind-row.view_is ∙ ap (λ (r : Row). domain_text r.domain) c.cookie.ensures in
    let there = subst (λ t. Some c.in-Some.group.now ≡ lookup (at_text t) es) domain c.in-Some.ensures.value in
    let new = c.insert_at_limit.new.self in
    let set = (known_some c.get_mut.result c.in-Some.is (c.get_mut.follows.holds new)).written ∙ ap (λ t. set_value (at_text t) es new) domain in
    let moved = ap (λ gs. length (items_in_groups gs)) c.move_domain_to_end.ensures ∙ groups_moved is_single_paths c.as_str-2.result.now (domains_in (c.get_mut.follows.lender new)) ∙ ap (λ hs. length (items_in_groups (texts_by paths_in_order hs))) set in
    let all = groups_evicted paths_in_order (domain_text row.domain) es c.in-Some.group.now new c.in_ok-evicted-in-Some.evicted there c.in_ok-evicted-in-Some.ensures.evicted in
    omega (arith, moved, all)
