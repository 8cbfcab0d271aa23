use Rattle.std.proofs.Common.{◌≡◌, ◌∙◌, ◌+◌, ℕ, ap, arith, false, is_some, Option, subst, sym, true}
use Rattle.cookie_parts.specs.Cookie.{Row}
use Rattle.cookie_laws.specs.Rows.{Key, RowsInOrder, has_key, removed, row_of, same_key}
use Rattle.cookie_rows.specs.Items.{AreItems, ItemGroups, find_items, groups_in_order, remove_items}
use Rattle.cookie_rows.proofs.AreItems.{found_items, items_removed, kept_removed}
use Rattle.cookie_rows.proofs.RowLengths.{count_removed, count_unremoved, none_unless, row_count}
use Rattle.cookie_rows.proofs.rows.Rows.remove.Goals as goal

module _ (n : ℕ) (gs : ItemGroups) (a : AreItems n gs) (key : Key) where
  -- the row that is found is that of the key
  row_is : (row : Option Row) → row ≡ find_items key gs → (old : RowsInOrder) → groups_in_order gs ≡ old → row ≡ row_of key old.rows
  row_is row found old same = found ∙ found_items n gs a key ∙ ap (λ (k : RowsInOrder). row_of key k.rows) same

  module _ (hs : ItemGroups) (is : hs ≡ remove_items key gs) where
    -- what is left are groups of rows
    are_left : AreItems n hs
    are_left = subst (AreItems n) (sym is) (items_removed n gs a key)

    -- with the other rows
    others_are : (old : RowsInOrder) → groups_in_order gs ≡ old
        → groups_in_order hs ≡ record { rows = removed (has_key key) old.rows; created = removed (same_key key) old.created }
    others_are old same =
        ap groups_in_order is ∙ kept_removed n gs a key
        ∙ ap (λ (k : RowsInOrder). record { rows = removed (has_key key) k.rows; created = removed (same_key key) k.created }) same

    module _ (row : Option Row) (found : row ≡ find_items key gs) where
      -- one less if a row is found
      one_less : is_some row ≡ true → row_count hs + 1 ≡ row_count gs
      one_less some = ap (λ ks. row_count ks + 1) is ∙ count_removed n gs a key (λ none. let gone = ap is_some (found ∙ none) in absurd (cc))

      -- and else as many
      no_less : is_some row ≡ false → row_count hs ≡ row_count gs
      no_less none = ap row_count is ∙ count_unremoved n gs a key (sym found ∙ none_unless row none)

pub overflow_sub-self : goal.overflow_sub-self
overflow_sub-self c =
    let removed = c.remove_row-removed.ensures in
    omega (arith, c.self.invariant.1, one_less c.self.inside.created _ c.self.invariant.0 _ _ removed.removed _ removed.value (sym c.is_some.ensures ∙ c.if-is_some.true))

pub invariant_of-self : goal.invariant_of-self
invariant_of-self c =
    let removed = c.remove_row-removed.ensures in
    let less = one_less c.self.inside.created _ c.self.invariant.0 _ _ removed.removed _ removed.value (sym c.is_some.ensures ∙ c.if-is_some.true) in
    (are_left c.self.inside.created _ c.self.invariant.0 _ _ removed.removed, omega (arith, c.self.invariant.1, less))

pub invariant_of-self-else-is_some : goal.invariant_of-self-else-is_some
invariant_of-self-else-is_some c =
    let removed = c.remove_row-removed.ensures in (
      are_left c.self.inside.created _ c.self.invariant.0 _ _ removed.removed,
      c.self.invariant.1 ∙ sym (no_less c.self.inside.created _ c.self.invariant.0 _ _ removed.removed _ removed.value (sym c.is_some.ensures ∙ c.if-is_some.false)),
    )

pub returns-then-is_some-clause-value : goal.returns-then-is_some-clause-value
returns-then-is_some-clause-value c =
    row_is c.self.inside.created _ c.self.invariant.0 _ _ c.remove_row-removed.ensures.value _ c.self.view_is

pub returns-then-is_some-clause-removed : goal.returns-then-is_some-clause-removed
returns-then-is_some-clause-removed c =
    others_are c.self.inside.created _ c.self.invariant.0 _ _ c.remove_row-removed.ensures.removed _ c.self.view_is

pub returns-else-is_some-clause-value : goal.returns-else-is_some-clause-value
returns-else-is_some-clause-value c =
    row_is c.self.inside.created _ c.self.invariant.0 _ _ c.remove_row-removed.ensures.value _ c.self.view_is

pub returns-else-is_some-clause-removed : goal.returns-else-is_some-clause-removed
returns-else-is_some-clause-removed c =
    others_are c.self.inside.created _ c.self.invariant.0 _ _ c.remove_row-removed.ensures.removed _ c.self.view_is
