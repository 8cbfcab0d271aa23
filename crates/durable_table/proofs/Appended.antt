-- The rows and the trees after one change, or one transaction, more.
use Rattle.std.proofs.Common.{◌≡◌, ℕ, Vec, Global, ◌+◌, ◌<◌, List, [], ◌∷◌, ◌++◌, length, take, get_or, refl, sym, ap, ◌∙◌}
use Rattle.std.proofs.lemmas.List.{get_or-map, length-map, take_more}
use Rattle.sqlite_value.specs.Order.{Row}
use Rattle.sqlite_trees.specs.Tree.{Trees}
use Rattle.sqlite_trees.specs.View.{View, SetsTree}
use Rattle.durable_table.specs.declared.change.Change.{Change}
use Rattle.durable_table.specs.Changes.{after, after_each, changed, in_table, lists}
use Rattle.durable_table.specs.Transactions.{Applies}
use Rattle.durable_table.proofs.InTable.{in_table-twice}

pub after-append : (changes : List Change) (change : Change) (rows : List Row) → after (changes ++ change ∷ []) rows ≡ changed change (after changes rows)
after-append [] change rows = refl
after-append (c ∷ changes) change rows = after-append changes change (changed c rows)

pub after_each-append : (transactions : List (List Change)) (changes : List Change) (rows : List Row)
    → after_each (transactions ++ changes ∷ []) rows ≡ after changes (after_each transactions rows)
after_each-append [] changes rows = refl
after_each-append (c ∷ transactions) changes rows = after_each-append transactions changes (after c rows)

pub applies_one_more : (table i : ℕ) (changes : List Change) (change : Change) (a m v : View) → i < length changes → change ≡ get_or changes i change
    → Applies table (take i changes) a m → SetsTree m v table (changed change) → Applies table (take (i + 1) changes) a v
applies_one_more table i changes change a m v low item before set =
    let more : take (i + 1) changes ≡ take i changes ++ change ∷ [] = take_more changes i change low ∙ ap (λ c. take i changes ++ c ∷ []) (sym item) in
    let trees : in_table table (changed change) m.trees ≡ in_table table (after (take (i + 1) changes)) a.trees =
    ap (λ (w : View). in_table table (changed change) w.trees) before
    ∙ in_table-twice table (after (take i changes)) (changed change) a.trees
    ∙ ap (λ rows. in_table table (λ _. rows) a.trees) (sym (ap (λ cs. after cs (a.trees table)) more ∙ after-append (take i changes) change (a.trees table))) in
    set.is ∙ ap (λ (w : View). record w { trees = in_table table (changed change) m.trees; cursors = v.cursors }) before
    ∙ ap (λ t. record a { trees = t; cursors = v.cursors }) trees

pub lists_more : (transactions : List (Vec Change Global)) (i : ℕ) (changes : Vec Change Global) → i < length transactions → changes ≡ get_or transactions i changes
    → take (i + 1) (lists transactions) ≡ take i (lists transactions) ++ changes.items ∷ []
lists_more transactions i changes low item =
    take_more (lists transactions) i changes.items (simp length-map low) ∙ ap (λ item. take i (lists transactions) ++ item ∷ [])
    (get_or-map (λ (v : Vec Change Global). v.items) transactions i changes changes.items low ∙ ap (λ (v : Vec Change Global). v.items) (sym item))

-- one transaction more
pub in_table-each_more : (table i : ℕ) (transactions : List (Vec Change Global)) (changes : Vec Change Global) (first before found : Trees) → i < length transactions → changes ≡ get_or transactions i changes
    → before ≡ in_table table (after_each (take i (lists transactions))) first → found ≡ in_table table (after changes.items) before
    → found ≡ in_table table (after_each (take (i + 1) (lists transactions))) first
in_table-each_more table i transactions changes first before found low item was now =
    now ∙ ap (in_table table (after changes.items)) was
    ∙ in_table-twice table (after_each (take i (lists transactions))) (after changes.items) first
    ∙ ap (λ rows. in_table table (λ _. rows) first)
    (sym (ap (λ ls. after_each ls (first table)) (lists_more transactions i changes low item) ∙ after_each-append (take i (lists transactions)) changes.items (first table)))
