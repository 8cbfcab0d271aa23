use Rattle.std.proofs.Common.{◌≡◌, ◌≤◌, ◌⊎◌, ℕ, length, map}
use Rattle.cookie_forms.specs.Saved.{saved_view}
use Rattle.cookie_forms.specs.Tokens.{BeginWithSaved}
use Rattle.cookie_forms.proofs.ReadItems.{ItemsRead}
use Rattle.cookie_forms.proofs.text_reader.read_list.Given as goal

abbrev pub invariant-items : goal.invariant-items
invariant-items l =
    ((depth : ℕ) → 2 ≤ depth → ItemsRead depth l.initial.reader l.reader (map saved_view l.list.items))
    × ((l.reader ≡ l.initial.reader) ⊎ BeginWithSaved l.initial.reader)

abbrev pub decreases-items : goal.decreases-items
decreases-items l = length l.reader
