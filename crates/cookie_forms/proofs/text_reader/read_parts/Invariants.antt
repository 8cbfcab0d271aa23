use Rattle.std.proofs.Common.{◌≤◌, ℕ, length}
use Rattle.cookie_forms.proofs.ReadMembers.{MembersRead}
use Rattle.cookie_forms.proofs.text_reader.read_parts.Given as goal

abbrev pub invariant-members : goal.invariant-members
invariant-members l = (depth : ℕ) → 1 ≤ depth → MembersRead depth l.initial.reader l.reader l.found

abbrev pub decreases-members : goal.decreases-members
decreases-members l = length l.reader
