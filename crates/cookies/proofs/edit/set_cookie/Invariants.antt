-- The first new row is among those that are left.
use Rattle.std.proofs.Common.{◌≡◌}
use Rattle.cookies.specs.EditedFiles.{new_row}
use Rattle.cookies.proofs.edit.set_cookie.Given as goal

abbrev pub invariant-loop-cookie : goal.invariant-loop-cookie
invariant-loop-cookie l = record {
  first : new_row l.before.rows l.cookie-iterator ≡ new_row l.before.rows l.after.rows;
}
