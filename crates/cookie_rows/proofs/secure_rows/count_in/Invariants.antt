-- The Secure rows so far were counted.
use Rattle.std.proofs.Common.{◌≡◌, ◌+◌, ◌≤◌, filter, length}
use Rattle.cookie_words.specs.Moments.{moment_of}
use Rattle.cookie_rows.specs.Eviction.{is_secure_item}
use Rattle.cookie_rows.proofs.secure_rows.count_in.Given as goal

abbrev pub invariant-loop-row : goal.invariant-loop-row
invariant-loop-row l = record {
  count : l.count + length (filter (is_secure_item (moment_of l.now)) l.row-iterator) ≡ length (filter (is_secure_item (moment_of l.now)) l.initial.row-iterator);
  within : l.count + length l.row-iterator ≤ length l.initial.row-iterator;
}
