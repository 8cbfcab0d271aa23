-- There is room for the limit less the Secure rows so far.
use Rattle.std.proofs.Common.{◌≡◌, ◌-◌, filter, length}
use Rattle.std.specs.List.{flat_map}
use Rattle.ordered_map.specs.Entries.{in_order}
use Rattle.cookie_words.specs.Moments.{moment_of}
use Rattle.cookie_rows.specs.Eviction.{is_secure_item}
use Rattle.cookie_rows.proofs.secure_rows.has_at_least.Given as goal

abbrev pub invariant-loop-names : goal.invariant-loop-names
invariant-loop-names l = record {
  room : l.room - length (filter (is_secure_item (moment_of l.now)) (flat_map in_order l.names-iterator))
      ≡ l.limit - length (filter (is_secure_item (moment_of l.now)) (flat_map in_order l.initial.names-iterator));
}
