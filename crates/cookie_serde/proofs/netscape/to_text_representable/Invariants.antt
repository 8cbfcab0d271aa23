-- The text has the lines of the rows so far that are saved, without those that the format cannot represent, which were counted.
use Rattle.std.proofs.Common.{◌≡◌, ◌++◌, filter, map, string_bytes}
use Rattle.cookie_netscape.specs.Written.{is_representable, written_text}
use Rattle.cookie_serde.specs.NetscapeLists.{unrepresentable_count}
use Rattle.cookie_serde.specs.Selections.{is_selected}
use Rattle.cookie_serde.proofs.netscape.to_text_representable.Given as goal

abbrev pub invariant-loop-row : goal.invariant-loop-row
invariant-loop-row l = record {
  lines : string_bytes l.text
      ≡ written_text (filter is_representable (filter (is_selected l.which) (map (λ c. c.now) l.yielded)));
  others : l.left_out ≡ unrepresentable_count (filter (is_selected l.which) (map (λ c. c.now) l.yielded));
  rest : map (λ c. c.now) l.yielded ++ l.row-iterator ≡ l.store.rows;
}
