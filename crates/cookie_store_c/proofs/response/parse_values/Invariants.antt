-- The header values in `rest` are still to be parsed.
use Rattle.std.proofs.Common.{◌≡◌, ◌≤◌, ℕ, ℤ, List, Ok, drop, length, sum, take}
use Rattle.cookie_words.specs.Moments.{moment_of}
use Rattle.cookie_store_c.specs.Inputs.{request}
use Rattle.cookie_store_c.specs.Responses.{values_of}
use Rattle.cookie_store_c.proofs.Responses.{Continues}
use Rattle.cookie_store_c.proofs.response.parse_values.Given as goal

abbrev pub invariant-loop-index : goal.invariant-loop-index
invariant-loop-index l = record {
  fit : sum (drop l.index l.lens) ≤ length l.rest;
  as_many : length l.statuses ≡ length l.lens;
  parsed : (text : List ℕ) (second : ℤ) → request text second ≡ Ok (l.url, moment_of l.now)
      → Continues l.is_strict text second (values_of l.lens l.values) l.fn.store (values_of (drop l.index l.lens) l.rest) l.store (take l.index l.statuses);
}
