-- The strings so far stand in the buffer, and the others fit after them.
use Rattle.std.proofs.Common.{◌≡◌, ◌+◌, ◌++◌, length, take, List, ℕ}
use Rattle.cookie_device.specs.Joined.{joined}
use Rattle.cookie_store_c.specs.Buffers.{IsFilledTo}
use Rattle.cookie_store_c.proofs.buffer.put_all.Given as goal

abbrev pub invariant-loop-text : goal.invariant-loop-text
invariant-loop-text l = record {
  ends : l.end ≡ l.fn.place + length (joined (take l.text-index l.texts));
  long : length l.buffer ≡ length l.fn.buffer;
  stands : (prefix before : List ℕ) → IsFilledTo prefix before l.fn.buffer l.fn.place
      → IsFilledTo (prefix ++ joined (take l.text-index l.texts)) before l.buffer l.end;
}
