use Rattle.std.proofs.Common.{◌≡◌, fold, take}
use Rattle.cookie_strict.specs.ShardNumber.{fnv1a_step}
use Rattle.cookie_strict.proofs.shard.fnv1a.Given as goal

abbrev pub invariant-loop-byte : goal.invariant-loop-byte
invariant-loop-byte l = l.hash ≡ fold fnv1a_step 14_695_981_039_346_656_037 (take l.byte-index l.bytes)
