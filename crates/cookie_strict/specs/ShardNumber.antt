-- The shard of a root. Shards may be saved by their numbers, so this definition never changes.
use Rattle.std.specs.Prelude.{ℕ, ◌*◌, ◌%◌, ◌^◌, ◌==◌, List, fold, bit_xor, Option, Some, None, if◌then◌else◌}

-- FNV-1a: a byte is added to the hash by xor, which is then multiplied by the prime
abbrev pub fnv1a_step : ℕ → ℕ → ℕ
fnv1a_step hash byte = (bit_xor hash byte * 1_099_511_628_211) % 2 ^ 64

-- the 64-bit FNV-1a hash, from the offset basis on
abbrev pub fnv1a : List ℕ → ℕ
fnv1a bytes = fold fnv1a_step 14_695_981_039_346_656_037 bytes

-- the hash of the root modulo the number of shards, if there are any
abbrev pub shard_of : List ℕ → ℕ → Option ℕ
shard_of root shards = if shards == 0 then None else Some (fnv1a root % shards)
