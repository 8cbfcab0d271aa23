-- The hasher of a hash key.
use Rattle.std.specs.Hash.DefaultHasher.{initial}
use Rattle.std.specs.declared.hash.DefaultHasher.{DefaultHasher}
use Rattle.std.specs.RandomState as random
use Rattle.cookie_rows.specs.declared.hashing.HashKey.{HashKey}
use Rattle.cookie_rows.specs.declared.hashing.HashKey.TheVariants.{Fixed, Random}

-- the hasher that a key begins with
abbrev pub initial_hasher : HashKey → DefaultHasher
initial_hasher Fixed = initial
initial_hasher (Random keys) = random.initial_hasher keys
