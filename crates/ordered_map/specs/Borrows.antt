-- What an `OrderedMap` is after a `&mut` into it.
use Rattle.std.specs.Prelude.{◌≡◌, ℕ, List, map, Option}
use Rattle.std.specs.Borrow.{Fml, RattleType, MutBor, LendsSo}
use Rattle.std.specs.Map.{set_value}
use Rattle.std.specs.Option.{OnSome}
use Rattle.std.specs.declared.hash.Hasher as hasher
use Rattle.std.specs.declared.hash.BuildHasher as builder
use Rattle.ordered_map.specs.Entries.{entries, is_text, Ordered}
use Rattle.ordered_map.specs.contracts.map.OrderedMap.{the_row}

-- the entry of the key has the value w, and nothing else changed
pub record WritesValue {V S : Type 0} (text : List ℕ) (old : Ordered V S) (w : V) (new : Ordered V S) : Type 0 where
  pub written : entries new ≡ set_value (is_text text) (entries old) w
  pub places : map (λ p. p.0) new.by_position ≡ map (λ p. p.0) old.by_position
  pub by_position : map (λ p. p.1) new.by_position ≡ set_value (is_text text) (map (λ p. p.1) old.by_position) w
  pub hasher : new.hasher ≡ old.hasher
  pub room : new.room ≡ old.room

module _ (V S H : RattleType) (build : builder.Ghosts S.Denot H.Denot) (hash : hasher.Ghosts H.Denot) where
  -- the map's type, as the logic holds it
  abbrev pub map_row : RattleType
  map_row = the_row V S H build hash

  -- the key has the last value written through r, and at `None` the map is unchanged
  abbrev pub lends_value : MutBor (Ordered V.Denot S.Denot) → List ℕ → Option (MutBor V.Denot) → Fml
  lends_value m text r = LendsSo map_row V m r (λ n w. OnSome r (WritesValue text m.now w n)) (λ n. n ≡ m.now)
