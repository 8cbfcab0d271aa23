-- The groups of a domain: none, a single one, or a table.
use Rattle.std.specs.Prelude.{[], ◌∷◌, string_bytes}
use Rattle.ordered_map.specs.Entries.{in_order}
use Rattle.cookie_rows.specs.Items.{ItemPaths}
use Rattle.cookie_rows.specs.Stored.{StoredPaths, paths_in, stored_in}
use Rattle.cookie_rows.specs.declared.paths.PathMap.{PathMap}
use Rattle.cookie_rows.specs.declared.paths.PathMap.TheVariants as Groups

-- the groups as stored
abbrev pub stored_groups : PathMap → StoredPaths
stored_groups Groups.Empty = []
stored_groups (Groups.Single path names) = (0, (string_bytes path, names)) ∷ []
stored_groups (Groups.Table groups) = stored_in groups.value

-- the groups in order, each with its path
abbrev pub groups_of : PathMap → ItemPaths
groups_of Groups.Empty = []
groups_of (Groups.Single path names) = (string_bytes path, in_order names) ∷ []
groups_of (Groups.Table groups) = paths_in groups.value
