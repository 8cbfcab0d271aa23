-- The session cookies among the rows that were read are listed, and nothing is written.
use Rattle.std.specs.Prelude.{IsSome}
use Rattle.std.specs.List.{All}
use Rattle.sqlite_trees.specs.View.{IsClean, IsQuiet}
use Rattle.durable_table.specs.Changes.{HasRowid}
use Rattle.cookie_durable.proofs.SessionRows.{HasListed}
use Rattle.cookie_durable.proofs.sessions.session_deletions.Given as goal

abbrev pub invariant-rows : goal.invariant-rows
invariant-rows g l =
    let S = g.S.Store in
    record {
      quiet : IsQuiet S.view S.faults S.recovers S.is_shielded l.fn.file l.file;
      live : IsSome ((S.view l.file).cursors 0);
      keyed : All HasRowid l.changes.items;
      listed : IsClean (S.view l.file) → HasListed l.changes.items l.fn.table (S.view l.fn.file) (S.view l.file);
    }
