-- The cookies of the rows that were read are loaded, and nothing is written.
use Rattle.std.proofs.Common.{None}
use Rattle.std.specs.Prelude.{IsSome}
use Rattle.sqlite_trees.specs.View.{IsClean, IsQuiet}
use Rattle.cookie_laws.specs.Contents.{contents_of}
use Rattle.cookie_durable.proofs.ReadRows.{HasRead}
use Rattle.cookie_durable.proofs.loading.load.Given as goal

abbrev pub invariant-rows : goal.invariant-rows
invariant-rows g l =
    let S = g.S.Store in
    record {
      quiet : IsQuiet S.view S.faults S.recovers S.is_shielded l.fn.file l.file;
      live : IsSome ((S.view l.file).cursors 0);
      loaded : IsClean (S.view l.file) → HasRead (contents_of l.loaded.rows None None) l.loaded.ids.entries l.loaded.next l.fn.table (S.view l.fn.file) (S.view l.file);
    }
