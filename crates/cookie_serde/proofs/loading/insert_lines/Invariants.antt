-- No read has failed and each gave at least a byte; the rows are built from the cookies of the lines passed, which are counted.
use Rattle.std.proofs.Common.{◌≡◌, ◌+◌, ◌*◌, ◌≤◌, ℕ, List, Some, IfSome, length}
use Rattle.std.specs.Fn.{FnReturnsAt}
use Rattle.cookie_parts.specs.Cookie.{Row}
use Rattle.cookie_serde.specs.Selections.{built_from}
use Rattle.cookie_serde.specs.LoadError.{number_behind}
use Rattle.cookie_serde.specs.Loading.{AreCookies}
use Rattle.cookie_serde.proofs.LoadedLines.{Loaded}
use Rattle.cookie_serde.proofs.loading.insert_lines.Given as goal

abbrev pub invariant-lines : goal.invariant-lines
invariant-lines g l = record {
  reads : (g.R.Source.state l.source).failed ≡ (g.R.Source.state l.initial.source).failed;
  loaded : (done : List (List ℕ)) × (cookies : List Row) × AreCookies (FnReturnsAt g.F.Fn l.cookie_of) done cookies
      × (l.rows ≡ built_from l.which cookies) × (l.number ≡ number_behind done)
      × IfSome (g.R.Source.state l.initial.source).remaining (λ text. Loaded text l.input (g.R.Source.state l.source).remaining done);
  turns : IfSome (g.R.Source.state l.initial.source).remaining (λ input. (left : List ℕ) × ((g.R.Source.state l.source).remaining ≡ Some left)
      × ((g.R.Source.state l.initial.source).reads_left + length left ≤ (g.R.Source.state l.source).reads_left + length input));
}

-- a read gives at most 4,096 bytes
abbrev pub decreases-lines : goal.decreases-lines
decreases-lines g l = 4097 * (g.R.Source.state l.source).reads_left + length l.input
