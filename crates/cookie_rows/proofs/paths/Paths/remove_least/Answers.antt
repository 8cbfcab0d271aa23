use Rattle.std.proofs.Common.{◌≡◌, false, inl, inr, refl, subst, sym}
use Rattle.cookie_words.specs.Moments.{moment_of}
use Rattle.cookie_lookup.specs.Positions.{paths_in_order}
use Rattle.cookie_rows.specs.Eviction.{comes_before, rank_of}
use Rattle.cookie_rows.specs.Least.{NoneBefore, items_in_paths}
use Rattle.cookie_rows.proofs.LeastStored.{all_paths_in_order, least_stored, none_in_order}
use Rattle.cookie_rows.proofs.paths.Paths.remove_least.Goals as goal

pub returns-in-Some : goal.returns-in-Some
returns-in-Some c =
    let now = moment_of c.args.now in
    let order = c.args.order in
    let least = c.in-Some.least in
    let paths = c.args.self.now in
    let found = least_stored order now paths least.path least.row least.rank c.in-Some.ensures.0 in
    let none = all_paths_in_order (λ item. comes_before (rank_of order now item) least.rank ≡ false) paths c.in-Some.ensures.1 in
    inr (found.1, subst (λ rank. NoneBefore order now rank (items_in_paths (paths_in_order paths))) (sym found.3) none, c.remove_at.ensures found.0 found.1 found.2)

pub returns-in_default : goal.returns-in_default
returns-in_default c = inl (none_in_order c.args.self.now c.in_default.ensures, refl)
