use Rattle.std.proofs.Common.{◌≡◌, ℕ, ◌==◌, ap, arith, sym, ◌∙◌}
use Rattle.std.specs.Prelude.{nat_le}
use Rattle.std.proofs.lemmas.Bool.Decides.{nat_tests}
use Rattle.ordered_map.specs.Entries.{entries}
use Rattle.cookie_words.specs.Moments.{moment_of}
use Rattle.cookie_lookup.specs.Positions.{paths_in_order}
use Rattle.cookie_rows.specs.Eviction.{count_secure}
use Rattle.cookie_rows.specs.Items.{ItemPaths}
use Rattle.cookie_rows.proofs.DomainMaps.{paths_none, paths_some}
use Rattle.cookie_rows.proofs.secure_rows.is_full.Goals as goal

-- of no rows there are at least as many as 0
none_is : (limit : ℕ) → (limit == 0) ≡ nat_le limit 0
none_is limit = grind (arith, nat_tests)

pub returns-in-Some : goal.returns-in-Some
returns-in-Some c =
    c.has_at_least.ensures
    ∙ ap (λ (paths : ItemPaths). nat_le c.args.limit (count_secure (moment_of c.args.now) paths)) (sym (paths_some paths_in_order c.args.domain.now (entries c.args.groups.now) c.in-Some.paths.now c.in-Some.ensures))

pub returns-in-None : goal.returns-in-None
returns-in-None c =
    none_is c.args.limit
    ∙ ap (λ (paths : ItemPaths). nat_le c.args.limit (count_secure (moment_of c.args.now) paths)) (sym (paths_none paths_in_order c.args.domain.now (entries c.args.groups.now) c.in-None.ensures))
