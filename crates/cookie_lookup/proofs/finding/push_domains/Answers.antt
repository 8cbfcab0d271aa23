use Rattle.std.proofs.Common.{◌≡◌, ◌+◌, ◌*◌, ◌<◌, ◌≤◌, ◌++◌, List, ℕ, false, length, drop, get_or, eqb, lit<, arith, ap, ◌∙◌, sym, subst, ◌∷◌, [], inl, refl}
use Rattle.std.specs.Prelude.{◌≢◌}
use Rattle.std.specs.List.{flat_map}
use Rattle.std.proofs.lemmas.Bool.Decides.{nat_tests}
use Rattle.std.proofs.lemmas.List.{at_drop_all}
use Rattle.cookie_words.specs.Moments.{moment_of}
use Rattle.cookie_laws.specs.Given.{is_given}
use Rattle.cookie_laws.specs.Related.{after_dots}
use Rattle.cookie_lookup.specs.Groups.{DomainGroups}
use Rattle.cookie_lookup.specs.SearchView.{at_domain, how_many_found, how_many_pairs_found, paths_at_domain}
use Rattle.cookie_lookup.specs.Positions.{SamePositions}
use Rattle.cookie_lookup.specs.Candidates.{candidate_paths, candidate_domains, most_paths, dots, IsCandidateDomain}
use Rattle.cookie_lookup.proofs.CandidateCounts.{paths_next, room_next, room_here}
use Rattle.cookie_lookup.proofs.CandidateCuts.{after_byte, at_dot, at_no_dot}
use Rattle.cookie_lookup.proofs.CoveringPaths.{behind_dot}
use Rattle.cookie_lookup.proofs.FoundPairs.{pairs_first, pairs_next}
use Rattle.cookie_lookup.proofs.CandidateDomains.{length_dots}
use Rattle.cookie_lookup.proofs.Listed.{same_more}
use Rattle.cookie_lookup.proofs.Results.{either_way}
use Rattle.cookie_lookup.proofs.LookupResults.{some_given}
use Rattle.cookie_lookup.proofs.LoopSteps.{dot_pushed, dot_kept, dot_gives, none_left}
use Rattle.cookie_lookup.proofs.finding.push_domains.Given.{Over}
use Rattle.cookie_lookup.proofs.finding.push_domains.Goals.{After-loop-at, then-bytes-at-eq46+in_ok-push_domain-2, else-bytes-at-eq46}
use Rattle.cookie_lookup.proofs.finding.push_domains.Goals as goal

pub push_domain-requires-clause-related : goal.push_domain-requires-clause-related
push_domain-requires-clause-related g c = inl refl

pub push_domain-requires-clause-domains : goal.push_domain-requires-clause-domains
push_domain-requires-clause-domains g c = omega (arith, c.requires.domains)

pub push_domain-requires-clause-paths : goal.push_domain-requires-clause-paths
push_domain-requires-clause-paths g c = omega (arith, room_here (most_paths c.args.url.now) (dots c.args.host.now), c.requires.paths)

pub returns-in_err-push_domain-clause-domains : goal.returns-in_err-push_domain-clause-domains
returns-in_err-push_domain-clause-domains g c = omega (arith, c.push_domain.ensures.domains)

pub returns-in_err-push_domain-clause-paths : goal.returns-in_err-push_domain-clause-paths
returns-in_err-push_domain-clause-paths g c =
    let first = g.S.Search.view_of c.args.search.now in
    let host = c.args.host.now in
    let most = paths_next first.groups host (after_dots host) (most_paths c.args.url.now) first.paths (g.S.Search.view_of c.push_domain.new.search).paths c.push_domain.ensures.paths in
    omega (arith, most)

pub returns-in_err-push_domain-clause-memory : goal.returns-in_err-push_domain-clause-memory
returns-in_err-push_domain-clause-memory g c =
    let host = c.args.host.now in
    let look : List ℕ → List (ℕ × ℕ × ℕ) = at_domain (is_given c.args.url.now (moment_of c.args.now)) (g.S.Search.view_of c.args.search.now).groups (candidate_paths c.args.url.now.path) in
    either_way c.from_residual.result (some_given look [] host (after_dots host) c.in_err-push_domain.ensures.memory)

pub loop-at-init : goal.loop-at-init
loop-at-init g c =
    let first = g.S.Search.view_of c.args.search.now in
    let url = c.args.url.now in
    let host = c.args.host.now in
    let look : List ℕ → List (ℕ × ℕ × ℕ) = at_domain (is_given url (moment_of c.args.now)) first.groups (candidate_paths url.path) in
    record {
      positions = same_more c.push_domain.new.positions.items c.args.positions.now.items (look host) (flat_map look (after_dots host)) c.in_ok-push_domain.ensures.positions;
      groups = c.in_ok-push_domain.ensures.groups;
      domains = omega (arith, c.in_ok-push_domain.ensures.domains, length_dots host);
      room = rw (length_dots host) (room_next first.groups host (most_paths url) (dots host) first.paths (g.S.Search.view_of c.push_domain.new.search).paths c.in_ok-push_domain.ensures.paths);
      paths = paths_next first.groups host (after_dots host) (most_paths url) first.paths (g.S.Search.view_of c.push_domain.new.search).paths c.in_ok-push_domain.ensures.paths;
      every_path = pairs_first first.groups (candidate_paths url.path) host (after_dots host) first.paths (g.S.Search.view_of c.push_domain.new.search).paths c.in_ok-push_domain.ensures.every_path;
    }

pub range_from-requires : goal.range_from-requires
range_from-requires g c =
    let below : c.loop-at.at < length c.args.host.now = omega arith in
    let dot : get_or c.args.host.now c.loop-at.at 0 ≡ 46 = rw (← c.as_bytes-bytes.ensures.value) c.if-bytes-at-eq46.true in
    λ _. after_byte c.args.host.now c.loop-at.at 46 c.utf8.host below dot (lit< tt)

pub push_domain-requires-then-bytes-at-eq46-clause-related : goal.push_domain-requires-then-bytes-at-eq46-clause-related
push_domain-requires-then-bytes-at-eq46-clause-related g c =
    let host = c.args.host.now in
    let below : c.loop-at.at < length host = omega arith in
    let dot : get_or host c.loop-at.at 0 ≡ 46 = rw (← c.as_bytes-bytes.ensures.value) c.if-bytes-at-eq46.true in
    let text : c.range_from.result.now ≡ drop (c.loop-at.at + 1) host = rw c.range_from.ensures.value (grind arith) in
    subst (IsCandidateDomain host) (sym text) (behind_dot host c.loop-at.at below dot)

pub push_domain-requires-then-bytes-at-eq46-clause-name : goal.push_domain-requires-then-bytes-at-eq46-clause-name
push_domain-requires-then-bytes-at-eq46-clause-name g c = c.is_host_name-host_is_name.ensures

pub push_domain-requires-then-bytes-at-eq46-clause-domains : goal.push_domain-requires-then-bytes-at-eq46-clause-domains
push_domain-requires-then-bytes-at-eq46-clause-domains g c =
    let host = c.args.host.now in
    let below : c.loop-at.at < length host = omega arith in
    let dot : get_or host c.loop-at.at 0 ≡ 46 = rw (← c.as_bytes-bytes.ensures.value) c.if-bytes-at-eq46.true in
    omega (arith, c.loop-at.invariant.domains, ap length (at_dot host c.loop-at.at below dot), c.requires.domains)

pub push_domain-requires-then-bytes-at-eq46-clause-paths : goal.push_domain-requires-then-bytes-at-eq46-clause-paths
push_domain-requires-then-bytes-at-eq46-clause-paths g c =
    let host = c.args.host.now in
    let m = most_paths c.args.url.now in
    let below : c.loop-at.at < length host = omega arith in
    let dot : get_or host c.loop-at.at 0 ≡ 46 = rw (← c.as_bytes-bytes.ensures.value) c.if-bytes-at-eq46.true in
    let left = after_dots (drop (c.loop-at.at + 1) host) in
    let split : length (after_dots (drop c.loop-at.at host)) * m ≡ (1 + length left) * m = ap (λ n. n * m) (ap length (at_dot host c.loop-at.at below dot) ∙ omega arith) in
    omega (arith, c.loop-at.invariant.room, split, room_here m (length left), c.requires.paths)

pub returns-in_err-push_domain-2-clause-groups : goal.returns-in_err-push_domain-2-clause-groups
returns-in_err-push_domain-2-clause-groups g c = c.push_domain-then-bytes-at-eq46.ensures.groups ∙ c.loop-at.invariant.groups

pub returns-in_err-push_domain-2-clause-domains : goal.returns-in_err-push_domain-2-clause-domains
returns-in_err-push_domain-2-clause-domains g c =
    let host = c.args.host.now in
    let below : c.loop-at.at < length host = omega arith in
    let dot : get_or host c.loop-at.at 0 ≡ 46 = rw (← c.as_bytes-bytes.ensures.value) c.if-bytes-at-eq46.true in
    omega (arith, c.push_domain-then-bytes-at-eq46.ensures.domains, c.loop-at.invariant.domains, ap length (at_dot host c.loop-at.at below dot))

pub returns-in_err-push_domain-2-clause-paths : goal.returns-in_err-push_domain-2-clause-paths
returns-in_err-push_domain-2-clause-paths g c =
    let first = g.S.Search.view_of c.args.search.now in
    let host = c.args.host.now in
    let m = most_paths c.args.url.now in
    let below : c.loop-at.at < length host = omega arith in
    let dot : get_or host c.loop-at.at 0 ≡ 46 = rw (← c.as_bytes-bytes.ensures.value) c.if-bytes-at-eq46.true in
    let text = drop (c.loop-at.at + 1) host in
    let row_filter : (g.S.Search.view_of c.push_domain-then-bytes-at-eq46.new.search).paths ≤ (g.S.Search.view_of c.loop-at.search).paths + how_many_found first.groups (text ∷ []) * m =
    subst (λ groups. (g.S.Search.view_of c.push_domain-then-bytes-at-eq46.new.search).paths ≤ (g.S.Search.view_of c.loop-at.search).paths + how_many_found groups (text ∷ []) * m) c.loop-at.invariant.groups
    (subst (λ t. (g.S.Search.view_of c.push_domain-then-bytes-at-eq46.new.search).paths ≤ (g.S.Search.view_of c.loop-at.search).paths + how_many_found (g.S.Search.view_of c.loop-at.search).groups (t ∷ []) * m)
    (rw c.range_from.ensures.value (grind arith)) c.push_domain-then-bytes-at-eq46.ensures.paths) in
    let next = paths_next first.groups text (after_dots text) m (g.S.Search.view_of c.loop-at.search).paths (g.S.Search.view_of c.push_domain-then-bytes-at-eq46.new.search).paths row_filter in
    let all = rw (at_dot host c.loop-at.at below dot) at c.loop-at.invariant.paths in
    omega (arith, next, all)

pub returns-in_err-push_domain-2-clause-memory : goal.returns-in_err-push_domain-2-clause-memory
returns-in_err-push_domain-2-clause-memory g c =
    let first = g.S.Search.view_of c.args.search.now in
    let url = c.args.url.now in
    let host = c.args.host.now in
    let look : DomainGroups → List ℕ → List (ℕ × ℕ × ℕ) = λ groups. at_domain (is_given url (moment_of c.args.now)) groups (candidate_paths url.path) in
    let below : c.loop-at.at < length host = omega arith in
    let dot : get_or host c.loop-at.at 0 ≡ 46 = rw (← c.as_bytes-bytes.ensures.value) c.if-bytes-at-eq46.true in
    let text = drop (c.loop-at.at + 1) host in
    let here : look first.groups text ≢ [] =
    subst (λ groups. look groups text ≢ []) c.loop-at.invariant.groups
    (subst (λ t. look (g.S.Search.view_of c.loop-at.search).groups t ≢ []) (rw c.range_from.ensures.value (grind arith)) c.in_err-push_domain-2.ensures.memory) in
    either_way c.from_residual-in_err-push_domain-2.result (dot_gives (look first.groups) host c.loop-at.at below dot here)

pub loop-at-preserved : goal.loop-at-preserved
loop-at-preserved g c =
    let first = g.S.Search.view_of c.args.search.now in
    let url = c.args.url.now in
    let host = c.args.host.now in
    let m = most_paths url in
    let look : DomainGroups → List ℕ → List (ℕ × ℕ × ℕ) = λ groups. at_domain (is_given url (moment_of c.args.now)) groups (candidate_paths url.path) in
    let below : c.loop-at.at < length host = omega arith in
    let text = drop (c.loop-at.at + 1) host in
    elim c.if-bytes-at-eq46.branch [
      | then-bytes-at-eq46+in_ok-push_domain-2 w ↦
          let before = g.S.Search.view_of c.loop-at.search in
          let after = g.S.Search.view_of w.push_domain-then-bytes-at-eq46.new.search in
          let dot : get_or host c.loop-at.at 0 ≡ 46 = rw (← c.as_bytes-bytes.ensures.value) w.if-bytes-at-eq46.true in
          let there : w.range_from.result.now ≡ text = rw w.range_from.ensures.value (grind arith) in
          let left = at_dot host c.loop-at.at below dot in
          let row_filter : after.paths ≤ before.paths + how_many_found first.groups (text ∷ []) * m =
          subst (λ groups. after.paths ≤ before.paths + how_many_found groups (text ∷ []) * m) c.loop-at.invariant.groups
          (subst (λ t. after.paths ≤ before.paths + how_many_found before.groups (t ∷ []) * m) there w.in_ok-push_domain-2.ensures.paths) in
          let room = rw left at c.loop-at.invariant.room in
          let paths = rw left at c.loop-at.invariant.paths in
          let every_path = rw left at c.loop-at.invariant.every_path in
          let looked_up : before.paths + paths_at_domain first.groups (candidate_paths url.path) text ≤ after.paths =
          subst (λ groups. before.paths + paths_at_domain groups (candidate_paths url.path) text ≤ after.paths) c.loop-at.invariant.groups
          (subst (λ t. before.paths + paths_at_domain before.groups (candidate_paths url.path) t ≤ after.paths) there w.in_ok-push_domain-2.ensures.every_path) in
          let pushed : SamePositions c.if-bytes-at-eq46.positions.items (c.loop-at.positions.items ++ look first.groups text) =
          subst (λ v. SamePositions v.items (c.loop-at.positions.items ++ look first.groups text)) (sym w.positions-is)
          (subst (λ t. SamePositions w.push_domain-then-bytes-at-eq46.new.positions.items (c.loop-at.positions.items ++ look first.groups t)) there
          (subst (λ groups. SamePositions w.push_domain-then-bytes-at-eq46.new.positions.items (c.loop-at.positions.items ++ look groups w.range_from.result.now)) c.loop-at.invariant.groups
          w.in_ok-push_domain-2.ensures.positions)) in
          rw w.search-is record {
            positions = dot_pushed (look first.groups) host c.loop-at.at below (c.args.positions.now.items ++ flat_map (look first.groups) (candidate_domains host)) c.loop-at.positions.items c.if-bytes-at-eq46.positions.items c.loop-at.invariant.positions dot pushed;
            groups = w.in_ok-push_domain-2.ensures.groups ∙ c.loop-at.invariant.groups;
            domains = omega (arith, w.in_ok-push_domain-2.ensures.domains, c.loop-at.invariant.domains, ap length left);
            room = omega (arith, room, room_next first.groups text m (length (after_dots text)) before.paths after.paths row_filter);
            paths = omega (arith, paths, paths_next first.groups text (after_dots text) m before.paths after.paths row_filter);
            every_path = pairs_next first.groups (candidate_paths url.path) text (after_dots text) (first.paths + how_many_pairs_found first.groups (candidate_paths url.path) (candidate_domains host)) before.paths after.paths every_path looked_up;
          }
      | else-bytes-at-eq46 w ↦
          let other : (get_or host c.loop-at.at 0 ≡ 46) → ⊥ = rw (← c.as_bytes-bytes.ensures.value) w.if-bytes-at-eq46.false in
          let dot : eqb (get_or host c.loop-at.at 0) 46 ≡ false = grind (arith, nat_tests, other) in
          let left = at_no_dot host c.loop-at.at below dot in
          rw w.search-is record {
            positions = dot_kept (look first.groups) host c.loop-at.at below (c.args.positions.now.items ++ flat_map (look first.groups) (candidate_domains host)) c.loop-at.positions.items c.if-bytes-at-eq46.positions.items c.loop-at.invariant.positions dot (ap (λ v. v.items) w.positions-is);
            groups = c.loop-at.invariant.groups;
            domains = rw left at c.loop-at.invariant.domains;
            room = rw left at c.loop-at.invariant.room;
            paths = rw left at c.loop-at.invariant.paths;
            every_path = rw left at c.loop-at.invariant.every_path;
          }
    ]

-- no dots are left
passed : (g : Over) (c : After-loop-at g) → after_dots (drop c.loop-at.at c.args.host.now) ≡ []
passed g c = at_drop_all after_dots c.args.host.now c.loop-at.at (rw (← c.as_bytes-bytes.ensures.value) c.loop-at-test.false)

pub returns-clause-positions : goal.returns-clause-positions
returns-clause-positions g c =
    let look : List ℕ → List (ℕ × ℕ × ℕ) = at_domain (is_given c.args.url.now (moment_of c.args.now)) (g.S.Search.view_of c.args.search.now).groups (candidate_paths c.args.url.now.path) in
    none_left look (after_dots (drop c.loop-at.at c.args.host.now))
    (passed g c)
    (c.args.positions.now.items ++ flat_map look (candidate_domains c.args.host.now)) c.loop-at.positions.items c.loop-at.invariant.positions

pub returns-clause-groups : goal.returns-clause-groups
returns-clause-groups g c = c.loop-at.invariant.groups

pub returns-clause-domains : goal.returns-clause-domains
returns-clause-domains g c =
    omega (arith, rw (passed g c) at c.loop-at.invariant.domains)

pub returns-clause-paths : goal.returns-clause-paths
returns-clause-paths g c =
    omega (arith, rw (passed g c) at c.loop-at.invariant.paths)

pub returns-clause-every_domain : goal.returns-clause-every_domain
returns-clause-every_domain g c =
    omega (arith, rw (passed g c) at c.loop-at.invariant.domains)

pub returns-clause-every_path : goal.returns-clause-every_path
returns-clause-every_path g c =
    omega (arith, rw (passed g c) at c.loop-at.invariant.every_path)
