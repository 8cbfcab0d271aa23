use Rattle.std.proofs.Common.{◌≡◌, ◌∙◌, ◌+◌, ◌*◌, ◌<◌, ◌≤◌, ◌++◌, [], ◌∷◌, Bool, false, refl, sym, ap, subst, List, ℕ, length, drop, map, bytes_eq, arith, Some}
use Rattle.std.specs.Prelude.{◌≢◌, filter, slice_get}
use Rattle.std.specs.List.{flat_map, list_any}
use Rattle.std.proofs.Math.Nat.{mul-le-mul_right}
use Rattle.std.proofs.lemmas.List.{at_drop_all}
use Rattle.cookie_words.specs.Moments.{moment_of}
use Rattle.cookie_laws.specs.Given.{is_given}
use Rattle.cookie_lookup.specs.Groups.{DomainGroups}
use Rattle.cookie_lookup.specs.SearchView.{at_domain, how_many_found, how_many_pairs_found, paths_at_domain}
use Rattle.cookie_lookup.specs.Positions.{SamePositions}
use Rattle.cookie_lookup.specs.Candidates.{dots, most_paths, candidate_paths, candidate_domains}
use Rattle.cookie_lookup.proofs.CandidateCounts.{paths_next, room_here, room_next}
use Rattle.cookie_lookup.proofs.FoundPairs.{found_counted, listed_pairs, pairs_next}
use Rattle.cookie_lookup.proofs.CandidateDomains.{length_related, related_differ, related_texts_are}
use Rattle.cookie_lookup.proofs.Listed.{filter_at, filter_passed, length_texts, listed_domain_positions, listed_found, same_added, same_pushed, shared_most, some_same, text_gives}
use Rattle.cookie_lookup.proofs.LoopSteps.{none_left}
use Rattle.cookie_lookup.proofs.Results.{either_way}
use Rattle.cookie_lookup.proofs.listing.push_listed_domains.Given.{Over}
use Rattle.cookie_lookup.proofs.listing.push_listed_domains.Goals.{After-loop-place, in-Some+in_ok-push_domain, in_default}
use Rattle.cookie_lookup.proofs.listing.push_listed_domains.Goals as goal

pub loop-place-init : goal.loop-place-init
loop-place-init g c =
    let first = g.S.Search.view_of c.args.search.now in
    let host = c.args.host.now in
    let m = most_paths c.args.url.now in
    let test : List ℕ → Bool = λ text. list_any (bytes_eq text) (candidate_domains host) in
    let texts : List (List ℕ) = map (λ p. p.0) first.groups in
    let look : DomainGroups → List ℕ → List (ℕ × ℕ × ℕ) = λ groups. at_domain (is_given c.args.url.now (moment_of c.args.now)) groups (candidate_paths c.args.url.now.path) in
    let differ = (g.met.S.Search.are_groups c.args.search.now).0 in
    let most : length (filter test texts) ≤ 1 + dots host = omega (arith, shared_most (candidate_domains host) texts (related_differ host) differ, length_related host) in
    record {
      positions = same_added c.args.positions.now.items (flat_map (look first.groups) (filter test texts)) (flat_map (look first.groups) (candidate_domains host))
          (listed_domain_positions (is_given c.args.url.now (moment_of c.args.now)) first.groups (candidate_paths c.args.url.now.path) (candidate_domains host) (related_differ host) differ);
      groups = refl;
      domains = omega (arith, most);
      room = omega (arith, mul-le-mul_right m most);
      paths = omega (arith, ap (λ n. n * m) (listed_found first.groups (candidate_domains host) (related_differ host) differ));
      every_domain = omega (arith, listed_found first.groups (candidate_domains host) (related_differ host) differ, found_counted first.groups (filter test texts));
      every_path = omega (arith, listed_pairs (candidate_domains host) (related_differ host) first.groups (candidate_paths c.args.url.now.path) differ);
    }

pub push_domain-requires-clause-name : goal.push_domain-requires-clause-name
push_domain-requires-clause-name g c = c.is_host_name-host_is_name.ensures

pub push_domain-requires-clause-related : goal.push_domain-requires-clause-related
push_domain-requires-clause-related g c =
    (related_texts_are c.args.host.now c.in-Some.text.now).0 c.in-Some.ensures.is

pub push_domain-requires-clause-domains : goal.push_domain-requires-clause-domains
push_domain-requires-clause-domains g c =
    let first = g.S.Search.view_of c.args.search.now in
    let host = c.args.host.now in
    let test : List ℕ → Bool = λ text. list_any (bytes_eq text) (candidate_domains host) in
    let texts : List (List ℕ) = map (λ p. p.0) first.groups in
    let text = c.in-Some.text.now in
    let here : Some text ≡ slice_get texts c.loop-place.place = subst (λ (groups : DomainGroups). Some text ≡ slice_get (map (λ p. p.0) groups) c.loop-place.place) c.loop-place.invariant.groups c.in-Some.ensures.suffix in
    let left = filter_at test texts c.loop-place.place text here c.in-Some.ensures.is in
    omega (arith, c.loop-place.invariant.domains, ap length left, c.requires.domains)

pub push_domain-requires-clause-paths : goal.push_domain-requires-clause-paths
push_domain-requires-clause-paths g c =
    let first = g.S.Search.view_of c.args.search.now in
    let host = c.args.host.now in
    let m = most_paths c.args.url.now in
    let test : List ℕ → Bool = λ text. list_any (bytes_eq text) (candidate_domains host) in
    let texts : List (List ℕ) = map (λ p. p.0) first.groups in
    let text = c.in-Some.text.now in
    let here : Some text ≡ slice_get texts c.loop-place.place = subst (λ (groups : DomainGroups). Some text ≡ slice_get (map (λ p. p.0) groups) c.loop-place.place) c.loop-place.invariant.groups c.in-Some.ensures.suffix in
    let left = filter_at test texts c.loop-place.place text here c.in-Some.ensures.is in
    let more : List (List ℕ) = filter test (drop (c.loop-place.place + 1) texts) in
    let split : length (filter test (drop c.loop-place.place texts)) * m ≡ (1 + length more) * m = ap (λ n. n * m) (ap length left ∙ omega arith) in
    omega (arith, c.loop-place.invariant.room, split, room_here m (length more), c.requires.paths)

pub returns-in_err-push_domain-clause-groups : goal.returns-in_err-push_domain-clause-groups
returns-in_err-push_domain-clause-groups g c = c.push_domain.ensures.groups ∙ c.loop-place.invariant.groups

pub returns-in_err-push_domain-clause-domains : goal.returns-in_err-push_domain-clause-domains
returns-in_err-push_domain-clause-domains g c =
    let first = g.S.Search.view_of c.args.search.now in
    let host = c.args.host.now in
    let test : List ℕ → Bool = λ text. list_any (bytes_eq text) (candidate_domains host) in
    let texts : List (List ℕ) = map (λ p. p.0) first.groups in
    let text = c.in-Some.text.now in
    let here : Some text ≡ slice_get texts c.loop-place.place = subst (λ (groups : DomainGroups). Some text ≡ slice_get (map (λ p. p.0) groups) c.loop-place.place) c.loop-place.invariant.groups c.in-Some.ensures.suffix in
    let left = filter_at test texts c.loop-place.place text here c.in-Some.ensures.is in
    omega (arith, c.push_domain.ensures.domains, c.loop-place.invariant.domains, ap length left)

pub returns-in_err-push_domain-clause-paths : goal.returns-in_err-push_domain-clause-paths
returns-in_err-push_domain-clause-paths g c =
    let first = g.S.Search.view_of c.args.search.now in
    let host = c.args.host.now in
    let m = most_paths c.args.url.now in
    let test : List ℕ → Bool = λ text. list_any (bytes_eq text) (candidate_domains host) in
    let texts : List (List ℕ) = map (λ p. p.0) first.groups in
    let text = c.in-Some.text.now in
    let here : Some text ≡ slice_get texts c.loop-place.place = subst (λ (groups : DomainGroups). Some text ≡ slice_get (map (λ p. p.0) groups) c.loop-place.place) c.loop-place.invariant.groups c.in-Some.ensures.suffix in
    let left = filter_at test texts c.loop-place.place text here c.in-Some.ensures.is in
    let more : List (List ℕ) = filter test (drop (c.loop-place.place + 1) texts) in
    let row_filter : (g.S.Search.view_of c.push_domain.new.search).paths ≤ (g.S.Search.view_of c.loop-place.search).paths + how_many_found first.groups (text ∷ []) * m =
    subst (λ groups. (g.S.Search.view_of c.push_domain.new.search).paths ≤ (g.S.Search.view_of c.loop-place.search).paths + how_many_found groups (text ∷ []) * m) c.loop-place.invariant.groups c.push_domain.ensures.paths in
    let next = paths_next first.groups text more m (g.S.Search.view_of c.loop-place.search).paths (g.S.Search.view_of c.push_domain.new.search).paths row_filter in
    let all = ap (λ ts. how_many_found first.groups ts * m) left in
    omega (arith, next, all, c.loop-place.invariant.paths)

pub returns-in_err-push_domain-clause-memory : goal.returns-in_err-push_domain-clause-memory
returns-in_err-push_domain-clause-memory g c =
    let first = g.S.Search.view_of c.args.search.now in
    let host = c.args.host.now in
    let test : List ℕ → Bool = λ text. list_any (bytes_eq text) (candidate_domains host) in
    let texts : List (List ℕ) = map (λ p. p.0) first.groups in
    let look : DomainGroups → List ℕ → List (ℕ × ℕ × ℕ) = λ groups. at_domain (is_given c.args.url.now (moment_of c.args.now)) groups (candidate_paths c.args.url.now.path) in
    let differ = (g.met.S.Search.are_groups c.args.search.now).0 in
    let text = c.in-Some.text.now in
    let here : Some text ≡ slice_get texts c.loop-place.place = subst (λ (groups : DomainGroups). Some text ≡ slice_get (map (λ p. p.0) groups) c.loop-place.place) c.loop-place.invariant.groups c.in-Some.ensures.suffix in
    let some : look first.groups text ≢ [] = subst (λ groups. look groups text ≢ []) c.loop-place.invariant.groups c.in_err-push_domain.ensures.memory in
    let same = listed_domain_positions (is_given c.args.url.now (moment_of c.args.now)) first.groups (candidate_paths c.args.url.now.path) (candidate_domains host) (related_differ host) differ in
    either_way c.from_residual.result (some_same (flat_map (look first.groups) (filter test texts)) (flat_map (look first.groups) (candidate_domains host)) same
    (text_gives test texts c.loop-place.place text here (look first.groups) c.in-Some.ensures.is some))

pub loop-place-preserved : goal.loop-place-preserved
loop-place-preserved g c =
    let first = g.S.Search.view_of c.args.search.now in
    let host = c.args.host.now in
    let m = most_paths c.args.url.now in
    let test : List ℕ → Bool = λ text. list_any (bytes_eq text) (candidate_domains host) in
    let texts : List (List ℕ) = map (λ p. p.0) first.groups in
    let look : DomainGroups → List ℕ → List (ℕ × ℕ × ℕ) = λ groups. at_domain (is_given c.args.url.now (moment_of c.args.now)) groups (candidate_paths c.args.url.now.path) in
    let ps = candidate_paths c.args.url.now.path in
    let before = g.S.Search.view_of c.loop-place.search in
    let end = c.args.positions.now.items ++ flat_map (look first.groups) (candidate_domains host) in
    elim c.match-suffix_at.branch [
      | in-Some+in_ok-push_domain w ↦
          let text = w.in-Some.text.now in
          let here : Some text ≡ slice_get texts c.loop-place.place = subst (λ (groups : DomainGroups). Some text ≡ slice_get (map (λ p. p.0) groups) c.loop-place.place) c.loop-place.invariant.groups w.in-Some.ensures.suffix in
          let left = filter_at test texts c.loop-place.place text here w.in-Some.ensures.is in
          let more : List (List ℕ) = filter test (drop (c.loop-place.place + 1) texts) in
          let row_filter : (g.S.Search.view_of w.push_domain.new.search).paths ≤ (g.S.Search.view_of c.loop-place.search).paths + how_many_found first.groups (text ∷ []) * m =
          subst (λ groups. (g.S.Search.view_of w.push_domain.new.search).paths ≤ (g.S.Search.view_of c.loop-place.search).paths + how_many_found groups (text ∷ []) * m) c.loop-place.invariant.groups w.in_ok-push_domain.ensures.paths in
          let next = paths_next first.groups text more m (g.S.Search.view_of c.loop-place.search).paths (g.S.Search.view_of w.push_domain.new.search).paths row_filter in
          let all = ap (λ ts. how_many_found first.groups ts * m) left in
          let after = g.S.Search.view_of w.push_domain.new.search in
          let added : SamePositions c.match-suffix_at.positions.items (c.loop-place.positions.items ++ look first.groups text) =
          subst (λ v. SamePositions v.items (c.loop-place.positions.items ++ look first.groups text)) (sym w.positions-is)
          (subst (λ groups. SamePositions w.push_domain.new.positions.items (c.loop-place.positions.items ++ look groups text)) c.loop-place.invariant.groups w.in_ok-push_domain.ensures.positions) in
          let split : length (filter test (drop c.loop-place.place texts)) * m ≡ (1 + length more) * m = ap (λ n. n * m) (ap length left ∙ omega arith) in
          rw w.search-is record {
            positions = same_pushed test texts c.loop-place.place text here (look first.groups) w.in-Some.ensures.is end c.loop-place.positions.items c.match-suffix_at.positions.items c.loop-place.invariant.positions added;
            groups = w.in_ok-push_domain.ensures.groups ∙ c.loop-place.invariant.groups;
            domains = omega (arith, w.in_ok-push_domain.ensures.domains, c.loop-place.invariant.domains, ap length left);
            room = omega (arith, c.loop-place.invariant.room, split, room_next first.groups text m (length more) before.paths after.paths row_filter);
            paths = omega (arith, next, all, c.loop-place.invariant.paths);
            every_domain = omega (arith, w.in_ok-push_domain.ensures.domains, c.loop-place.invariant.every_domain, ap length left);
            every_path = pairs_next first.groups ps text more (first.paths + how_many_pairs_found first.groups ps (candidate_domains host)) before.paths after.paths
                (subst (λ ts. first.paths + how_many_pairs_found first.groups ps (candidate_domains host) ≤ before.paths + how_many_pairs_found first.groups ps ts) left c.loop-place.invariant.every_path)
                (subst (λ groups. before.paths + paths_at_domain groups ps text ≤ after.paths) c.loop-place.invariant.groups w.in_ok-push_domain.ensures.every_path);
          }
      | in_default w ↦
          let below : c.loop-place.place < length texts = omega (arith, length_texts first.groups, c.requires.count, c.loop-place-test.true) in
          let fails : (t : List ℕ) → Some t ≡ slice_get texts c.loop-place.place → test t ≡ false = λ t e.
          w.in_default.ensures.none t (subst (λ (groups : DomainGroups). Some t ≡ slice_get (map (λ p. p.0) groups) c.loop-place.place) (sym c.loop-place.invariant.groups) e) in
          let same = filter_passed test texts c.loop-place.place below fails in
          rw w.search-is record {
            positions = subst (λ v. SamePositions (v.items ++ flat_map (look first.groups) (filter test (drop (c.loop-place.place + 1) texts))) end) (sym w.positions-is)
                (subst (λ ts. SamePositions (c.loop-place.positions.items ++ flat_map (look first.groups) ts) end) same c.loop-place.invariant.positions);
            groups = c.loop-place.invariant.groups;
            domains = omega (arith, ap length same, c.loop-place.invariant.domains);
            room = omega (arith, ap (λ ts. length ts * m) same, c.loop-place.invariant.room);
            paths = omega (arith, ap (λ ts. how_many_found first.groups ts * m) same, c.loop-place.invariant.paths);
            every_domain = omega (arith, ap length same, c.loop-place.invariant.every_domain);
            every_path = omega (arith, ap (how_many_pairs_found first.groups ps) same, c.loop-place.invariant.every_path);
          }
    ]

-- no domains are left
passed : (g : Over) (c : After-loop-place g)
    → filter (λ text. list_any (bytes_eq text) (candidate_domains c.args.host.now)) (drop c.loop-place.place (map (λ p. p.0) (g.S.Search.view_of c.args.search.now).groups)) ≡ []
passed g c =
    let groups = (g.S.Search.view_of c.args.search.now).groups in
    at_drop_all (filter (λ text. list_any (bytes_eq text) (candidate_domains c.args.host.now))) (map (λ p. p.0) groups) c.loop-place.place
    (omega (arith, length_texts groups, c.requires.count, c.loop-place-test.false))

pub returns-clause-positions : goal.returns-clause-positions
returns-clause-positions g c =
    let first = g.S.Search.view_of c.args.search.now in
    let host = c.args.host.now in
    let look : List ℕ → List (ℕ × ℕ × ℕ) = at_domain (is_given c.args.url.now (moment_of c.args.now)) first.groups (candidate_paths c.args.url.now.path) in
    none_left look _ (passed g c) (c.args.positions.now.items ++ flat_map look (candidate_domains host)) c.loop-place.positions.items c.loop-place.invariant.positions

pub returns-clause-groups : goal.returns-clause-groups
returns-clause-groups g c = c.loop-place.invariant.groups

pub returns-clause-domains : goal.returns-clause-domains
returns-clause-domains g c = omega (arith, c.loop-place.invariant.domains)

pub returns-clause-paths : goal.returns-clause-paths
returns-clause-paths g c = omega (arith, c.loop-place.invariant.paths)

pub returns-clause-every_domain : goal.returns-clause-every_domain
returns-clause-every_domain g c = omega (arith, ap length (passed g c), c.loop-place.invariant.every_domain)

pub returns-clause-every_path : goal.returns-clause-every_path
returns-clause-every_path g c =
    let first = g.S.Search.view_of c.args.search.now in
    omega (arith, ap (how_many_pairs_found first.groups (candidate_paths c.args.url.now.path)) (passed g c), c.loop-place.invariant.every_path)
