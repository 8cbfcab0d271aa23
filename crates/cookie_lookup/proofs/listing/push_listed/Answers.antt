use Rattle.std.proofs.Common.{◌≡◌, ◌∙◌, ◌+◌, ◌<◌, ◌++◌, [], true, false, sym, ap, subst, List, ℕ, length, drop, map, bytes_eq, arith, Some, append-nil}
use Rattle.std.specs.Prelude.{◌≢◌, filter, slice_get}
use Rattle.std.specs.List.{flat_map, list_any}
use Rattle.std.proofs.lemmas.List.{at_drop_all}
use Rattle.cookie_words.specs.Moments.{moment_of}
use Rattle.cookie_lookup.specs.RowFilter.{is_given_under}
use Rattle.cookie_lookup.specs.Groups.{DomainGroups}
use Rattle.cookie_lookup.specs.SearchView.{at_path, under}
use Rattle.cookie_lookup.specs.Candidates.{candidate_paths}
use Rattle.cookie_lookup.proofs.Listed.{filter_at, filter_passed, length_texts, listed_most, paths_differ, text_gives, text_pushed}
use Rattle.cookie_lookup.proofs.Results.{either_way}
use Rattle.cookie_lookup.proofs.listing.push_listed.Goals.{in-Some+in_ok-push_path, in_default}
use Rattle.cookie_lookup.proofs.listing.push_listed.Goals as goal

pub push_path-requires-clause-domain : goal.push_path-requires-clause-domain
push_path-requires-clause-domain g c = omega (arith, ap length c.loop-place.invariant.groups, c.requires.domain)

pub push_path-requires-clause-room : goal.push_path-requires-clause-room
push_path-requires-clause-room g c =
    let first = g.S.Search.view_of c.args.search.now in
    let path = c.args.row_filter.now.url.now.path in
    let test : List ℕ → _ = λ text. list_any (bytes_eq text) (candidate_paths path) in
    let texts : List (List ℕ) = map (λ p. p.0) (under c.args.domain first.groups) in
    let here : Some c.in-Some.prefix.now ≡ slice_get texts c.loop-place.place = subst (λ (groups : DomainGroups). Some c.in-Some.prefix.now ≡ slice_get (map (λ p. p.0) (under c.args.domain groups)) c.loop-place.place) c.loop-place.invariant.groups c.in-Some.ensures.prefix in
    let passes : test c.in-Some.prefix.now ≡ true = subst (λ r. list_any (bytes_eq c.in-Some.prefix.now) (candidate_paths r) ≡ true) c.path-path.ensures.value c.in-Some.ensures.is in
    let most = listed_most path texts (paths_differ first.groups (g.met.S.Search.are_groups c.args.search.now) c.args.domain) in
    omega (arith, c.loop-place.invariant.paths, ap length (filter_at test texts c.loop-place.place c.in-Some.prefix.now here passes), most, c.requires.room)

pub returns-in_err-push_path-clause-groups : goal.returns-in_err-push_path-clause-groups
returns-in_err-push_path-clause-groups g c = c.push_path.ensures.groups ∙ c.loop-place.invariant.groups

pub returns-in_err-push_path-clause-domains : goal.returns-in_err-push_path-clause-domains
returns-in_err-push_path-clause-domains g c = c.push_path.ensures.domains ∙ c.loop-place.invariant.domains

pub returns-in_err-push_path-clause-paths : goal.returns-in_err-push_path-clause-paths
returns-in_err-push_path-clause-paths g c =
    let first = g.S.Search.view_of c.args.search.now in
    let path = c.args.row_filter.now.url.now.path in
    let test : List ℕ → _ = λ text. list_any (bytes_eq text) (candidate_paths path) in
    let texts : List (List ℕ) = map (λ p. p.0) (under c.args.domain first.groups) in
    let here : Some c.in-Some.prefix.now ≡ slice_get texts c.loop-place.place = subst (λ (groups : DomainGroups). Some c.in-Some.prefix.now ≡ slice_get (map (λ p. p.0) (under c.args.domain groups)) c.loop-place.place) c.loop-place.invariant.groups c.in-Some.ensures.prefix in
    let passes : test c.in-Some.prefix.now ≡ true = subst (λ r. list_any (bytes_eq c.in-Some.prefix.now) (candidate_paths r) ≡ true) c.path-path.ensures.value c.in-Some.ensures.is in
    let most = listed_most path texts (paths_differ first.groups (g.met.S.Search.are_groups c.args.search.now) c.args.domain) in
    omega (arith, c.push_path.ensures.paths, c.loop-place.invariant.paths, ap length (filter_at test texts c.loop-place.place c.in-Some.prefix.now here passes), most)

pub returns-in_err-push_path-clause-memory : goal.returns-in_err-push_path-clause-memory
returns-in_err-push_path-clause-memory g c =
    let first = g.S.Search.view_of c.args.search.now in
    let url = c.args.row_filter.now.url.now in
    let test : List ℕ → _ = λ text. list_any (bytes_eq text) (candidate_paths url.path) in
    let texts : List (List ℕ) = map (λ p. p.0) (under c.args.domain first.groups) in
    let look : DomainGroups → List ℕ → List (ℕ × ℕ × ℕ) = λ groups. at_path (is_given_under c.args.row_filter.now.host_only c.args.row_filter.now.suffix url (moment_of c.args.row_filter.now.time)) c.args.domain (under c.args.domain groups) in
    let here : Some c.in-Some.prefix.now ≡ slice_get texts c.loop-place.place = subst (λ (groups : DomainGroups). Some c.in-Some.prefix.now ≡ slice_get (map (λ p. p.0) (under c.args.domain groups)) c.loop-place.place) c.loop-place.invariant.groups c.in-Some.ensures.prefix in
    let passes : test c.in-Some.prefix.now ≡ true = subst (λ r. list_any (bytes_eq c.in-Some.prefix.now) (candidate_paths r) ≡ true) c.path-path.ensures.value c.in-Some.ensures.is in
    let some : look first.groups c.in-Some.prefix.now ≢ [] = subst (λ groups. look groups c.in-Some.prefix.now ≢ []) c.loop-place.invariant.groups c.in_err-push_path.ensures.memory in
    either_way c.from_residual.result (text_gives test texts c.loop-place.place c.in-Some.prefix.now here (look first.groups) passes some)

pub loop-place-preserved : goal.loop-place-preserved
loop-place-preserved g c =
    let first = g.S.Search.view_of c.args.search.now in
    let url = c.args.row_filter.now.url.now in
    let place = c.loop-place.place in
    let test : List ℕ → _ = λ text. list_any (bytes_eq text) (candidate_paths url.path) in
    let texts : List (List ℕ) = map (λ p. p.0) (under c.args.domain first.groups) in
    let look : DomainGroups → List ℕ → List (ℕ × ℕ × ℕ) = λ groups. at_path (is_given_under c.args.row_filter.now.host_only c.args.row_filter.now.suffix url (moment_of c.args.row_filter.now.time)) c.args.domain (under c.args.domain groups) in
    let all = c.args.positions.now.items ++ flat_map (look first.groups) (filter test texts) in
    elim c.match-prefix_at.branch [
      | in-Some+in_ok-push_path w ↦
          let prefix = w.in-Some.prefix.now in
          let here : Some prefix ≡ slice_get texts place = subst (λ (groups : DomainGroups). Some prefix ≡ slice_get (map (λ p. p.0) (under c.args.domain groups)) place) c.loop-place.invariant.groups w.in-Some.ensures.prefix in
          let passes : test prefix ≡ true = subst (λ r. list_any (bytes_eq prefix) (candidate_paths r) ≡ true) c.path-path.ensures.value w.in-Some.ensures.is in
          let added = ap (λ v. v.items) w.positions-is ∙ w.in_ok-push_path.ensures.positions ∙ ap (λ groups. c.loop-place.positions.items ++ look groups prefix) c.loop-place.invariant.groups in
          rw w.search-is record {
            positions = text_pushed test texts place prefix here (look first.groups) passes all c.loop-place.positions.items c.match-prefix_at.positions.items c.loop-place.invariant.positions added;
            groups = w.in_ok-push_path.ensures.groups ∙ c.loop-place.invariant.groups;
            domains = w.in_ok-push_path.ensures.domains ∙ c.loop-place.invariant.domains;
            paths = omega (arith, w.in_ok-push_path.ensures.paths, c.loop-place.invariant.paths, ap length (filter_at test texts place prefix here passes));
          }
      | in_default w ↦
          let below : place < length texts = omega (arith, length_texts (under c.args.domain first.groups), c.requires.count, c.loop-place-test.true) in
          let fails : (t : List ℕ) → Some t ≡ slice_get texts place → test t ≡ false = λ t e.
          subst (λ r. list_any (bytes_eq t) (candidate_paths r) ≡ false) c.path-path.ensures.value
          (w.in_default.ensures.none t (subst (λ (groups : DomainGroups). Some t ≡ slice_get (map (λ p. p.0) (under c.args.domain groups)) place) (sym c.loop-place.invariant.groups) e)) in
          let same = filter_passed test texts place below fails in
          rw w.search-is record {
            positions = ap (λ v. v.items ++ flat_map (look first.groups) (filter test (drop (place + 1) texts))) w.positions-is ∙ ap (λ ts. c.loop-place.positions.items ++ flat_map (look first.groups) ts) (sym same) ∙ c.loop-place.invariant.positions;
            groups = c.loop-place.invariant.groups;
            domains = c.loop-place.invariant.domains;
            paths = omega (arith, ap length same, c.loop-place.invariant.paths);
          }
    ]

pub returns-clause-positions : goal.returns-clause-positions
returns-clause-positions g c =
    let paths = under c.args.domain (g.S.Search.view_of c.args.search.now).groups in
    let test : List ℕ → _ = λ text. list_any (bytes_eq text) (candidate_paths c.args.row_filter.now.url.now.path) in
    let texts : List (List ℕ) = map (λ p. p.0) paths in
    let passed : filter test (drop c.loop-place.place texts) ≡ [] = at_drop_all (filter test) texts c.loop-place.place (omega (arith, length_texts paths, c.requires.count, c.loop-place-test.false)) in
    let look : List ℕ → List (ℕ × ℕ × ℕ) = at_path (is_given_under c.args.row_filter.now.host_only c.args.row_filter.now.suffix c.args.row_filter.now.url.now (moment_of c.args.row_filter.now.time)) c.args.domain paths in
    sym (append-nil c.loop-place.positions.items) ∙ ap (λ ts. c.loop-place.positions.items ++ flat_map look ts) (sym passed) ∙ c.loop-place.invariant.positions

pub returns-clause-groups : goal.returns-clause-groups
returns-clause-groups g c = c.loop-place.invariant.groups

pub returns-clause-domains : goal.returns-clause-domains
returns-clause-domains g c = c.loop-place.invariant.domains

pub returns-clause-every_path : goal.returns-clause-every_path
returns-clause-every_path g c =
    let paths = under c.args.domain (g.S.Search.view_of c.args.search.now).groups in
    let test : List ℕ → _ = λ text. list_any (bytes_eq text) (candidate_paths c.args.row_filter.now.url.now.path) in
    let texts : List (List ℕ) = map (λ p. p.0) paths in
    let passed : filter test (drop c.loop-place.place texts) ≡ [] = at_drop_all (filter test) texts c.loop-place.place (omega (arith, length_texts paths, c.requires.count, c.loop-place-test.false)) in
    omega (arith, ap length passed, c.loop-place.invariant.paths)

pub returns-clause-paths : goal.returns-clause-paths
returns-clause-paths g c =
    let first = g.S.Search.view_of c.args.search.now in
    let path = c.args.row_filter.now.url.now.path in
    let texts : List (List ℕ) = map (λ p. p.0) (under c.args.domain first.groups) in
    let most = listed_most path texts (paths_differ first.groups (g.met.S.Search.are_groups c.args.search.now) c.args.domain) in
    omega (arith, c.loop-place.invariant.paths, most)
