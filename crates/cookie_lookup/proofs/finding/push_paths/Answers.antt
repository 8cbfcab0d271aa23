use Rattle.std.proofs.Common.{◌≡◌, ◌+◌, ◌<◌, ◌++◌, List, ℕ, true, false, length, take, arith, ap, ◌∙◌, sym, subst, refl, nat_eq, ◌∷◌, []}
use Rattle.std.specs.Prelude.{◌≢◌}
use Rattle.std.specs.List.{flat_map, starts_with}
use Rattle.cookie_words.specs.Moments.{moment_of}
use Rattle.cookie_lookup.specs.RowFilter.{is_given_under}
use Rattle.cookie_lookup.specs.Groups.{DomainGroups}
use Rattle.cookie_lookup.specs.SearchView.{at_path, under}
use Rattle.cookie_lookup.specs.Candidates.{ends_candidate, front_texts, candidate_paths}
use Rattle.cookie_lookup.proofs.CandidateCuts.{cut_boundary, front_same}
use Rattle.cookie_lookup.proofs.Results.{either_way}
use Rattle.cookie_lookup.proofs.LoopSteps.{fronts_room, front_pushed, front_kept, front_gives, one_front, fronts_most}
use Rattle.cookie_lookup.proofs.finding.push_paths.Goals.{then-ends_candidate+in_ok-push_path, else-ends_candidate}
use Rattle.cookie_lookup.proofs.finding.push_paths.Goals as goal

pub range-requires-clause-end_boundary : goal.range-requires-clause-end_boundary
range-requires-clause-end_boundary g c =
    let below : c.loop-at.at < length c.path-path.result.now = omega arith in
    cut_boundary c.path-path.result.now c.loop-at.at c.path-path.utf8 below (rw (← c.as_bytes-bytes.ensures.value) (sym c.ends_candidate.ensures ∙ c.if-ends_candidate.true))

pub push_path-requires-clause-room : goal.push_path-requires-clause-room
push_path-requires-clause-room g c =
    let url = c.args.row_filter.now.url.now in
    let bytes : c.as_bytes-bytes.result.now ≡ url.path = c.as_bytes-bytes.ensures.value ∙ c.path-path.ensures.value in
    let begins : starts_with nat_eq url.path (47 ∷ []) ≡ true = subst (λ b. starts_with nat_eq b (47 ∷ []) ≡ true) bytes (sym c.starts_with.ensures.value ∙ c.if-starts_with.true) in
    let ends : ends_candidate url.path c.loop-at.at ≡ true = subst (λ b. ends_candidate b c.loop-at.at ≡ true) bytes (sym c.ends_candidate.ensures ∙ c.if-ends_candidate.true) in
    let below : c.loop-at.at < length url.path = subst (λ b. c.loop-at.at < length b) bytes c.loop-at-test.true in
    omega (arith, c.loop-at.invariant.paths, fronts_room url.path c.loop-at.at begins below ends, c.requires.room)

pub returns-in_err-push_path-clause-paths : goal.returns-in_err-push_path-clause-paths
returns-in_err-push_path-clause-paths g c =
    let url = c.args.row_filter.now.url.now in
    let bytes : c.as_bytes-bytes.result.now ≡ url.path = c.as_bytes-bytes.ensures.value ∙ c.path-path.ensures.value in
    let begins : starts_with nat_eq url.path (47 ∷ []) ≡ true = subst (λ b. starts_with nat_eq b (47 ∷ []) ≡ true) bytes (sym c.starts_with.ensures.value ∙ c.if-starts_with.true) in
    let ends : ends_candidate url.path c.loop-at.at ≡ true = subst (λ b. ends_candidate b c.loop-at.at ≡ true) bytes (sym c.ends_candidate.ensures ∙ c.if-ends_candidate.true) in
    let below : c.loop-at.at < length url.path = subst (λ b. c.loop-at.at < length b) bytes c.loop-at-test.true in
    omega (arith, c.push_path.ensures.paths, c.loop-at.invariant.paths, fronts_room url.path c.loop-at.at begins below ends)

pub returns-in_err-push_path-clause-memory : goal.returns-in_err-push_path-clause-memory
returns-in_err-push_path-clause-memory g c =
    let url = c.args.row_filter.now.url.now in
    let look : DomainGroups → List ℕ → List (ℕ × ℕ × ℕ) = λ groups. at_path (is_given_under c.args.row_filter.now.host_only c.args.row_filter.now.suffix url (moment_of c.args.row_filter.now.time)) c.args.domain (under c.args.domain groups) in
    let bytes : c.as_bytes-bytes.result.now ≡ url.path = c.as_bytes-bytes.ensures.value ∙ c.path-path.ensures.value in
    let begins : starts_with nat_eq url.path (47 ∷ []) ≡ true = subst (λ b. starts_with nat_eq b (47 ∷ []) ≡ true) bytes (sym c.starts_with.ensures.value ∙ c.if-starts_with.true) in
    let ends : ends_candidate url.path c.loop-at.at ≡ true = subst (λ b. ends_candidate b c.loop-at.at ≡ true) bytes (sym c.ends_candidate.ensures ∙ c.if-ends_candidate.true) in
    let below : c.loop-at.at < length url.path = subst (λ b. c.loop-at.at < length b) bytes c.loop-at-test.true in
    let cut : c.range.result.now ≡ take (c.loop-at.at + 1) c.path-path.result.now = rw c.range.ensures.value (grind arith) in
    let text : c.range.result.now ≡ take (c.loop-at.at + 1) url.path = cut ∙ ap (take (c.loop-at.at + 1)) c.path-path.ensures.value in
    let here : look (g.S.Search.view_of c.args.search.now).groups (take (c.loop-at.at + 1) url.path) ≢ [] =
    subst (λ groups. look groups (take (c.loop-at.at + 1) url.path) ≢ []) c.loop-at.invariant.groups
    (subst (λ t. look (g.S.Search.view_of c.loop-at.search).groups t ≢ []) text c.in_err-push_path.ensures.memory) in
    either_way c.from_residual.result (front_gives (look (g.S.Search.view_of c.args.search.now).groups) url.path c.loop-at.at begins below ends here)

pub loop-at-preserved : goal.loop-at-preserved
loop-at-preserved g c =
    let url = c.args.row_filter.now.url.now in
    let first = g.S.Search.view_of c.args.search.now in
    let look : DomainGroups → List ℕ → List (ℕ × ℕ × ℕ) = λ groups. at_path (is_given_under c.args.row_filter.now.host_only c.args.row_filter.now.suffix url (moment_of c.args.row_filter.now.time)) c.args.domain (under c.args.domain groups) in
    let bytes : c.as_bytes-bytes.result.now ≡ url.path = c.as_bytes-bytes.ensures.value ∙ c.path-path.ensures.value in
    elim c.if-ends_candidate.branch [
      | then-ends_candidate+in_ok-push_path w ↦
          let ends : ends_candidate url.path c.loop-at.at ≡ true = subst (λ b. ends_candidate b c.loop-at.at ≡ true) bytes (sym c.ends_candidate.ensures ∙ w.if-ends_candidate.true) in
          let cut : w.range.result.now ≡ take (c.loop-at.at + 1) c.path-path.result.now = rw w.range.ensures.value (grind arith) in
          let text : w.range.result.now ≡ take (c.loop-at.at + 1) url.path = cut ∙ ap (take (c.loop-at.at + 1)) c.path-path.ensures.value in
          rw w.search-is record {
            positions = front_pushed (look first.groups) url.path c.loop-at.at c.args.positions.now.items c.loop-at.positions.items c.if-ends_candidate.positions.items c.loop-at.invariant.positions ends
                (ap (λ v. v.items) w.positions-is ∙ w.in_ok-push_path.ensures.positions
                ∙ ap (λ groups. c.loop-at.positions.items ++ look groups w.range.result.now) c.loop-at.invariant.groups ∙ ap (λ t. c.loop-at.positions.items ++ look first.groups t) text);
            groups = w.in_ok-push_path.ensures.groups ∙ c.loop-at.invariant.groups;
            domains = w.in_ok-push_path.ensures.domains ∙ c.loop-at.invariant.domains;
            paths = omega (arith, w.in_ok-push_path.ensures.paths, c.loop-at.invariant.paths, one_front url.path c.loop-at.at ends);
          }
      | else-ends_candidate w ↦
          let ends : ends_candidate url.path c.loop-at.at ≡ false = subst (λ b. ends_candidate b c.loop-at.at ≡ false) bytes (sym c.ends_candidate.ensures ∙ w.if-ends_candidate.false) in
          rw w.search-is record {
            positions = front_kept (look first.groups) url.path c.loop-at.at c.args.positions.now.items c.loop-at.positions.items c.if-ends_candidate.positions.items c.loop-at.invariant.positions ends (ap (λ v. v.items) w.positions-is);
            groups = c.loop-at.invariant.groups;
            domains = c.loop-at.invariant.domains;
            paths = c.loop-at.invariant.paths ∙ ap (λ texts. first.paths + length texts) (sym (front_same url.path c.loop-at.at ends));
          }
    ]

pub returns-after-loop-at-clause-paths : goal.returns-after-loop-at-clause-paths
returns-after-loop-at-clause-paths g c =
    let url = c.args.row_filter.now.url.now in
    let bytes : c.as_bytes-bytes.result.now ≡ url.path = c.as_bytes-bytes.ensures.value ∙ c.path-path.ensures.value in
    let begins : starts_with nat_eq url.path (47 ∷ []) ≡ true = subst (λ b. starts_with nat_eq b (47 ∷ []) ≡ true) bytes (sym c.starts_with.ensures.value ∙ c.if-starts_with.true) in
    let whole : c.loop-at.at ≡ length c.as_bytes-bytes.result.now = omega arith in
    omega (arith, c.loop-at.invariant.paths, fronts_most url.path c.loop-at.at begins (whole ∙ ap length bytes))

pub returns-after-loop-at-clause-positions : goal.returns-after-loop-at-clause-positions
returns-after-loop-at-clause-positions g c =
    let row_filter = c.args.row_filter.now in
    let path = row_filter.url.now.path in
    let look = at_path (is_given_under row_filter.host_only row_filter.suffix row_filter.url.now (moment_of row_filter.time)) c.args.domain (under c.args.domain (g.S.Search.view_of c.args.search.now).groups) in
    let bytes : c.as_bytes-bytes.result.now ≡ path = c.as_bytes-bytes.ensures.value ∙ c.path-path.ensures.value in
    let begins : starts_with nat_eq path (47 ∷ []) ≡ true = subst (λ b. starts_with nat_eq b (47 ∷ []) ≡ true) bytes (sym c.starts_with.ensures.value ∙ c.if-starts_with.true) in
    let whole : c.loop-at.at ≡ length c.as_bytes-bytes.result.now = omega arith in
    let all : candidate_paths path ≡ front_texts path (length path) = rw (candidate_paths, begins) refl in
    c.loop-at.invariant.positions ∙ ap (λ texts. c.args.positions.now.items ++ flat_map look texts) (ap (front_texts path) (whole ∙ ap length bytes) ∙ sym all)

pub returns-after-loop-at-clause-every_path : goal.returns-after-loop-at-clause-every_path
returns-after-loop-at-clause-every_path g c =
    let path = c.args.row_filter.now.url.now.path in
    let first = g.S.Search.view_of c.args.search.now in
    let bytes : c.as_bytes-bytes.result.now ≡ path = c.as_bytes-bytes.ensures.value ∙ c.path-path.ensures.value in
    let begins : starts_with nat_eq path (47 ∷ []) ≡ true = subst (λ b. starts_with nat_eq b (47 ∷ []) ≡ true) bytes (sym c.starts_with.ensures.value ∙ c.if-starts_with.true) in
    let whole : c.loop-at.at ≡ length c.as_bytes-bytes.result.now = omega arith in
    let all : candidate_paths path ≡ front_texts path (length path) = rw (candidate_paths, begins) refl in
    c.loop-at.invariant.paths ∙ ap (λ texts. first.paths + length texts) (ap (front_texts path) (whole ∙ ap length bytes) ∙ sym all)
