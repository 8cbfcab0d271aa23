use Rattle.std.proofs.Common.{◌≡◌, ◌+◌, ◌<◌, ◌∷◌, ◌++◌, ◌∙◌, ℕ, List, [], Option, None, Some, ap, append-nil, arith, get_or, length, map, slice_get, sym, take}
use Rattle.std.specs.Prelude.{◌≢◌, option_map}
use Rattle.std.specs.List.{flat_map}
use Rattle.std.proofs.lemmas.List.{flat_map_more, map-append, take_more}
use Rattle.cookie_parts.specs.Cookie.{Row}
use Rattle.cookie_lookup.specs.Positions.{groups_by_position}
use Rattle.cookie_lookup.specs.SearchView.{RowPosition, list_of, rows_at, under}
use Rattle.cookie_rows.specs.Items.{Item, ItemGroups, bare}
use Rattle.cookie_rows.specs.Stored.{stored_in}
use Rattle.cookie_rows.proofs.Results.{either_way}
use Rattle.cookie_rows.proofs.StoredPositions.{row_there}
use Rattle.cookie_rows.proofs.map_search.rows_at.Goals.{in-Some+in_ok-push, in_default}
use Rattle.cookie_rows.proofs.map_search.rows_at.Goals as goal

some_items : {X : Type 0} (xs : List X) {n : ℕ} → n < length xs → xs ≢ []
some_items xs below none = absurd (omega (arith, below, ap length none))

-- one position more, with the row that is there
one_more : (gs : ItemGroups) (ps : List RowPosition) (i : ℕ) (rows : List Row) (o : Option Item) → i < length ps → rows ≡ flat_map (rows_at (bare gs)) (take i ps)
    → o ≡ slice_get (under (get_or ps i (0, 0, 0)).1 (under (get_or ps i (0, 0, 0)).0 gs)) (get_or ps i (0, 0, 0)).2
    → rows ++ list_of (option_map (λ (item : Item). item.row) o) ≡ flat_map (rows_at (bare gs)) (take (i + 1) ps)
one_more gs ps i rows o below is there =
    let p = get_or ps i (0, 0, 0) in
    let row = ap (option_map (λ (item : Item). item.row)) there ∙ row_there gs p.0 p.1 p.2 in
    ap (λ rs. rs ++ list_of (option_map (λ (item : Item). item.row) o)) is ∙ ap (λ r. flat_map (rows_at (bare gs)) (take i ps) ++ list_of r) row
    ∙ flat_map_more (rows_at (bare gs)) [] (take i ps) p ∙ ap (flat_map (rows_at (bare gs))) (sym (take_more ps i (0, 0, 0) below))

pub returns-in_err-push-clause-memory : goal.returns-in_err-push-clause-memory
returns-in_err-push-clause-memory c = either_way c.from_residual-in_err-push.result (some_items c.args.positions.now c.loop-row_position-test.true)

pub loop-row_position-preserved : goal.loop-row_position-preserved
loop-row_position-preserved c =
    let gs = groups_by_position (stored_in c.args.groups.now) in
    let more = λ (o : Option Item). one_more gs c.args.positions.now c.loop-row_position.row_position-index (map (λ r. r.now) c.loop-row_position.cookies.items) o c.loop-row_position-test.true c.loop-row_position.invariant in
    elim c.match-row_at.branch [
      | in-Some+in_ok-push w ↦
          ap (λ v. map (λ r. r.now) v.items) w.cookies-is ∙ ap (map (λ r. r.now)) w.in_ok-push.ensures.items ∙ map-append (λ r. r.now) c.loop-row_position.cookies.items (w.cookie.result ∷ [])
          ∙ ap (λ row. map (λ r. r.now) c.loop-row_position.cookies.items ++ row ∷ []) w.cookie.ensures ∙ more (Some w.in-Some.row.now) w.in-Some.ensures
      | in_default w ↦
          ap (λ v. map (λ r. r.now) v.items) w.cookies-is ∙ sym (append-nil (map (λ r. r.now) c.loop-row_position.cookies.items)) ∙ more None w.in_default.ensures
    ]
