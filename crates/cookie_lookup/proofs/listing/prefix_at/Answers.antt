use Rattle.std.proofs.Common.{◌≡◌, ◌∙◌, true, false, sym, ap, subst, take, length, bytes_eq, arith, Some}
use Rattle.std.specs.List.{list_any}
use Rattle.cookie_lookup.specs.Candidates.{candidate_paths}
use Rattle.cookie_lookup.proofs.CoveringPaths.{front_boundary, front_text, path_text_by}
use Rattle.cookie_lookup.proofs.listing.prefix_at.Goals as goal

pub range-requires-clause-end_boundary : goal.range-requires-clause-end_boundary
range-requires-clause-end_boundary g c =
    let path = c.args.path.now in
    let text = c.in-Some.text.now in
    let same = path_text_by path text c.as_bytes-bytes.result.now c.as_bytes.result.now c.as_bytes-bytes.ensures.value c.as_bytes.ensures.value in
    front_boundary path text c.utf8.path (sym (c.is_candidate_path.ensures ∙ same) ∙ c.if-is_candidate_path.true)

pub returns-then-is_candidate_path-clause-prefix : goal.returns-then-is_candidate_path-clause-prefix
returns-then-is_candidate_path-clause-prefix g c =
    let path = c.args.path.now in
    let text = c.in-Some.text.now in
    let same = path_text_by path text c.as_bytes-bytes.result.now c.as_bytes.result.now c.as_bytes-bytes.ensures.value c.as_bytes.ensures.value in
    let cut : c.range.result.now ≡ take (length text) path = rw c.range.ensures.value (grind arith) in
    ap Some (cut ∙ front_text path text (sym (c.is_candidate_path.ensures ∙ same) ∙ c.if-is_candidate_path.true)) ∙ c.in-Some.ensures

pub returns-then-is_candidate_path-clause-is : goal.returns-then-is_candidate_path-clause-is
returns-then-is_candidate_path-clause-is g c =
    let path = c.args.path.now in
    let text = c.in-Some.text.now in
    let same = path_text_by path text c.as_bytes-bytes.result.now c.as_bytes.result.now c.as_bytes-bytes.ensures.value c.as_bytes.ensures.value in
    let among : list_any (bytes_eq text) (candidate_paths path) ≡ true = sym (c.is_candidate_path.ensures ∙ same) ∙ c.if-is_candidate_path.true in
    let cut : c.range.result.now ≡ take (length text) path = rw c.range.ensures.value (grind arith) in
    subst (λ t. list_any (bytes_eq t) (candidate_paths path) ≡ true) (sym (cut ∙ front_text path text among)) among

pub returns-else-is_candidate_path-clause-none : goal.returns-else-is_candidate_path-clause-none
returns-else-is_candidate_path-clause-none g c = λ text is.
    let path = c.args.path.now in
    let here = c.in-Some.text.now in
    let e : Some text ≡ Some here = is ∙ sym c.in-Some.ensures in
    let it : text ≡ here = cc in
    let same = path_text_by path here c.as_bytes-bytes.result.now c.as_bytes.result.now c.as_bytes-bytes.ensures.value c.as_bytes.ensures.value in
    subst (λ t. list_any (bytes_eq t) (candidate_paths path) ≡ false) (sym it) (sym (c.is_candidate_path.ensures ∙ same) ∙ c.if-is_candidate_path.false)
