-- The loop of `retain`.
use Rattle.std.proofs.Common.{◌≡◌, ℕ, ◌+◌, ◌<◌, ◌≤◌, Bool, List, [], ◌++◌, length, take, drop, map, slice_get, get_or, Option, None, Some, All, refl, sym, ap, subst, ◌∙◌, arith, String}
use Rattle.std.specs.Map.Calls.{CallableOnEachPair, RetainsPairs}
use Rattle.std.specs.Option.{option_to_list}
use Rattle.std.specs.declared.alloc.Global.{Global}
use Rattle.std.proofs.lemmas.List.{append-nil, append_assoc, drop_all, take_all}
use Rattle.std.proofs.lemmas.List.Elements.{All-cons, All-nil}
use Rattle.ordered_map.specs.Entries.{in_order}
use Rattle.ordered_map.specs.Layout.{by_position, entries_at, entries_of, gap_position, key_value, IsStored}
use Rattle.ordered_map.specs.RetainsTo.{RetainsTo}
use Rattle.ordered_map.specs.declared.gaps.Placed.{Placed}
use Rattle.ordered_map.proofs.PlaceViews.{entries_drop, entries_take}
use Rattle.ordered_map.proofs.Retaining.{folds_from_retains, pairs_from_retains, retains_append}
use Rattle.ordered_map.proofs.MapViews.{sorted}

module _ {F V : Type 0} (T : F → String Global → V → Bool → V → F → Type 0) where
  -- `keep` was called at the entries of the first i places, and the others are as they were
  pub record RetainsSoFar (f₀ : F) (all : List (String Global × V)) (es : List (String Global × Placed V)) (order : List ℕ) (i : ℕ) (f : F) : Type 0 where
    pub done : List (String Global × V)
    pub rest : all ≡ done ++ entries_of es (drop i order)
    pub kept : RetainsTo T f₀ done (entries_of es (take i order)) f

  pub so_far_none : (f : F) (es : List (String Global × Placed V)) (order : List ℕ) → RetainsSoFar f (entries_of es order) es order 0 f
  so_far_none f es order = record { done = []; rest = refl; kept = (refl, refl) }

  pub so_far_more : (f₀ f g : F) (all : List (String Global × V)) (es es' : List (String Global × Placed V)) (order order' : List ℕ) (i : ℕ) → RetainsSoFar f₀ all es order i f → i < length order → length order' ≡ length order
      → entries_of es' (take i order') ≡ entries_of es (take i order) → RetainsTo T f (entries_at es order i) (entries_at es' order' i) g → entries_of es' (drop (i + 1) order') ≡ entries_of es (drop (i + 1) order)
      → RetainsSoFar f₀ all es' order' (i + 1) g
  so_far_more f₀ f g all es es' order order' i s l long before here after = record {
    done = s.done ++ entries_at es order i;
    rest = s.rest ∙ ap (λ r. s.done ++ r) (entries_drop es order i l) ∙ sym (append_assoc s.done (entries_at es order i) (entries_of es (drop (i + 1) order))) ∙ ap (λ r. (s.done ++ entries_at es order i) ++ r) (sym after);
    kept = subst (λ k. RetainsTo T f₀ (s.done ++ entries_at es order i) k g) (sym (entries_take es' order' i (omega arith) ∙ ap (λ k. k ++ entries_at es' order' i) before))
        (retains_append T f₀ f g s.done (entries_of es (take i order)) (entries_at es order i) (entries_at es' order' i) s.kept here);
  }

  pub so_far_all : (f₀ f : F) (all : List (String Global × V)) (es : List (String Global × Placed V)) (order : List ℕ) (i : ℕ) → IsStored es order → RetainsSoFar f₀ all es order i f → length order ≤ i → RetainsPairs T f₀ all (in_order (by_position es))
  so_far_all f₀ f all es order i h s past =
      let whole : all ≡ s.done = s.rest ∙ ap (λ r. s.done ++ entries_of es r) (drop_all i order past) ∙ append-nil s.done in
      let kept : entries_of es (take i order) ≡ in_order (by_position es) = ap (entries_of es) (take_all i order past) ∙ sorted es order h in
      subst (λ l. RetainsPairs T f₀ l (in_order (by_position es))) (sym whole) (subst (RetainsPairs T f₀ s.done) kept (pairs_from_retains T f₀ f s.done (entries_of es (take i order)) s.kept))

  pub so_far_callable : (Q : F → String Global → V → Type 0) (f₀ f : F) (all : List (String Global × V)) (es : List (String Global × Placed V)) (order : List ℕ) (i : ℕ) → RetainsSoFar f₀ all es order i f → i < length order
      → CallableOnEachPair T Q f₀ all → All (λ e. Q f e.0 e.1) (entries_at es order i)
  so_far_callable Q f₀ f all es order i s l c = by (slice_get es (get_or order i gap_position)) (s.rest ∙ ap (λ r. s.done ++ r) (entries_drop es order i l))
    where
      by : (o : Option (String Global × Placed V)) → all ≡ s.done ++ (map key_value (option_to_list o ++ []) ++ entries_of es (drop (i + 1) order)) → All (λ e. Q f e.0 e.1) (map key_value (option_to_list o ++ []))
      by None e = All-nil (λ e. Q f e.0 e.1)
      by (Some x) e = All-cons (λ e. Q f e.0 e.1) (key_value x) [] (c.at s.done (entries_of es (drop (i + 1) order)) f x.0 x.1.value e (folds_from_retains T f₀ f s.done (entries_of es (take i order)) s.kept)) (All-nil (λ e. Q f e.0 e.1))
