use Rattle.std.proofs.Common.{◌≡◌, ◌∷◌, [], ◌++◌, String, Global, sym, ap, ◌∙◌, subst, string_bytes, string_cmp}
use Rattle.std.specs.List.Sorted.{IsStrictlySortedBy}
use Rattle.std.specs.Map.{keys_of}
use Rattle.std.proofs.lemmas.List.{append_assoc, append-nil}
use Rattle.cookie_psl.specs.Tree.{label_rules}
use Rattle.cookie_psl.specs.declared.tree.Node.{Node}
use Rattle.cookie_psl.proofs.CopiedTree.{kids_view, put_last, same_view, view_insert}
use Rattle.cookie_psl.proofs.tree.+copy.Goals as goal

pub copy_kids-loop-label-preserved : goal.copy_kids-loop-label-preserved
copy_kids-loop-label-preserved t c =
    let l = c.loop-label in
    let done = l.invariant.0 in
    let kid : String Global × Node = (c.in-Some.label.now, c.in-Some.kid.now) in
    let left = c.next.new.self in
    let all : c.args.kids.now.entries ≡ done ++ kid ∷ left = l.invariant.1 ∙ ap (λ kids. done ++ kids) c.in-Some.ensures.steps in
    let last = put_last done kid left (subst (λ kids. IsStrictlySortedBy string_cmp (keys_of kids)) all (assumption c.into_iter-label-iterator.ensures.into_iter_gives)) in
    let named : string_bytes c.in_ok-own.own ≡ string_bytes kid.0 = c.in_ok-own.ensures.cases in (
      done ++ kid ∷ [],
      all ∙ sym (append_assoc done (kid ∷ []) left),
      ap kids_view c.in_ok-insert.ensures.entries ∙ view_insert l.copies.entries c.in_ok-own.own c.in_ok-copy.field-0 ∙ rw (named, c.in_ok-copy.ensures, l.invariant.2) last,
    )

pub copy_kids-returns : goal.copy_kids-returns
copy_kids-returns t c =
    same_view c.loop-label.copies.entries c.loop-label.invariant.0 c.loop-label.invariant.2
    ∙ ap label_rules (sym (c.loop-label.invariant.1 ∙ ap (λ left. c.loop-label.invariant.0 ++ left) c.in-None.ensures.steps.0 ∙ append-nil c.loop-label.invariant.0))
