-- `of` takes the box apart by `into_raw`, and makes a store pointer of its pointer.
use Rattle.std.proofs.Common.{List, [], ◌∷◌, ◌++◌, refl, ap, ◌∙◌, Some}
use mir.Val.{Val}
use base.Fraction.{full_share}
use base.Logic.{id⊢}
use base.Fml.{ftrue, fsep}
use prog.Wp.{WpFn}
use types.Kit.{‵, raw, ◌⊛◌, some, later, ◌$◌, ◌∵◌, !, qed, drop, prop, regoal, rewrite, split, join, fsplit, fjoin, fpack, pick, suffices, use1, await, feq_l, done}
use types.Run.{of_opd, no_more, and_then, returns, enter}
use types.ByLocal.{alloc_all, pass_all, free_all, look_at, get, sets, lands_as}
use types.Part.{agg}
use contract.Running.{tables}
use denote.Exit.{no}
use denote.Memory.{lone}
use denote.Param.NoDrop.{glues}
use denote.RawPtr.{Ptr, RawPtr, block_ptr, ptr_val}
use denote.Signature.{plain}
use denote.Steps.{nothing, only}
use denote.Triple.Call.{calls_at}
use denote.Triple.Clauses.{Lasts, lasts}
use denote.Triple.Spec.{triple_of}
use denote.Triple.Walked.{Stays, stay_dropped, Goes-dropped, walk_of, says, ends_at}
use Rattle.core.proofs.atomic.Steps.{fm}
use Rattle.core.proofs.cell.Inside.{one}
use Rattle.std.proofs.raw_atomic.Walks.{proved_at}
use Rattle.std_alloc.specs.contracts.boxed.Box.into_raw as g
use Rattle.std_alloc.proofs.boxed.Box.into_raw.Met.{met}
use Rattle.std_heap.specs.contracts.GlobalAllocator.TheImpl.{ghosts, dict}
use Rattle.std_heap.specs.declared.Global.{Global}
use Rattle.std_heap.proofs.GlobalAllocator.TheImpl.Met.{passed}
use Rattle.cookie_store_c.specs.StorePtrs.{boxed}
use Rattle.cookie_store_c.proofs.StorePtrSteps.{word, store_ptr_in, lies, tokens, asks}
use Rattle.cookie_store_c.proofs.StoreBox.{Boxed, StoreArg, HeapArg, StoreLaws, HeapLaws, boxed_lawful, heap_drop, store_drop}
use Rattle.cookie_store_c.proofs.StoreGlue.{store_glue}
use Rattle.cookie_store_c.specs.contracts.store_ptr.StorePtr.of as f
use Rattle.cookie_store_c.proofs.store_ptr.StorePtr.of.Statement.{statement}
use Rattle.cookie_store_c.proofs.store_ptr.StorePtr.of.Code as code
use Rattle.cookie_store_c.proofs.Destruct++none.drop.Code as none

abbrev stayed : Stays f.ended.signature.params f.ended.kept
stayed = (stay_dropped (plain (λ _. Boxed)) no, tt)

pub of_spec : {M : Type 1} → statement M
unfolding none.code
of_spec {M} 𝓤 𝓛 𝓜 𝓡 wired =
    let c = f.clauses 𝓛 𝓜.mem 𝓡.returns in let W = walk_of 𝓛 f.ended stayed c in let 𝓣 = tables 𝓤 𝓛.H 𝓜 𝓡 𝓡.env in
    let G = triple_of 𝓛 (g.signature StoreArg HeapArg ghosts dict heap_drop store_drop) (g.spec StoreArg HeapArg ghosts dict heap_drop store_drop 𝓛 𝓜.mem 𝓡.returns) in
    let Ended = g.ended StoreArg HeapArg ghosts dict heap_drop store_drop in
    let allocates = passed 𝓡.env (code.calls-std_heap::GlobalAllocator::allocate 𝓡.env wired) (code.calls-std_heap::GlobalAllocator::deallocate 𝓡.env wired)
    (code.calls-std_heap::GlobalAllocator::grow 𝓡.env wired) (code.calls-std_heap::GlobalAllocator::shrink 𝓡.env wired) M 𝓤 𝓛 𝓜 𝓡 in
    let heap_drops = glues "cookie_store_c::Destruct++none::drop" 𝓡.env (code.calls-cookie_store_c::Destruct++none::drop 𝓡.env wired) HeapArg HeapLaws M 𝓤 𝓛 𝓜 𝓡 in
    let store_drops = store_glue 𝓤 𝓛 𝓜 𝓡 (code.calls-cookie_store_c::cookie_core++cookie_store++CookieStore+Destruct::drop 𝓡.env wired) in
    let known = met 𝓤 𝓛 𝓜 𝓡 (code.calls-std_alloc::boxed::Box::into_raw 𝓡.env wired) StoreArg HeapArg StoreLaws HeapLaws ghosts dict heap_drop store_drop
    allocates heap_drops store_drops in
    proved_at 𝓛 f.ended stayed c 𝓜 𝓡 (Goes-dropped 𝓛 0 (plain (λ _. Boxed)) no (λ κs x w. refl), tt)
    f.Key.name code.function (code.unfolded 𝓤 𝓛.H 𝓜 𝓡 wired) (λ y are.
    let d = y.0.3.0 in let store = d.value in let v = one (lone Boxed.mir) y.0.4.0 ((boxed_lawful 𝓛).typed d y.0.4.0 are.0) in
    qed 𝓛 ((‵ ftrue ⊛ ‵ (fsep (Boxed.own_val d y.0.4.0) ftrue)) ∷ ‵ ftrue ∷ []) ∵ split ! $ drop ! $ fsplit ! $
    rewrite ! 0 (λ (us : List Val). ‵ (Boxed.own_val d us)) v.1 refl $
    regoal ! (λ (us : List Val). prop (WpFn 𝓤 𝓛.H 𝓣.C 𝓣.Λ code.function (us ++ []) (W.post y))) v.1 refl $
    enter ! _ _ _ _ _ $ alloc_all ! (λ l. pass_all ! refl (v.2, tt) $ sets ! (of_opd ! (get ! refl)) refl v.2 $
    -- [the box; nothing; nothing]
    let z : G.Ghost = ((([], ([], tt)), (full_share, (full_share, tt)), tt, (d, tt), (v.0 ∷ [], tt)), tt) in fjoin ! $ asks ! $
    use1 𝓛 (raw (G.pre z)) (id⊢ 𝓤 _) $ calls_at ! (fm 𝓛 𝓜 𝓡) G known z (and_then ! (get ! refl) (no_more !)) (λ u.
    use1 𝓛 (later (some (λ (p : Ptr). (tokens ⊛ ‵ (RawPtr.own_val p (u ∷ []))) ⊛ some (λ (ws : Lasts Ended z.0.0 z.0.3).
    ‵ (lasts Ended z.0.0 z.0.3 ws) ⊛ ‵ (boxed d.alloc p store))))) (id⊢ 𝓤 (G.post z u)) $
    await ! tt $ pick ! (λ p. split ! $ split ! $ drop ! $ feq_l ! (λ is. pick ! (λ ws. split ! $ drop ! $ lies ! d.alloc p store (λ b o e.
    lands_as ! (ap only is ∙ ap ptr_val e) refl (tt, tt) $ sets ! (of_opd ! (get ! refl)) refl (tt, tt) $
    sets ! (agg ! (and_then ! (get ! refl) (no_more !))) refl (tt, (tt, tt)) $ returns ! (look_at ! 0 refl) $ free_all ! refl $
    fpack ! Global (λ alloc. boxed alloc (block_ptr b o) store) d.alloc $ store_ptr_in ! (block_ptr b o) (Some store) $
    suffices ! _ (ends_at 𝓛 f.ended stayed c y (word (block_ptr b o)) (record { at = block_ptr b o; store = Some store }) (tt, tt) (tt, tt)) $ says ! refl $
    nothing ! $ nothing ! $ fjoin ! $ join ! $ nothing ! $ join ! $ done !)))))))
