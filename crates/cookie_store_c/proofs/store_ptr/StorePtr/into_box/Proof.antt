-- `into_box` takes the pointer out of the store pointer, and passes what it owns to `from_raw`.
use Rattle.std.proofs.Common.{◌≡◌, List, [], ◌∷◌, refl, sym, ap, ◌∙◌, Option, Some, IsSome}
use mir.Val.{Val, vptr}
use base.Fraction.{full_share}
use base.Logic.{id⊢}
use base.Fml.{ftrue, fsep}
use prog.Wp.{WpFn}
use types.Kit.{‵, raw, ◌⊛◌, some, later, at_ret, prop, ◌$◌, ◌∵◌, !, qed, done}
use types.Kit.{move, drop, split, split3, join, fsplit, fsplit3, fjoin, fpick, pick, suffices, regoal, use1, await, rewrite, feq_i}
use types.Run.{stop, fld, of_opd, no_more, and_then, first, blocks, exec, returns, enter}
use types.ByLocal.{alloc_all, pass_all, free_all, look_at, get, get_in, sets, lands_last, env}
use types.Part.{sub, whole}
use contract.Monad.{fact}
use contract.Running.{tables}
use denote.Exit.{yes}
use denote.Laws.{Is, shows}
use denote.Param.NoDrop.{glues}
use denote.RawPtr.{Ptr, block_ptr}
use denote.Signature.{plain}
use denote.Steps.{nothing, peeks, heard}
use denote.Triple.Call.{calls_at_last}
use denote.Triple.Clauses.{Lasts, lasts}
use denote.Triple.Spec.{triple_of}
use denote.Triple.Walked.{Stays, stay_dropped, Goes-dropped, walk_of, says, ends_at}
use Rattle.core.proofs.alloc.Shapes.{after}
use Rattle.core.proofs.atomic.Steps.{fm}
use Rattle.std.proofs.raw_atomic.Walks.{proved}
use Rattle.std_alloc.specs.contracts.boxed.Box.from_raw as g
use Rattle.std_alloc.proofs.boxed.Box.from_raw.Met.{met}
use Rattle.std_heap.specs.contracts.GlobalAllocator.TheImpl.{ghosts, dict}
use Rattle.std_heap.proofs.GlobalAllocator.TheImpl.Met.{passed}
use Rattle.std_heap.proofs.Global.TheLaws as heap_laws
use Rattle.cookie_laws.specs.Contents.{Contents}
use Rattle.cookie_store_c.specs.StorePtrs.{holds}
use Rattle.cookie_store_c.proofs.StorePtrSteps.{word, value_of, lies, tokens, asks}
use Rattle.cookie_store_c.proofs.StoreBox.{Heap, StoreArg, HeapArg, Boxed, StoreLaws, HeapLaws, boxed_lawful, heap_drop}
use Rattle.cookie_store_c.specs.contracts.store_ptr.StorePtr.{the_row as StorePtr}
use Rattle.cookie_store_c.proofs.store_ptr.StorePtr.TheLaws as store_ptr
use Rattle.cookie_store_c.specs.contracts.store_ptr.StorePtr.into_box as f
use Rattle.cookie_store_c.proofs.store_ptr.StorePtr.into_box.Statement.{statement}
use Rattle.cookie_store_c.proofs.store_ptr.StorePtr.into_box.Code as code
use Rattle.cookie_store_c.proofs.Destruct++none.drop.Code as none

abbrev stayed : Stays f.ended.signature.params f.ended.kept
stayed = (stay_dropped (plain (λ _. StorePtr)) yes, (stay_dropped (plain (λ _. Heap)) yes, tt))

pub into_box_spec : {M : Type 1} → statement M
unfolding none.code
into_box_spec {M} 𝓤 𝓛 𝓜 𝓡 wired =
    let c = f.clauses 𝓛 𝓜.mem 𝓡.returns in let W = walk_of 𝓛 f.ended stayed c in let 𝓣 = tables 𝓤 𝓛.H 𝓜 𝓡 𝓡.env in
    let G = triple_of 𝓛 (g.signature StoreArg HeapArg ghosts dict heap_drop) (g.spec StoreArg HeapArg ghosts dict heap_drop 𝓛 𝓜.mem 𝓡.returns) in
    let Ended = g.ended StoreArg HeapArg ghosts dict heap_drop in
    let allocates = passed 𝓡.env (code.calls-std_heap::GlobalAllocator::allocate 𝓡.env wired) (code.calls-std_heap::GlobalAllocator::deallocate 𝓡.env wired)
    (code.calls-std_heap::GlobalAllocator::grow 𝓡.env wired) (code.calls-std_heap::GlobalAllocator::shrink 𝓡.env wired) M 𝓤 𝓛 𝓜 𝓡 in
    let drops = glues "cookie_store_c::Destruct++none::drop" 𝓡.env (code.calls-cookie_store_c::Destruct++none::drop 𝓡.env wired) HeapArg HeapLaws M 𝓤 𝓛 𝓜 𝓡 in
    let known = met 𝓤 𝓛 𝓜 𝓡 (code.calls-std_alloc::boxed::Box::from_raw 𝓡.env wired) StoreArg HeapArg StoreLaws HeapLaws ghosts dict heap_drop allocates drops in
    proved 𝓛 f.ended stayed c 𝓜 𝓡 (Goes-dropped 𝓛 0 (plain (λ _. StorePtr)) yes (λ κs x w. refl), (Goes-dropped 𝓛 0 (plain (λ _. Heap)) yes (λ κs x w. refl), tt))
    f.Key.name code.function (code.unfolded 𝓤 𝓛.H 𝓜 𝓡 wired)
    (λ κs. ((λ s. store_ptr.lowered s ∷ []), ((λ h. heap_laws.lowered h ∷ []), tt))) (λ κs. (store_ptr.lowers.val_is, (heap_laws.lowers.val_is, tt))) (λ κs qs bounds a _ are.
    let at = a.0.at in let kept = a.0.store in let alloc = a.1.0 in let h : Val = heap_laws.lowered alloc in
    let y : W.Ghost = ((κs, qs, bounds, a, (word at ∷ [], (h ∷ [], tt))), tt) in
    qed 𝓛 ((‵ ftrue ⊛ ‵ (fsep (StorePtr.own_val a.0 (word at ∷ [])) (fsep (Heap.own_val alloc (h ∷ [])) ftrue))) ∷ raw (fact 𝓤 (IsSome kept)) ∷ []) ∵
    move ! (1 ∷ []) $ heard ! (IsSome kept) (λ has. let x = (value_of kept has).0 in let is = (value_of kept has).1 in
    split ! $ drop ! $ fsplit3 ! $ fsplit ! $ drop ! $ rewrite ! 0 (λ (o : Option Contents). ‵ (holds at o)) is refl $ fpick ! (λ any. lies ! alloc at x (λ b o e.
    regoal ! (λ (p : Ptr). prop (WpFn 𝓤 𝓛.H 𝓣.C 𝓣.Λ code.function (word p ∷ h ∷ []) (W.post y))) e refl $
    enter ! _ _ _ _ _ $ alloc_all ! (λ l. pass_all ! refl ((tt, (tt, tt)), ((tt, ((tt, tt), tt)), tt)) $
    sets ! (of_opd ! (get_in ! (fld ! refl (stop !)) (sub ! 0 refl (whole !)))) refl (tt, tt) $ first ! $ blocks ! $
    sets ! (of_opd ! (get ! refl)) refl (tt, tt) $
    -- [the box without its handle; the handle; nothing]
    let z : G.Ghost = ((([], ([], tt)), (full_share, (full_share, tt)), tt, (alloc, (block_ptr b o, tt)), (h ∷ [], (vptr b o ∷ [], tt))), x) in
    move ! (2 ∷ []) $ feq_i ! (List Val) (vptr b o ∷ []) (vptr b o ∷ []) refl $ fjoin ! $ move ! (2 ∷ 0 ∷ []) $ fjoin ! $ asks ! $
    use1 𝓛 (raw (G.pre z)) (id⊢ 𝓤 _) $ calls_at_last ! (fm 𝓛 𝓜 𝓡) G known z (and_then ! (get ! refl) (and_then ! (get ! refl) (no_more !))) (λ u.
    use1 𝓛 (later (some (λ (r : Boxed.Denot). (tokens ⊛ ‵ (Boxed.own_val r (u ∷ []))) ⊛ some (λ (ws : Lasts Ended z.0.0 z.0.3).
    ‵ (lasts Ended z.0.0 z.0.3 ws) ⊛ (raw (fact 𝓤 (r.value ≡ x)) ⊛ raw (fact 𝓤 (r.alloc ≡ alloc))))))) (id⊢ 𝓤 (G.post z u)) $
    await ! tt $ pick ! (λ r. split ! $ split ! $ drop ! $ move ! (1 ∷ []) $ pick ! (λ ws. split3 ! $ drop ! $ heard ! (r.value ≡ x) (λ same. drop ! $
    -- [the box]
    peeks ! Boxed (Is Boxed) (shows 𝓛 Boxed) r (u ∷ []) (λ shown. let typed = ((boxed_lawful 𝓛).typed r (u ∷ []) shown).0 in
    lands_last ! refl typed $ exec ! 𝓣.C 𝓣.Λ (env code.function.locals l) (after 2 code.function.body) (at_ret _ (W.post y)) $ sets ! (of_opd ! (get ! refl)) refl typed $
    returns ! (look_at ! 0 refl) $ free_all ! refl $ suffices ! _ (ends_at 𝓛 f.ended stayed c y u r (tt, (tt, tt)) (tt, (tt, tt))) $ says ! (is ∙ ap Some (sym same)) $
    nothing ! $ nothing ! $ fjoin ! $ nothing ! $ fjoin ! $ join ! $ nothing ! $ join ! $ done !))))))))))
