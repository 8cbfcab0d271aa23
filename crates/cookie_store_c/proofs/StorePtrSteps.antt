-- A store pointer's word, and the steps that the walks of its functions share.
use Rattle.std.proofs.Common.{◌≡◌, ℕ, List, [], ◌∷◌, refl, sym, Option, Some, None, IsSome, true≢false}
use seplogic.Ra.Ura.{Ura}
use mir.Raw.{raw as bare}
use mir.Val.{Val, vstruct, vcons, vnil}
use base.Fml.{Fml, ftrue, flft}
use base.Fraction.{full_share}
use base.Logic.{emp, never, fst∗}
use types.Logic.{Logic, sem}
use types.Kit.{Item, Goal, Seq, Step, step, ‵, raw, ◌⊛◌, ◌$◌, move, join, fjoin, fpack, feq_i, use0}
use contract.BorrowLft.{◌⊑◌}
use contract.Monad.{fact, fact_i}
use denote.RattleType.{Valss}
use denote.Builtin.{RawPtr}
use denote.Memory.{lone}
use denote.RawPtr.{Ptr, block_ptr, null_ptr, ptr_val, in_a_block}
use denote.Steps.{nothing}
use denote.Struct.Owning.{shape}
use denote.Struct.Struct.{within}
use Rattle.std_heap.specs.contracts.GlobalAllocator.TheImpl.{ghosts}
use Rattle.std_heap.specs.declared.Global.{Global}
use Rattle.std_heap.proofs.Global.TheLaws as heap_laws
use Rattle.cookie_laws.specs.Contents.{Contents}
use Rattle.cookie_core.proofs.cookie_store.CookieStore.TheLaws as store_laws
use Rattle.cookie_store_c.specs.StorePtrs.{boxed, holds}
use Rattle.cookie_store_c.specs.contracts.store_ptr.StorePtr.{the_row, the_type}
use Rattle.cookie_store_c.proofs.StoreBox.{Store, Heap}

-- the store pointer of a pointer, as the machine has it
abbrev pub word : Ptr → Val
word at = vstruct (vcons (ptr_val at) vnil)

-- the value of an option that has one
pub value_of : {X : Type 0} (option : Option X) → IsSome option → (x : X) × (option ≡ Some x)
value_of (Some x) has = (x, refl)
value_of None has = absurd (true≢false (sym has))

-- the tokens of two type parameters that name no lifetime
abbrev pub tokens : {M : Type 1} {𝓤 : Ura M} → Item 𝓤
tokens = ‵ (flft [] full_share) ⊛ ‵ (flft [] full_share) ⊛ ‵ ftrue

module _ {K : Type 0} {M : Type 1} {𝓤 : Ura M} {𝓛 : Logic 𝓤} {G : Goal 𝓤 𝓛.H} {Γ : List (Item 𝓤)} where
  -- what lies at the pointer becomes a store pointer
  pub store_ptr_in : K → (at : Ptr) (store : Option Contents)
      → Step K 𝓛 (‵ (the_row.own_val (record { at = at; store = store }) (word at ∷ [])) ∷ Γ) G (‵ (holds at store) ∷ Γ) G
  store_ptr_in t at store = step (λ rest.
      nothing t $ feq_i t (List Val) (ptr_val at ∷ []) (ptr_val at ∷ []) refl $ fjoin t $
      feq_i t (List Val) (word at ∷ []) (word at ∷ []) refl $ fjoin t $
      fpack t (Valss (RawPtr ∷ [])) (within (shape the_type) (at, tt) (word at ∷ [])) (ptr_val at ∷ [], tt) $ fjoin t $ rest)

  -- no box lies at null
  pub lies : K → (alloc : Global) (at : Ptr) (store : Contents)
      → ((b o : ℕ) → at ≡ block_ptr b o → Seq K 𝓛 (‵ (boxed alloc (block_ptr b o) store) ∷ Γ) G) → Seq K 𝓛 (‵ (boxed alloc at store) ∷ Γ) G
  lies t alloc at store =
      in_a_block t at (λ p. boxed alloc p store) (fst∗ 𝓤 (never 𝓤) (sem 𝓛 (ghosts.dealloc_token alloc (bare (lone Store.mir)) null_ptr)))

  -- arguments, and the preconditions of a call with its two type parameters, a store and the heap
  pub asks : K → {args : Fml} {inputs : Item 𝓤}
      → Step K 𝓛 (((tokens ⊛ ‵ args) ⊛ raw (fact 𝓤 ([] ⊑ Store.lives)) ⊛ raw (fact 𝓤 ([] ⊑ Heap.lives)) ⊛ inputs) ∷ Γ) G (‵ args ∷ inputs ∷ Γ) G
  asks t = step (λ rest.
      move t (1 ∷ []) $ use0 𝓛 (raw (fact 𝓤 ([] ⊑ Heap.lives))) (fact_i 𝓤 ([] ⊑ Heap.lives) (emp 𝓤) (heap_laws.the_within [])) $ join t $
      use0 𝓛 (raw (fact 𝓤 ([] ⊑ Store.lives))) (fact_i 𝓤 ([] ⊑ Store.lives) (emp 𝓤) (store_laws.the_within [])) $ join t $
      move t (1 ∷ []) $ nothing t $ use0 𝓛 (‵ (flft [] full_share)) (𝓛.lfts.lft-nil full_share) $ join t $
      use0 𝓛 (‵ (flft [] full_share)) (𝓛.lfts.lft-nil full_share) $ join t $ join t $ join t $ rest)
