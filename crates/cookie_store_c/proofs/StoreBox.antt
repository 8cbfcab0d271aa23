-- A boxed store at the heap of C, under short names: its rows with their laws, and what a call of a generic function is passed.
use Rattle.std.proofs.Common.{[], ◌∷◌, refl}
use seplogic.Ra.Ura.{Ura}
use mir.Raw.{raw as bare}
use mir.Syntax.{Dict, impl, tnil, tcons, dnil}
use types.Logic.{Logic}
use denote.Exit.{no}
use denote.Laws.{Lawful}
use denote.Param.{arg, layout}
use denote.Param.Laws.{Laws, arg_laws}
use denote.RattleType.{RattleType}
use Rattle.std_alloc.specs.contracts.boxed.Box as box
use Rattle.std_alloc.proofs.boxed.Box.TheLaws as box_laws
use Rattle.std_heap.specs.contracts.Global as global
use Rattle.std_heap.proofs.Global.TheLaws as global_laws
use Rattle.std_heap.specs.contracts.GlobalAllocator.TheImpl.{ghosts}
use Rattle.cookie_core.specs.contracts.cookie_store.CookieStore as store
use Rattle.cookie_core.proofs.cookie_store.CookieStore.TheLaws as store_laws

abbrev pub Store : RattleType
Store = store.the_row

abbrev pub Heap : RattleType
Heap = global.the_row

abbrev pub Boxed : RattleType
Boxed = box.the_row Store Heap ghosts

abbrev pub boxed_lawful : {M : Type 1} {𝓤 : Ura M} (𝓛 : Logic 𝓤) → Lawful 𝓛 Boxed
boxed_lawful 𝓛 = (box_laws.the_field_loose Store Heap ghosts store_laws.the_row_laws global_laws.the_row_laws).lawful 𝓛

-- the two as type arguments
abbrev pub StoreArg : RattleType
StoreArg = arg (bare (layout Store)) no Store

abbrev pub HeapArg : RattleType
HeapArg = arg (bare (layout Heap)) no Heap

abbrev pub StoreLaws : Laws StoreArg
StoreLaws = arg_laws (bare (layout Store)) no Store store_laws.the_row_laws refl

abbrev pub HeapLaws : Laws HeapArg
HeapLaws = arg_laws (bare (layout Heap)) no Heap global_laws.the_row_laws refl

-- how the two are dropped: the heap needs no drop
abbrev pub store_drop : Dict
store_drop = impl ("cookie_store_c::cookie_core++cookie_store++CookieStore+Destruct::drop" ∷ []) tnil dnil

abbrev pub heap_drop : Dict
heap_drop = impl ("cookie_store_c::Destruct++none::drop" ∷ []) (tcons (layout HeapArg) tnil) dnil
