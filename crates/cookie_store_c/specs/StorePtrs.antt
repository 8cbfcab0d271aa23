-- What a store pointer owns.
use base.Fml.{Fml, fex, ftrue}
use denote.RawPtr.{Ptr}
use Rattle.std.specs.Prelude.{None, Option, Some}
use Rattle.std.specs.Box.Ownership.{box_owns}
use Rattle.std.specs.contracts.impls.GlobalAllocator.TheImpl.{ghosts}
use Rattle.std.specs.declared.alloc.Global.{Global}
use Rattle.cookie_laws.specs.Contents.{Contents}
use Rattle.cookie_core.specs.contracts.cookie_store.CookieStore.{the_row}

-- the box of a store lies at this address, without its handle to the heap
abbrev pub boxed : Global → Ptr → Contents → Fml
boxed alloc at store = box_owns (ghosts.dealloc_token alloc) the_row at store

-- the store pointer owns the box of its store, allocated by some handle to the heap; without a store it owns nothing
abbrev pub holds : Ptr → Option Contents → Fml
holds at None = ftrue
holds at (Some store) = fex Global (λ alloc. boxed alloc at store)
