-- What a store pointer owns means the same in every thread, as a boxed store does.
use mir.Raw.{raw as bare}
use base.Shift.{Keyless}
use denote.Memory.{lone}
use denote.RawPtr.{Ptr}
use denote.Param.Send.{IsSend, sendable}
use Rattle.std.specs.Prelude.{Option, Some, None}
use Rattle.std.proofs.Crossing as boxes
use Rattle.std.proofs.MapsCrossing as maps
use Rattle.std_alloc.proofs.SendSync.{lies}
use Rattle.cookie_laws.specs.Contents.{Contents}
use Rattle.cookie_psl.proofs.tree.Node.TheLaws.TheKnot as tree
use Rattle.cookie_core.proofs.secure.SecureIndex.TheSendSync as index
use Rattle.cookie_rows.proofs.rows.Rows.TheSendSync as rows
use Rattle.cookie_store_c.specs.StorePtrs.{holds}
use Rattle.cookie_store_c.specs.contracts.store_ptr.StorePtr.{the_row}
use Rattle.cookie_store_c.proofs.StoreBox.{Store}

store_send : IsSend Store
store_send = search (maps.crosses, boxes.crosses, tree.crosses, rows.the_send, index.the_send, sendable) depth 60 fits 20000

holds_keyless : (at : Ptr) (store : Option Contents) → Keyless (holds at store)
holds_keyless at None = tt
holds_keyless at (Some x) = λ alloc. (lies Store store_send at x, boxes.frees.frees alloc (bare (lone Store.mir)) at)

pub send : IsSend the_row
send = record { owned = λ s vs. ((λ vss. (tt, (tt, tt))), holds_keyless s.at s.store); leaving = λ k s w. tt }
