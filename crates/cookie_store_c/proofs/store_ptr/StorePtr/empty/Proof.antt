-- `empty` makes a store pointer of the null pointer, which owns nothing.
use Rattle.std.proofs.Common.{[], ◌∷◌, refl, lit<, None}
use Rattle.std.proofs.raw_atomic.Walks.{proved}
use base.Fml.{ftrue}
use types.Kit.{‵, raw, ◌$◌, ◌∵◌, !, qed, drop, join, suffices, done}
use types.Run.{enter, lit, no_more, and_then, returns}
use types.ByLocal.{alloc_all, pass_all, free_all, look_at, sets}
use types.Part.{agg}
use denote.RawPtr.{null_ptr}
use denote.Steps.{nothing}
use denote.Triple.Entry.{on_entry}
use denote.Triple.Walked.{walk_of, says, ends_at}
use Rattle.cookie_store_c.proofs.StorePtrSteps.{word, store_ptr_in}
use Rattle.cookie_store_c.specs.contracts.store_ptr.StorePtr.empty as f
use Rattle.cookie_store_c.proofs.store_ptr.StorePtr.empty.Statement.{statement}
use Rattle.cookie_store_c.proofs.store_ptr.StorePtr.empty.Code as code

pub empty_spec : {M : Type 1} → statement M
empty_spec 𝓤 𝓛 𝓜 𝓡 wired =
    let c = f.clauses 𝓛 𝓜.mem 𝓡.returns in let W = walk_of 𝓛 f.ended tt c in
    proved 𝓛 f.ended tt c 𝓜 𝓡 tt f.Key.name code.function (code.unfolded 𝓤 𝓛.H 𝓜 𝓡 wired)
    (λ κs. tt) (λ κs. tt) (λ κs qs bounds a _ are.
    let y : W.Ghost = ((κs, qs, bounds, a, tt), tt) in
    qed 𝓛 (raw (on_entry 𝓛 f.signature κs qs a tt) ∷ ‵ ftrue ∷ []) ∵ drop ! $ drop ! $
    enter ! _ _ _ _ _ $ alloc_all ! (λ l. pass_all ! refl tt $ sets ! (agg ! (and_then ! (lit ! tt) (no_more !))) refl (tt, (record { fits = lit< tt }, tt)) $
    -- [nothing]
    returns ! (look_at ! 0 refl) $ free_all ! refl $ nothing ! $ store_ptr_in ! null_ptr None $
    suffices ! _ (ends_at 𝓛 f.ended tt c y (word null_ptr) (record { at = null_ptr; store = None }) tt tt) $ says ! refl $
    nothing ! $ join ! $ nothing ! $ join ! $ done !))
