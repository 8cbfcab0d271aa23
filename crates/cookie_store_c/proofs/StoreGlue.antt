-- A store can be dropped: its drop meets what the `Drop` of a type parameter requires.
use Rattle.std.proofs.Common.{[], ◌∷◌, refl}
use seplogic.Ra.Ura.{Ura}
use mir.Syntax.{Callee, method, no_args}
use base.Logic.{emp, sep, via, emp∗, comm∗}
use base.Fml.{ftrue, fsep}
use types.Logic.{Logic, sem}
use types.Kit.{raw, ◌$◌, ◌∵◌, !, qed, move, keep, fjoin, show, done}
use contract.BorrowLft.{◌⊑◌}
use contract.Monad.{fact}
use contract.Running.{Running}
use prog.Model.{Model}
use prog.Wired.{Wired}
use denote.Steps.{nothing}
use denote.Param.Glue.{Met, signature, spent}
use denote.Triple.Carry.{beside, spared}
use denote.Triple.Spec.{Spec, triple_of}
use denote.Triple.Table.{run_framed, widened}
use Rattle.cookie_store_c.proofs.StoreBox.{Store, StoreArg, store_drop}
use Rattle.cookie_store_c.proofs.cookie_core++cookie_store++CookieStore+Destruct.drop.Symbol as drop
use Rattle.cookie_store_c.proofs.cookie_core++cookie_store++CookieStore+Destruct.drop.Met.{met}
use Rattle.cookie_store_c.specs.contracts.cookie_core++cookie_store++CookieStore+Destruct.drop as f

pub store_glue : {M : Type 1} (𝓤 : Ura M) (𝓛 : Logic 𝓤) (𝓜 : Model 𝓤 𝓛.H) (𝓡 : Running 𝓤 𝓛.H 𝓜) → Wired 𝓡.env drop.code
    → Met 𝓛 𝓜 𝓡 𝓡.env StoreArg store_drop
store_glue 𝓤 𝓛 𝓜 𝓡 wired =
    let key : Callee = method store_drop 0 no_args in let run = 𝓡.run (𝓡.env key) in let framed = run_framed 𝓤 𝓛.H 𝓜 𝓡 (𝓡.env key) in
    let own = f.spec 𝓛 𝓜.mem 𝓡.returns in
    let called = widened 𝓤 𝓛.H (triple_of 𝓛 f.signature own) 𝓜 𝓡 𝓡.env (𝓡.env drop.name) (𝓡.env key) (drop.as_method 𝓡.env wired key refl) (met 𝓤 𝓛 𝓜 𝓡 wired) in
    let said : Spec 𝓤 (signature StoreArg) = λ κs a.
    record { ghost = Unit {0}; requires = λ _. sep 𝓤 (fact 𝓤 (κs.0 ⊑ StoreArg.lives)) (emp 𝓤); ensures = λ g. (own tt a).ensures g } in
    beside 𝓛 (signature StoreArg) run framed said (spent 𝓛 StoreArg) (λ κs a g. g) (λ κs a g. emp 𝓤)
    (λ κs a g. let inputs = (said κs a).requires g in via 𝓤 (sep 𝓤 (emp 𝓤) inputs) (emp∗ 𝓤 inputs) (comm∗ 𝓤 (emp 𝓤) inputs))
    (λ κs a g r. qed 𝓛 (raw ((said κs a).ensures g r) ∷ raw (emp 𝓤) ∷ []) ∵ keep ! [] $
    show ! (λ (last : Unit {0} × Unit {0}). sep 𝓤 (sem 𝓛 (fsep ftrue ftrue)) (emp 𝓤)) (tt, tt) $ nothing ! $ nothing ! $ fjoin ! $ nothing ! $ move ! (1 ∷ 0 ∷ []) $ done !)
    (spared 𝓛 f.signature run framed 1 (Store.lives, tt) own called)
