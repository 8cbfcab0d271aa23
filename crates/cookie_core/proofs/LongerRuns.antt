-- A run with more calls.
use Rattle.std.proofs.Common.{◌≡◌, ap, refl, List, [], ◌∷◌, ◌++◌}
use Rattle.cookie_laws.specs.Contents.{Contents}
use Rattle.cookie_laws.specs.Runs.{Call, replies, step, store_after}

-- the store after calls and more of them
pub store_after-append : (calls more : List Call) (store : Contents) → store_after (calls ++ more) store ≡ store_after more (store_after calls store)
store_after-append [] more store = refl
store_after-append (first ∷ calls) more store = store_after-append calls more (step first store).store

-- their replies
pub replies-append : (calls more : List Call) (store : Contents)
    → replies (calls ++ more) store ≡ replies calls store ++ replies more (store_after calls store)
replies-append [] more store = refl
replies-append (first ∷ calls) more store =
    ap (λ reported. (step first store).reply ∷ reported) (replies-append calls more (step first store).store)

-- the store after one more call
pub store_after_more : (calls : List Call) (call : Call) (store : Contents)
    → store_after (calls ++ call ∷ []) store ≡ (step call (store_after calls store)).store
store_after_more calls call store = store_after-append calls (call ∷ []) store

-- and the replies
pub replies_more : (calls : List Call) (call : Call) (store : Contents)
    → replies (calls ++ call ∷ []) store ≡ replies calls store ++ (step call (store_after calls store)).reply ∷ []
replies_more calls call store = replies-append calls (call ∷ []) store
