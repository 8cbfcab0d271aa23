-- Buffers that are filled from the front.
use Rattle.std.proofs.Common.{◌≡◌, ℕ, suc, ◌+◌, ◌≤◌, ◌<◌, List, [], ◌∷◌, ◌++◌, ap, append_assoc, append-nil, arith, drop, flat_map, get_or, length, length-append, map, set, refl, subst, sym, take, ◌∙◌}
use Rattle.std.proofs.Math.Seq.{set-append_seam, take-suc}
use Rattle.std.proofs.lemmas.Grind.{flat_map-append}
use Rattle.std.proofs.lemmas.List.{drop_more, length-map, map-append, take-append-drop}
use Rattle.cookie_store_c.specs.Buffers.{IsFilledTo, at_start}

module _ {A : Type 0} (f : A → List ℕ) (items : List A) where
  -- the strings of the first items and of one more
  pub next_text : (i : ℕ) (d : A) (text : List ℕ) → i < length items → text ≡ f (get_or items i d)
      → flat_map f (take (i + 1) items) ≡ flat_map f (take i items) ++ text
  next_text i d text small is =
      let next : i + 1 ≡ suc i = omega arith in
      ap (λ n. flat_map f (take n items)) next ∙ ap (flat_map f) (take-suc items i d small)
      ∙ flat_map-append f (take i items) (get_or items i d ∷ [])
      ∙ ap (λ last. flat_map f (take i items) ++ last) (append-nil (f (get_or items i d)) ∙ sym is)

  -- the strings of the first items and of the others
  parts : (i : ℕ) → length (flat_map f items) ≡ length (flat_map f (take i items)) + length (flat_map f (drop i items))
  parts i =
      ap (λ all. length (flat_map f all)) (sym (take-append-drop i items))
      ∙ ap length (flat_map-append f (take i items) (drop i items))
      ∙ length-append (flat_map f (take i items)) (flat_map f (drop i items))

  -- if all strings fit, so does the next one
  pub fits : (i n : ℕ) (d : A) → i < length items → n ≡ length (f (get_or items i d))
      → length (flat_map f (take i items)) + n ≤ length (flat_map f items)
  fits i n d small is =
      let next = ap length (next_text i d (f (get_or items i d)) small refl)
      ∙ length-append (flat_map f (take i items)) (f (get_or items i d)) in
      omega (arith, parts (i + 1), next, is)

-- a prefix that grew twice
pub stands_more : (prefix a b both before buffer : List ℕ) (place : ℕ) → both ≡ a ++ b → IsFilledTo ((prefix ++ a) ++ b) before buffer place
    → IsFilledTo (prefix ++ both) before buffer place
stands_more prefix a b both before buffer place e h =
    subst (λ text. IsFilledTo text before buffer place) (append_assoc prefix a b ∙ ap (λ text. prefix ++ text) (sym e)) h

-- a prefix that grew by an item
pub filled_more : {T : Type 0} (prefix before : List T) (item : T) → length prefix < length before
    → set (at_start prefix before) (length prefix) item ≡ at_start (prefix ++ item ∷ []) before
filled_more prefix before item small =
    let n : length (prefix ++ item ∷ []) ≡ length prefix + 1 = length-append prefix (item ∷ []) in
    ap (λ rest. set (prefix ++ rest) (length prefix) item) (drop_more before (length prefix) item small)
    ∙ set-append_seam prefix (get_or before (length prefix) item) (drop (length prefix + 1) before) item
    ∙ sym (append_assoc prefix (item ∷ []) (drop (length (prefix ++ item ∷ [])) before)
    ∙ ap (λ k. prefix ++ item ∷ drop k before) n)

-- the rows of the first items and of one more
pub filled_next : {A T : Type 0} (tell : A → T) (seen : List A) (item : A) (before buffer : List T) (place : ℕ) (reported : T)
    → buffer ≡ at_start (map tell seen) before → place ≡ length seen → length seen < length before → reported ≡ tell item
    → set buffer place reported ≡ at_start (map tell (seen ++ item ∷ [])) before
filled_next tell seen item before buffer place reported filled at small is =
    let prefix = map tell seen in
    let as_many : length prefix ≡ length seen = length-map seen tell in
    ap (λ xs. set xs place reported) filled ∙ ap (λ n. set (at_start prefix before) n reported) (at ∙ sym as_many)
    ∙ ap (set (at_start prefix before) (length prefix)) is ∙ filled_more prefix before (tell item) (omega (arith, as_many, small))
    ∙ ap (λ xs. at_start xs before) (sym (map-append tell seen (item ∷ [])))
