-- The cookie-string as its first pair and those behind it.
use Rattle.std.proofs.Common.{◌≡◌, ℕ, suc, ◌+◌, ◌≤◌, ◌<◌, List, [], ◌∷◌, ◌++◌, ap, append-nil, arith, drop, flat_map, get_or, length, length-append, map, sym, take, ◌∙◌}
use Rattle.std.proofs.Math.Seq.{take-suc}
use Rattle.std.proofs.lemmas.Grind.{flat_map-append}
use Rattle.std.proofs.lemmas.List.{take-append-drop}
use Rattle.std.proofs.lemmas.List.Folds.{flat_map-map}
use Rattle.cookie_parts.specs.Cookie.{Row}
use Rattle.cookie_laws.specs.Header.{cookie_string, later_pair, pair_text}

-- the cookie-string of borrowed cookies
pub string_parts : {A : Type 0} (row : A → Row) (cookies : List A) (first : A) (others : List A) → cookies ≡ first ∷ others
    → cookie_string (map row cookies) ≡ pair_text (row first) ++ flat_map (λ c. later_pair (row c)) others
string_parts row cookies first others are =
    ap (λ cs. cookie_string (map row cs)) are ∙ ap (λ text. pair_text (row first) ++ text) (flat_map-map later_pair row others)

module _ {A : Type 0} (f : A → List ℕ) (items : List A) where
  -- the texts of the first items and of the others
  parts : (i : ℕ) → length (flat_map f items) ≡ length (flat_map f (take i items)) + length (flat_map f (drop i items))
  parts i =
      ap (λ all. length (flat_map f all)) (sym (take-append-drop i items))
      ∙ ap length (flat_map-append f (take i items) (drop i items))
      ∙ length-append (flat_map f (take i items)) (flat_map f (drop i items))

  -- the text of one more fits with all
  pub fits : (i n : ℕ) (d : A) → i < length items → n ≡ length (f (get_or items i d))
      → length (flat_map f (take i items)) + n ≤ length (flat_map f items)
  fits i n d small is =
      let next : i + 1 ≡ suc i = omega arith in
      let more = ap (λ k. flat_map f (take k items)) next ∙ ap (flat_map f) (take-suc items i d small)
      ∙ flat_map-append f (take i items) (get_or items i d ∷ []) in
      let long = ap length more ∙ length-append (flat_map f (take i items)) (f (get_or items i d) ++ [])
      ∙ ap (λ text. length (flat_map f (take i items)) + length text) (append-nil (f (get_or items i d))) in
      omega (arith, parts (i + 1), long, is)
