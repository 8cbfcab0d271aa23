-- Combining the effects of successive calls that put strings into an `Output`.
use Rattle.std.proofs.Common.{◌≡◌, ℕ, ◌+◌, ◌<◌, ◌≤◌, List, [], ◌∷◌, ◌++◌, Option, Bor, arith, drop, get_or, length, length-append, refl, suc, sym, ap, take, ◌∙◌, append_assoc, append-nil}
use Rattle.std.proofs.Math.Seq.{take-suc}
use Rattle.std.proofs.lemmas.List.{take-append-drop}
use Rattle.std.proofs.lemmas.Grind.{flat_map-append}
use Rattle.std.proofs.KnownBytes.{Appends-trans, Appends-nil}
use Rattle.cookie_device.specs.Device.{AppendsPrefix, Sends}
use Rattle.cookie_device.specs.Joined.{joined}

-- the bytes written and those left, of two strings in a row
rejoined : (g t u sent more g1 g2 : List ℕ) → g ++ t ≡ sent ++ g1 → g1 ++ u ≡ more ++ g2 → g ++ (t ++ u) ≡ (sent ++ more) ++ g2
rejoined g t u sent more g1 g2 e f =
    sym (append_assoc g t u) ∙ ap (λ xs. xs ++ u) e ∙ append_assoc sent g1 u ∙ ap (λ xs. sent ++ xs) f
    ∙ sym (append_assoc sent more g2)

-- nothing was put
pub nothing_put : (a : Option (List ℕ)) (g : List ℕ) → Sends a a (g ++ []) g
nothing_put a g = record { sent = []; split = append-nil g; appended = Appends-nil a }

-- one string was put, and then another
pub put_then : (a b c : Option (List ℕ)) (g t u g1 g2 : List ℕ) → Sends a b (g ++ t) g1 → Sends b c (g1 ++ u) g2
    → Sends a c (g ++ (t ++ u)) g2
put_then a b c g t u g1 g2 first next = record {
  sent = first.sent ++ next.sent;
  split = rejoined g t u first.sent next.sent g1 g2 first.split next.split;
  appended = Appends-trans a b c first.sent next.sent first.appended next.appended;
}

-- a prefix of a string is a prefix of a longer one
pub part_longer : (a b : Option (List ℕ)) (g t u : List ℕ) → AppendsPrefix a b (g ++ t) → AppendsPrefix a b (g ++ (t ++ u))
part_longer a b g t u part = record {
  rest = part.rest ++ u;
  sends = record {
    sent = part.sends.sent;
    split = sym (append_assoc g t u) ∙ ap (λ xs. xs ++ u) part.sends.split ∙ append_assoc part.sends.sent part.rest u;
    appended = part.sends.appended;
  };
}

-- one string was put, and then a prefix of the next was written
pub part_then : (a b c : Option (List ℕ)) (g t u g1 : List ℕ) → Sends a b (g ++ t) g1 → AppendsPrefix b c (g1 ++ u)
    → AppendsPrefix a c (g ++ (t ++ u))
part_then a b c g t u g1 first part =
    record { rest = part.rest; sends = put_then a b c g t u g1 part.rest first part.sends }

-- the empty string is a prefix of each string
pub nothing_part : (a : Option (List ℕ)) (t : List ℕ) → AppendsPrefix a a t
nothing_part a t = record { rest = t; sends = record { sent = []; split = refl; appended = Appends-nil a } }

-- all of a string but the rest was written, and then a prefix of the rest
pub part_of_rest : (a b c : Option (List ℕ)) (t g : List ℕ) → Sends a b t g → AppendsPrefix b c g → AppendsPrefix a c t
part_of_rest a b c t g sends part = record {
  rest = part.rest;
  sends = record {
    sent = sends.sent ++ part.sends.sent;
    split = sends.split ∙ ap (λ xs. sends.sent ++ xs) part.sends.split ∙ sym (append_assoc sends.sent part.sends.sent part.rest);
    appended = Appends-trans a b c sends.sent part.sends.sent sends.appended part.sends.appended;
  };
}

-- the first strings and the next one
pub joined_next : (texts : List (Bor (List ℕ))) (i : ℕ) (d : Bor (List ℕ)) (text : List ℕ) → i < length texts
    → text ≡ (get_or texts i d).now → joined (take (i + 1) texts) ≡ joined (take i texts) ++ text
joined_next texts i d text small is =
    let next : i + 1 ≡ suc i = omega arith in
    ap (λ n. joined (take n texts)) next ∙ ap joined (take-suc texts i d small)
    ∙ flat_map-append (λ t. t.now) (take i texts) (get_or texts i d ∷ [])
    ∙ ap (λ last. joined (take i texts) ++ last) (append-nil (get_or texts i d).now ∙ sym is)

-- the first strings and the others
pub joined_parts : (texts : List (Bor (List ℕ))) (i : ℕ) → joined (take i texts) ++ joined (drop i texts) ≡ joined texts
joined_parts texts i =
    sym (flat_map-append (λ t. t.now) (take i texts) (drop i texts)) ∙ ap joined (take-append-drop i texts)

-- if all strings fit into the buffer, the next one fits after the first ones and is appended to them
pub next_gathered : (texts : List (Bor (List ℕ))) (i : ℕ) (d : Bor (List ℕ)) (text g h : List ℕ) (most : ℕ) → i < length texts
    → text ≡ (get_or texts i d).now → length g + length (joined texts) ≤ most → h ≡ g ++ joined (take i texts)
    → (length h + length text ≤ most) × (h ++ text ≡ g ++ joined (take (i + 1) texts))
next_gathered texts i d text g h most small is fits so_far =
    let first = joined (take i texts) in
    let next = joined_next texts i d text small is in
    let parts : (first ++ text) ++ joined (drop (i + 1) texts) ≡ joined texts
    = ap (λ xs. xs ++ joined (drop (i + 1) texts)) (sym next) ∙ joined_parts texts (i + 1) in
    let others = joined (drop (i + 1) texts) in (
      omega (arith, fits, ap length parts, ap length so_far, length-append g first, length-append (first ++ text) others, length-append first text),
      ap (λ xs. xs ++ text) so_far ∙ append_assoc g first text ∙ ap (λ xs. g ++ xs) (sym next),
    )
