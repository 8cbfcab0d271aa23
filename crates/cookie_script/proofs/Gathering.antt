-- How strings are buffered, one after the other.
use Rattle.std.proofs.Common.{◌≡◌, ◌≤◌, ◌<◌, ℕ, ◌+◌, List, [], ◌∷◌, ◌++◌, Bor, Result, Ok, Err, ap, append_assoc, append-nil, arith, codes, drop, flat_map, get_or, length, length-append, map, refl, suc, sym, take, ◌∙◌}
use Rattle.std.proofs.Math.Seq.{take-suc}
use Rattle.std.proofs.lemmas.Bool.{false≢true}
use Rattle.std.proofs.lemmas.Grind.{flat_map-append}
use Rattle.std.proofs.lemmas.List.{map-append, take-append-drop}
use Rattle.std.proofs.lemmas.List.Folds.{flat_map-map}
use Rattle.std.specs.Result.{IsErr}
use Rattle.cookie_device.specs.Device.{SinkState}
use Rattle.cookie_device.proofs.Sending.{nothing_part, nothing_put, part_longer, part_then, put_then}
use Rattle.cookie_parts.specs.Cookie.{Row}
use Rattle.cookie_store.specs.Header.{later_pair, pair_text}
use Rattle.cookie_script.specs.LineOutput.{Gathers}
use Rattle.cookie_script.specs.Script.{header_text, line_text, row_line, rows_text}

-- nothing was buffered
pub gathers_nothing : {E : Type 0} (a : SinkState) (g : List ℕ) → Gathers {T = Unit {0}} {E = E} (Ok tt) a a g g []
gathers_nothing a g = record {
  whole = nothing_put a.contents g;
  part = nothing_part a.contents (g ++ []);
  buffered = λ fits. (refl, sym (append-nil g));
  count = refl;
}

-- if both strings fit, the first one fits, and the second one after it
both_fit : (most : ℕ) (g t u : List ℕ) → length g + length (t ++ u) ≤ most
    → (length g + length t ≤ most) × ((h : List ℕ) → h ≡ g ++ t → length h + length u ≤ most)
both_fit most g t u fits = (
  omega (arith, fits, length-append t u),
  λ h is. omega (arith, fits, length-append t u, length-append g t, ap length is),
)

-- one string was buffered, and then another
pub gathers_then : {T U E : Type 0} (r : Result U E) (ok : T) {a b c : SinkState} {g h k : List ℕ} (t u : List ℕ)
    → Gathers {T = T} {E = E} (Ok ok) a b g h t → Gathers r b c h k u → Gathers r a c g k (t ++ u)
gathers_then (Ok done) ok {a} {b} {c} {g} {h} {k} t u first next = record {
  whole = put_then a.contents b.contents c.contents g t u h k first.whole next.whole;
  part = part_then a.contents b.contents c.contents g t u h first.whole next.part;
  buffered = λ fits.
      let both = both_fit 65_536 g t u fits in
      let one = (first.buffered both.0).1 in
      (refl, (next.buffered (both.1 h one)).1 ∙ ap (λ xs. xs ++ u) one ∙ append_assoc g t u);
  count = next.count ∙ first.count;
}
gathers_then (Err fault) ok {a} {b} {c} {g} {h} {k} t u first next = record {
  whole = tt;
  part = part_then a.contents b.contents c.contents g t u h first.whole next.part;
  buffered = λ fits.
      let both = both_fit 65_536 g t u fits in
      absurd (false≢true (next.buffered (both.1 h (first.buffered both.0).1)).0);
  count = next.count ∙ ap (λ n. n + 1) first.count;
}

-- a write failed, before one more string
pub gathers_stopped : {T U E : Type 0} (r : Result U E) (fault : E) {a b : SinkState} {g h : List ℕ} (t u : List ℕ)
    → IsErr r → Gathers {T = T} {E = E} (Err fault) a b g h t → Gathers r a b g h (t ++ u)
gathers_stopped (Ok done) fault t u is first = absurd (false≢true is)
gathers_stopped (Err error) fault {a} {b} {g} t u is first =
    record {
      whole = tt;
      part = part_longer a.contents b.contents g t u first.part;
      buffered = λ fits. absurd (false≢true (first.buffered (both_fit 65_536 g t u fits).0).0);
      count = first.count;
    }

module _ {A : Type 0} (f : A → List ℕ) (items : List A) where
  -- the strings of the first items and of the next one
  pub next_text : (i : ℕ) (d item : A) → i < length items → item ≡ get_or items i d
      → flat_map f (take (i + 1) items) ≡ flat_map f (take i items) ++ f item
  next_text i d item small is =
      let next : i + 1 ≡ suc i = omega arith in
      ap (λ n. flat_map f (take n items)) next ∙ ap (flat_map f) (take-suc items i d small)
      ∙ flat_map-append f (take i items) (get_or items i d ∷ [])
      ∙ ap (λ last. flat_map f (take i items) ++ last) (append-nil (f (get_or items i d)) ∙ ap f (sym is))

  -- the strings of the first items, those of the others, and a string after them
  pub parts_text : (i : ℕ) (behind : List ℕ) → flat_map f (take i items) ++ (flat_map f (drop i items) ++ behind) ≡ flat_map f items ++ behind
  parts_text i behind =
      sym (append_assoc (flat_map f (take i items)) (flat_map f (drop i items)) behind)
      ∙ ap (λ all. all ++ behind) (sym (flat_map-append f (take i items) (drop i items)) ∙ ap (flat_map f) (take-append-drop i items))

-- a header of cookies: the first one, and the others
pub header_parts : {A : Type 0} (row : A → Row) (cookies : List A) (first : A) (others : List A) → cookies ≡ first ∷ others
    → line_text (header_text (map row cookies))
    ≡ (codes "Cookie: " ++ pair_text (row first)) ++ line_text (flat_map (λ c. later_pair (row c)) others)
header_parts row cookies first others are =
    let before = codes "Cookie: " ++ pair_text (row first) in
    ap (λ cs. line_text (header_text (map row cs))) are
    ∙ append_assoc before (flat_map later_pair (map row others)) (10 ∷ [])
    ∙ ap (λ text. before ++ line_text text) (flat_map-map later_pair row others)

module _ (seen : List (Bor Row)) (row : Bor Row) where
  -- the rows so far, and one more
  rows_more : map (λ c. c.now) (seen ++ row ∷ []) ≡ map (λ c. c.now) seen ++ row.now ∷ []
  rows_more = map-append (λ c. c.now) seen (row ∷ [])

  -- the lines of the rows so far, and of one more
  pub next_row : rows_text (map (λ c. c.now) (seen ++ row ∷ [])) ≡ rows_text (map (λ c. c.now) seen) ++ row_line row.now
  next_row =
      ap rows_text rows_more ∙ flat_map-append row_line (map (λ c. c.now) seen) (row.now ∷ [])
      ∙ ap (λ last. rows_text (map (λ c. c.now) seen) ++ last) (append-nil (row_line row.now))

  module _ (left after rows : List Row) (steps : left ≡ row.now ∷ after) (rest : map (λ c. c.now) seen ++ left ≡ rows) where
    -- the rows so far, one more, and the remaining ones
    pub rows_passed : map (λ c. c.now) (seen ++ row ∷ []) ++ after ≡ rows
    rows_passed =
        ap (λ xs. xs ++ after) rows_more ∙ append_assoc (map (λ c. c.now) seen) (row.now ∷ []) after
        ∙ ap (λ xs. map (λ c. c.now) seen ++ xs) (sym steps) ∙ rest

    -- their lines
    pub rows_parts : (rows_text (map (λ c. c.now) seen) ++ row_line row.now) ++ rows_text after ≡ rows_text rows
    rows_parts =
        ap (λ text. text ++ rows_text after) (sym next_row)
        ∙ sym (flat_map-append row_line (map (λ c. c.now) (seen ++ row ∷ [])) after) ∙ ap rows_text rows_passed
