-- The lines of rows, and of one row more.
use Rattle.std.proofs.Common.{◌≡◌, ℕ, ◌+◌, Bool, true, false, List, [], ◌∷◌, ◌++◌, Option, Result, Ok, Err, ◌⊎◌, inl, inr, refl, ap, subst, ◌∙◌, append-nil, arith}
use Rattle.std.specs.List.{filter}
use Rattle.std.specs.declared.alloc.Global.{Global}
use Rattle.std.specs.declared.string.String.{String}
use Rattle.std.specs.Io.KnownBytes.{Appends, Keeps}
use Rattle.std.proofs.KnownBytes.{Appends-nil, Appends-trans, Appends-kept}
use Rattle.std.proofs.lemmas.List.{flat_map_more}
use Rattle.std.proofs.lemmas.List.Elements.{filter-append}
use Rattle.cookie_parts.specs.Cookie.{Row}
use Rattle.cookie_parts.specs.declared.error.Error.{Error}
use Rattle.cookie_parts.specs.declared.error.Error.TheVariants.{Io}
use Rattle.cookie_serde.specs.Saving.{line_text, lines_text, BeginsRow, StopsAtRow, StopsWithinRow, WritesRow, WritesRows}
use Rattle.cookie_serde.proofs.Pairs.{AllZip-more}

-- a filter that all items pass keeps them all
pub filter-all : {A : Type 0} (xs : List A) → filter (λ x. true) xs ≡ xs
filter-all [] = refl
filter-all (x ∷ xs) = ap (λ ys. x ∷ ys) (filter-all xs)

-- a filter keeps an item that passes, in its place
pub filter_around : {A : Type 0} (p : A → Bool) (before : List A) (x : A) (after : List A) → p x ≡ true
    → filter p (before ++ x ∷ after) ≡ filter p before ++ x ∷ filter p after
filter_around p before x after passes = filter-append p before (x ∷ after) ∙ grind arith

-- and drops one that does not pass
pub filter_past : {A : Type 0} (p : A → Bool) (before : List A) (x : A) → p x ≡ false → filter p (before ++ x ∷ []) ≡ filter p before
filter_past p before x fails = grind (arith, filter-append p before (x ∷ []), append-nil (filter p before))

module _ (Serializes : Row → Result (String Global) Error → Type 0) where
  -- no row has no line
  pub writes_none : (a : Option (List ℕ)) → WritesRows Serializes [] a a
  writes_none a = ([], tt, Appends-nil a)

  -- the line of one row more
  pub writes_more : (before : List Row) (row : Row) (a b c : Option (List ℕ)) → WritesRows Serializes before a b → WritesRow Serializes row b c
      → WritesRows Serializes (before ++ row ∷ []) a c
  writes_more before row a b c lines line =
      let texts = lines.0 in
      let text = line.0 in (
        texts ++ text ∷ [],
        AllZip-more (λ row text. Serializes row (Ok text)) before texts row text lines.1 line.1,
        subst (Appends a c) (flat_map_more line_text [] texts text)
            (Appends-trans a b c (lines_text texts) (line_text text) lines.2 line.2),
      )

  -- the rows before one were written, and then the function returned an error for it, or a beginning of its line was written
  pub stopped_at : (error : Error) (rows before : List Row) (row : Row) (after : List Row) (a b c : Option (List ℕ)) (n m k : ℕ)
      → rows ≡ before ++ row ∷ after → WritesRows Serializes before a b → m ≡ n
      → (Serializes row (Err error) × Keeps b c × (k ≡ m)) ⊎ (BeginsRow Serializes row b c × (error ≡ Io) × (k ≡ m + 1))
      → (StopsAtRow Serializes error rows a c × (k ≡ n)) ⊎ (StopsWithinRow Serializes rows a c × (error ≡ Io) × (k ≡ n + 1))
  stopped_at error rows before row after a b c n m k split lines same (inl (refused, kept, count)) =
      inl ((before, row, after, split, refused, (lines.0, lines.1, Appends-kept a b c (lines_text lines.0) lines.2 kept)), count ∙ same)
  stopped_at error rows before row after a b c n m k split lines same (inr (begun, is, count)) =
      let sends = begun.2.sends in
      inr (
        (
          before,
          row,
          after,
          split,
          lines.0,
          lines.1,
          begun.0,
          begun.1,
          sends.sent,
          begun.2.rest,
          sends.split,
          Appends-trans a b c (lines_text lines.0) sends.sent lines.2 sends.appended,
        ),
        is,
        count ∙ ap (λ n. n + 1) same,
      )
