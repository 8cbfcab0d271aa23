-- What lines of JSON, saved from rows, read as.
use Rattle.std.proofs.Common.{◌≡◌, ◌==◌, ◌-◌, ◌<◌, ℕ, Bool, true, false, List, [], ◌∷◌, ◌++◌, ◌&&◌, length, map, nat_le, Result, Ok, Err, refl, sym, ap, subst, ◌∙◌, append_assoc, arith}
use Rattle.std.proofs.lemmas.Bool.Decides.{nat_tests}
use Rattle.std.proofs.lemmas.List.Elements.{All-cons, All-get_or, All-head, All-nil, All-tail, All-weaker}
use Rattle.std.proofs.lemmas.List.Splits.{length-slice_split, slice_split_at}
use Rattle.std.specs.List.{All, AllZip, slice_index, slice_split}
use Rattle.std.specs.Prelude.{string_bytes}
use Rattle.std.specs.Result.{result_map_both}
use Rattle.std.specs.Str.Lines.{lines, lines_of_parts, strip_carriage_return}
use Rattle.std.specs.declared.alloc.Global.{Global}
use Rattle.std.specs.declared.string.String.{String}
use Rattle.serde_json.specs.Data.{Data}
use Rattle.serde_json.specs.Written.{compact_text}
use Rattle.cookie_raw.specs.CookieText.{cookie_text}
use Rattle.cookie_raw.specs.SetCookie.{reading}
use Rattle.cookie_words.specs.Moments.{Moment}
use Rattle.cookie_forms.specs.FromJson.{cut, saved_at}
use Rattle.cookie_forms.specs.Saved.{saved_view, HasValidExpiry, Parts}
use Rattle.cookie_forms.specs.declared.saved.Saved.{Saved}
use Rattle.cookie_forms.specs.JsonText.{has_no_control}
use Rattle.cookie_forms.specs.ToJson.{written}
use Rattle.cookie_forms.specs.declared.error.SavedError.{SavedError}
use Rattle.cookie_parts.specs.Cookie.{Row}
use Rattle.cookie_parts.specs.SavedConversion.{cookie_of_saved, saved_of}
use Rattle.cookie_parts.specs.declared.error.Error.TheVariants.{Cookie}
use Rattle.cookie_serde.specs.Cuts.{cut_row, cut_rows, ReadsBack}
use Rattle.cookie_serde.specs.JsonLines.{json_cookie, JsonParsesTo, SerializesToJson, SerializesToLine}
use Rattle.cookie_serde.specs.Loading.{AreCookies}
use Rattle.cookie_serde.specs.SavedForms.{read_cookie}
use Rattle.cookie_serde.specs.Saving.{lines_text, AreTexts}
use Rattle.cookie_serde.proofs.CutRows.{form_ends, row_cut}
use Rattle.cookie_serde.proofs.ParsedJson.{saved_of_tree}

-- a line reads as a cookie
abbrev ReadsAs : List ℕ → Row → Type 0
ReadsAs line cookie = json_cookie line ≡ Ok cookie

-- a byte that is no control character
abbrev IsAbove : ℕ → Type 0
IsAbove byte = nat_le 32 byte ≡ true

first_holds : (a b : Bool) → (a && b) ≡ true → a ≡ true
first_holds true b h = refl
first_holds false b h = h

second_holds : (a b : Bool) → (a && b) ≡ true → b ≡ true
second_holds true b h = h
second_holds false b h = absurd (cc)

above : (text : List ℕ) → has_no_control text ≡ true → All IsAbove text
above [] none = All-nil IsAbove
above (byte ∷ text) none =
    All-cons IsAbove byte text (first_holds (nat_le 32 byte) (has_no_control text) none)
    (above text (second_holds (nat_le 32 byte) (has_no_control text) none))

no_line_feed : (byte : ℕ) → IsAbove byte → (byte == 10) ≡ false
no_line_feed byte is = grind (arith, nat_tests, is)

no_return : (byte : ℕ) → IsAbove byte → (byte == 13) ≡ false
no_return byte is = grind (arith, nat_tests, is)

-- a string without control characters does not end in a carriage return
not_stripped : (text : List ℕ) → has_no_control text ≡ true → strip_carriage_return text ≡ text
not_stripped [] none = refl
not_stripped (byte ∷ text) none =
    let last = All-get_or IsAbove (byte ∷ text) (length (byte ∷ text) - 1) 0 (omega arith) (above (byte ∷ text) none) in
    rw (no_return (slice_index (byte ∷ text) (length (byte ∷ text) - 1)) last) refl

part_more : (part : List ℕ) (parts : List (List ℕ)) → 0 < length parts
    → lines_of_parts (part ∷ parts) ≡ strip_carriage_return part ∷ lines_of_parts parts
part_more part [] some = absurd (omega arith)
part_more part (next ∷ parts) some = refl

-- with a line feed after it, it is a line
line_more : (text rest : List ℕ) → has_no_control text ≡ true → lines (text ++ 10 ∷ rest) ≡ text ∷ lines rest
line_more text rest none =
    let is_feed = λ (byte : ℕ). byte == 10 in
    ap lines_of_parts (slice_split_at is_feed text 10 rest (All-weaker IsAbove (λ byte. (byte == 10) ≡ false) no_line_feed text (above text none)) refl)
    ∙ part_more text (slice_split is_feed rest) (omega (arith, length-slice_split is_feed rest))
    ∙ ap (λ line. line ∷ lines rest) (not_stripped text none)

module _ (survives_saving : (cookie : Row) → reading (cookie_text cookie.raw) ≡ Ok cookie.raw → cookie_of_saved (saved_of cookie) ≡ Ok cookie)
    (reads_back : (saved : Parts Moment) (tree : Data) → HasValidExpiry saved → written saved ≡ Ok tree → saved_at tree ≡ Ok (cut saved))
    (are_lines : (saved : Parts Moment) (tree : Data) → written saved ≡ Ok tree → has_no_control (compact_text tree) ≡ true)
    (ends : (saved : Saved) → HasValidExpiry (saved_view saved)) where
  of_tree : (row : Row) (reported : Result Data SavedError) (text : String Global) → ReadsBack row → written (saved_of row) ≡ reported
      → SerializesToLine reported (Ok text)
      → (has_no_control (string_bytes text) ≡ true) × (json_cookie (string_bytes text) ≡ Ok (cut_row row))
  of_tree row (Ok tree) text back is (written_as, reads) = (
    subst (λ t. has_no_control t ≡ true) (sym written_as) (are_lines (saved_of row) tree is),
    ap read_cookie (saved_of_tree (string_bytes text) tree reads ∙ reads_back (saved_of row) tree (form_ends ends row back) is)
        ∙ ap (result_map_both (λ cookie. cookie) Cookie) (row_cut survives_saving row back),
  )
  of_tree row (Err fault) text back is written_as = absurd (cc)

  -- the string of a row is one line, which reads as the cut row
  said_back : (row : Row) (text : String Global) → ReadsBack row → SerializesToJson row (Ok text)
      → (has_no_control (string_bytes text) ≡ true) × (json_cookie (string_bytes text) ≡ Ok (cut_row row))
  said_back row text back written_as = of_tree row (written (saved_of row)) text back refl written_as

  -- so the strings of rows are as many lines
  lines_back : (rows : List Row) (texts : List (String Global)) → All ReadsBack rows → AreTexts SerializesToJson rows texts
      → lines (lines_text texts) ≡ map string_bytes texts
  lines_back [] [] back said = refl
  lines_back [] (text ∷ texts) back said = absurd said
  lines_back (row ∷ rows) [] back said = absurd said
  lines_back (row ∷ rows) (text ∷ texts) back said =
      ap lines (append_assoc (string_bytes text) (10 ∷ []) (lines_text texts))
      ∙ line_more (string_bytes text) (lines_text texts) (said_back row text (All-head ReadsBack row rows back) said.0).0
      ∙ ap (λ others. string_bytes text ∷ others) (lines_back rows texts (All-tail ReadsBack row rows back) said.1)

  -- each of which reads as its cut row
  each_back : (rows : List Row) (texts : List (String Global)) → All ReadsBack rows → AreTexts SerializesToJson rows texts
      → AllZip ReadsAs (map string_bytes texts) (cut_rows rows)
  each_back [] [] back said = tt
  each_back [] (text ∷ texts) back said = absurd said
  each_back (row ∷ rows) [] back said = absurd said
  each_back (row ∷ rows) (text ∷ texts) back said = (
    (said_back row text (All-head ReadsBack row rows back) said.0).1,
    each_back rows texts (All-tail ReadsBack row rows back) said.1,
  )

  pub come_back : (rows : List Row) (texts : List (String Global)) → All ReadsBack rows → AreTexts SerializesToJson rows texts
      → AllZip ReadsAs (lines (lines_text texts)) (cut_rows rows)
  come_back rows texts back said =
      subst (λ ls. AllZip ReadsAs ls (cut_rows rows)) (sym (lines_back rows texts back said)) (each_back rows texts back said)

-- the cookies loaded from lines are those that the lines read as
pub made_as_read : (texts : List (List ℕ)) (created read : List Row) → AreCookies JsonParsesTo texts created → AllZip ReadsAs texts read → created ≡ read
made_as_read [] [] [] are reads = refl
made_as_read [] [] (row ∷ read) are reads = absurd reads
made_as_read [] (cookie ∷ created) read are reads = absurd are
made_as_read (text ∷ texts) [] read are reads = absurd are
made_as_read (text ∷ texts) (cookie ∷ created) [] are reads = absurd reads
made_as_read (text ∷ texts) (cookie ∷ created) (row ∷ read) ((valid, is), others) (reads, rest) =
    let same = sym is ∙ reads in
    let one : cookie ≡ row = cc in
    rw (one, made_as_read texts created read others rest) refl
